-- A list that is written out is one of bytes.
use Rattle.std.proofs.Common.{◌≡◌, ℕ, zero, suc, true, nat_lt, List, [], ◌∷◌, lit<}
use Rattle.std.specs.List.{list_all}
use Rattle.std.proofs.lemmas.Bool.{and_parts, ltb-true}
use Rattle.shape_table.specs.Layout.{Bytes}

pub octets : (xs : List ℕ) → list_all (λ x. nat_lt x 256) xs ≡ true → Bytes xs
octets [] h i = lit< tt
octets (x ∷ xs) h zero = ltb-true x 256 (and_parts (nat_lt x 256) (list_all (λ y. nat_lt y 256) xs) h).0
octets (x ∷ xs) h (suc i) = octets xs (and_parts (nat_lt x 256) (list_all (λ y. nat_lt y 256) xs) h).1 i
