-- What a dial means, and a dial that is read from afar.
use Rattle.std.specs.Prelude.{ℕ, ◌+◌, ◌-◌, ◌*◌, ◌%◌, ◌^◌, Bool, if◌then◌else◌, ◌&&◌, List, [], ◌∷◌, Some, None, Option, nat_le, nat_lt}
use Rattle.faults.specs.declared.Listing.{Listing}
use Rattle.registers.specs.declared.fault.RegisterFault.TheVariants.{Digits, Weight}
use Rattle.registers.specs.Faults.{listed}
use Rattle.registers.specs.Meaning.{Taken, Meaning, reading, wrong_length, too_large}

-- Whether a number lies within two limits.
abbrev pub within : ℕ → ℕ → ℕ → Bool
within least most n = nat_le least n && nat_le n most

-- Why digits and a weight make no dial of either kind: 1 to 8 digits, then 1 to 1,000,000 Wh.
abbrev pub dial_refusal : ℕ → ℕ → Option Listing
dial_refusal digits weight =
    if within 1 8 digits then (if within 1 1000000 weight then None else Some (listed Weight)) else Some (listed Digits)

-- Steps from one number to another on a dial that shows 0 to size - 1, and then 0 again.
abbrev pub steps : ℕ → ℕ → ℕ → ℕ
steps size from to = if nat_lt to from then to + size - from else to - from

-- One number below a limit, and how it is kept.
abbrev pub one_number : ℕ → (ℕ → ℕ) → List ℕ → Taken ℕ
one_number limit keep [] = wrong_length
one_number limit keep (x ∷ []) = if nat_lt x limit then reading (keep x) else too_large 0
one_number limit keep (x ∷ y ∷ rest) = wrong_length

-- A single dial that keeps numbers below its size, each step worth a weight of Wh, and takes lists as said.
abbrev pub turning : ℕ → ℕ → (List ℕ → Taken ℕ) → Meaning ℕ
turning size weight taken = record {
  dials = 1;
  taken = taken;
  given = λ k. nat_lt k size;
  full_scale = (size - 1) * weight;
  advance = λ from to. if nat_lt from size && nat_lt to size then steps size from to * weight else 0;
}

-- A dial takes one number of at most its digits, and keeps it as it is.
abbrev pub dial_meaning : ℕ → ℕ → Meaning ℕ
dial_meaning digits weight = turning (10 ^ digits) weight (one_number (10 ^ digits) (λ x. x))

-- A remote dial takes one number of at most 12 digits, and drops leading digits down to its own.
abbrev pub remote_meaning : ℕ → ℕ → Meaning ℕ
remote_meaning digits weight = turning (10 ^ digits) weight (one_number (10 ^ 12) (λ x. x % 10 ^ digits))
