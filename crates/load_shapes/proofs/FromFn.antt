-- An array that a closure made which stays as it is: each place has what the closure gives there.
use Rattle.std.proofs.Common.{◌≡◌, ℕ, zero, suc, ◌+◌, ◌<◌, ◌≤◌, List, get_or, subst, ⊎_elim, ap, sym, ◌∙◌, arith}
use Rattle.std.proofs.lemmas.Bool.{cases_lt}
use Rattle.std.specs.Array.{IsFromFnResultFrom, IsFromFnResult}
use Rattle.std.specs.Fn.{Called}
use denote.Param.Members.{Mut}

module _ {F : Type 0} (g : Mut F (ℕ × Unit {0}) ℕ) (f : F) (rule : ℕ → ℕ) (call : (k y : ℕ) (q : F) → Called g f (k, tt) y q → (y ≡ rule k) × (q ≡ f)) where
  from_place : (ys : List ℕ) (i n : ℕ) → IsFromFnResultFrom g f ys i n → (k : ℕ) → i ≤ k → k < i + n → get_or ys k 0 ≡ rule k
  from_place ys i zero h k a b = absurd (let z : ⊥ = omega arith in z)
  from_place ys i (suc n) h k a b =
      let here = call i h.1 h.0 h.3 in
      ⊎_elim
      (λ lt. let rest : IsFromFnResultFrom g f ys (i + 1) n = subst (λ (q : F). IsFromFnResultFrom g q ys (i + 1) n) here.1 h.4 in
      from_place ys (i + 1) n rest k (omega arith) (omega arith))
      (λ ge. let same : k ≡ i = omega arith in ap (λ j. get_or ys j 0) same ∙ h.2.1 0 ∙ here.0 ∙ ap rule (sym same))
      (cases_lt i k)

  pub each_place : (ys : List ℕ) (n : ℕ) → IsFromFnResult g f ys n → (k : ℕ) → k < n → get_or ys k 0 ≡ rule k
  each_place ys n h k l = from_place ys 0 n h.each k (omega arith) (omega arith)
