-- A day's weights, written one period after the other into 96 places of 0.
use Rattle.std.proofs.Common.{◌≡◌, ℕ, ◌+◌, ◌<◌, ◌≤◌, ◌≢◌, List, length, get_or, slice_get, set, replicate, unwrap_or, sym, ap, ◌∙◌, ⊎_elim, arith, length-set, get_or-set_other, get_or-set_same}
use Rattle.std.proofs.lemmas.List.{get_or_past, get_or-replicate, length-replicate}
use Rattle.std.proofs.lemmas.Option.{unwrap_or-slice_get}
use Rattle.std.proofs.lemmas.Bool.{cases_lt, cases_eq}

-- So many places hold what the list has there, and the places after them 0.
pub record Filled (weights : List ℕ) (written : ℕ) (places : List ℕ) : Type 0 where
  pub size : length places ≡ 96
  pub before : (k : ℕ) → k < written → get_or places k 0 ≡ get_or weights k 0
  pub after : (k : ℕ) → written ≤ k → get_or places k 0 ≡ 0

pub filled_none : (weights : List ℕ) → Filled weights 0 (replicate 96 0)
filled_none weights = record {
  size = length-replicate {A = ℕ} 96 0;
  before = λ k l. absurd (let z : ⊥ = omega arith in z);
  after = λ k l.
      ⊎_elim
      (λ lt. get_or-replicate {A = ℕ} 96 k 0 0 lt)
      (λ ge. let n = length-replicate {A = ℕ} 96 0 in get_or_past {X = ℕ} (replicate 96 0) k 0 (omega arith))
      (cases_lt k 96);
}

pub filled_more : (weights : List ℕ) (written : ℕ) (places : List ℕ) (w : ℕ) → written < 96 → w ≡ get_or weights written 0 → Filled weights written places → Filled weights (written + 1) (set places written w)
filled_more weights n places w l e h =
    let s = h.size in
    record {
      size = length-set places n w ∙ h.size;
      before = λ k m.
          ⊎_elim
          (λ same. let lt : n < length places = omega arith in ap (λ i. get_or (set places n w) i 0) same ∙ get_or-set_same places n w 0 lt ∙ e ∙ ap (λ i. get_or weights i 0) (sym same))
          (λ other. let ne : k ≢ n = other in get_or-set_other places n k w 0 ne ∙ h.before k (omega arith))
          (cases_eq k n);
      after = λ k m. let ne : k ≢ n = (λ q. omega arith) in get_or-set_other places n k w 0 ne ∙ h.after k (omega arith);
    }

-- With all written, each place holds its weight, or 0 where there is none.
pub filled_all : (weights places : List ℕ) (written : ℕ) → written ≡ length weights → Filled weights written places → (k : ℕ) → get_or places k 0 ≡ unwrap_or (slice_get weights k) 0
filled_all weights places n e h k =
    ⊎_elim
    (λ lt. h.before k (omega arith) ∙ sym (unwrap_or-slice_get weights k 0))
    (λ ge. h.after k (omega arith) ∙ sym (unwrap_or-slice_get weights k 0 ∙ get_or_past weights k 0 ge))
    (cases_lt k (length weights))
