-- What the first place that passes a test says of each place.
use Rattle.std.specs.Prelude.{◌≡◌, ℕ, ◌<◌, ◌≤◌, Bool, true, false, Some, None, Option, slice_index, refl}
use Rattle.std.specs.List.{range_with_len, position_or_len}
use Rattle.std.specs.Option.{option_or}
use Rattle.std.proofs.Common.{sym, ap, ◌∙◌, ⊎_elim, zero-add, arith}
use Rattle.std.proofs.lemmas.Bool.{cases_lt, cases_Bool, both_ways}
use Rattle.std.proofs.lemmas.List.FromFn.{length-range_with_len, get_or-range_with_len}
use Rattle.std.proofs.lemmas.List.Folds.{find_at, list_all_at}
use Rattle.std.proofs.lemmas.List.Sums.{position_or_len_is, fails_before_first, passes_at_first}
use Rattle.std.proofs.lemmas.Option.{slice_get-get_or, slice_get_past}
use Rattle.shape_table.specs.First.{first_that, each_below}

pub first_none : {X : Type 0} (x y : Option X) → option_or x y ≡ None → (x ≡ None) × (y ≡ None)
first_none None y e = (refl, e)
first_none (Some x) y e = absurd (cc)

-- Place k of the numbers below a limit holds k.
place : (n k : ℕ) → k < n → slice_index (range_with_len 0 n) k ≡ k
place n k l = get_or-range_with_len 0 n k 0 l ∙ zero-add k

-- Where the first that passes would stand: at it, or past all.
module _ (test : ℕ → Bool) (n : ℕ) where
  first_place : ℕ
  first_place = position_or_len test (range_with_len 0 n)

  at_first : first_place < n → first_that test n ≡ Some first_place
  unfolding first_place
  at_first l =
      let size = length-range_with_len 0 n in
      find_at test (range_with_len 0 n)
      ∙ slice_get-get_or (range_with_len 0 n) first_place 0 (omega arith)
      ∙ ap Some (place n first_place l)

  past_all : n ≤ first_place → first_that test n ≡ None
  unfolding first_place
  past_all l =
      let size = length-range_with_len 0 n in
      find_at test (range_with_len 0 n) ∙ slice_get_past (range_with_len 0 n) first_place (omega arith)

  fails_before : (k : ℕ) → k < first_place → k < n → test k ≡ false
  unfolding first_place
  fails_before k l m = sym (ap test (place n k m)) ∙ fails_before_first test (range_with_len 0 n) k 0 l

  passes_at : first_place < n → test first_place ≡ true
  unfolding first_place
  passes_at l = let size = length-range_with_len 0 n in sym (ap test (place n first_place l)) ∙ passes_at_first test (range_with_len 0 n) 0 (omega arith)

  is_place : (k : ℕ) → k ≤ n → ((j : ℕ) → j < k → test j ≡ false) → (k < n → test k ≡ true) → first_place ≡ k
  unfolding first_place
  is_place k l before here =
      let size = length-range_with_len 0 n in
      position_or_len_is test (range_with_len 0 n) k 0 (omega arith)
      (λ j m. ap test (place n j (omega arith)) ∙ before j m)
      (λ m. let lt : k < n = omega arith in ap test (place n k lt) ∙ here lt)

  -- Where there is no first, none passes.
  pub none_that : first_that test n ≡ None → (k : ℕ) → k < n → test k ≡ false
  none_that e k l =
      ⊎_elim (λ lt. let there = at_first lt in absurd (cc)) (λ ge. fails_before k (omega arith) l) (cases_lt first_place n)

  -- Where none passes, there is no first.
  pub first_that_none : ((k : ℕ) → k < n → test k ≡ false) → first_that test n ≡ None
  first_that_none h = let p = is_place n (omega arith) h (λ l. absurd (omega arith)) in past_all (omega arith)

  -- The first is below the limit and passes, and none before it does.
  pub first_that_is : (k : ℕ) → first_that test n ≡ Some k → (k < n) × (test k ≡ true) × ((j : ℕ) → j < k → test j ≡ false)
  first_that_is k e =
      ⊎_elim
      (λ lt.
      let there = at_first lt in
      let same : first_place ≡ k = cc in
      (omega arith, sym (ap test same) ∙ passes_at lt, λ j m. fails_before j (omega arith) (omega arith)))
      (λ ge. let none = past_all ge in absurd (cc))
      (cases_lt first_place n)

  -- What passes, with none before it that does, is the first.
  pub is_first_that : (k : ℕ) → k < n → test k ≡ true → ((j : ℕ) → j < k → test j ≡ false) → first_that test n ≡ Some k
  is_first_that k l t h = let p = is_place k (omega arith) h (λ m. t) in at_first (omega arith) ∙ ap Some p

  pub each_below_is : each_below test n ≡ true → (k : ℕ) → k < n → test k ≡ true
  each_below_is e k l =
      let size = length-range_with_len 0 n in
      ⊎_elim
      (λ t. t)
      (λ f. absurd (both_ways (each_below test n) (list_all_at test (range_with_len 0 n) k 0 (omega arith) (ap test (place n k l) ∙ f)) e))
      (cases_Bool (test k))
