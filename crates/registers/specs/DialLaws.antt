-- Every dial that turns over shows the laws of a register. What a list of one number comes to, and the steps between
-- two numbers, serve registers of your own too.
use Rattle.std.specs.Prelude.{◌≡◌, ℕ, ◌+◌, ◌-◌, ◌*◌, ◌%◌, ◌^◌, ◌<◌, ◌≤◌, true, if◌then◌else◌, ◌&&◌, ◌↔◌, List, [], ◌∷◌, length, ◌≢◌, nat_lt, refl}
use Rattle.std.proofs.Common.{add-mul, mul-le-mul, mul-le-mul_right, mod-lt, mod-eq_of_lt, arith, lit<}
use Rattle.std.proofs.Math.Nat.{one-le-pow, pow-le-pow_right}
use Rattle.std.proofs.lemmas.Bool.Decides.{nat_tests}
use Rattle.registers.specs.Meaning.{Laws, reading, wrong_length, too_large}
use Rattle.registers.specs.Dials.{steps, one_number, turning, dial_meaning, remote_meaning}

-- What a list of one number comes to.
module _ (limit : ℕ) (keep : ℕ → ℕ) where
  pub one_number_length : (xs : List ℕ) → (one_number limit keep xs ≡ wrong_length) ↔ (length xs ≢ 1)
  one_number_length xs = grind (arith, nat_tests)

  pub one_number_dial : (xs : List ℕ) (dial : ℕ) → one_number limit keep xs ≡ too_large dial → dial < 1
  one_number_dial xs dial e = grind (arith, nat_tests)

  -- a reading comes from one number below the limit
  pub one_number_from : (xs : List ℕ) (k : ℕ) → one_number limit keep xs ≡ reading k → (x : ℕ) × (x < limit) × (keep x ≡ k)
  one_number_from xs k e = grind (arith, nat_tests)

  -- and every number below the limit gives one
  pub one_number_gives : (x k : ℕ) → x < limit → keep x ≡ k → one_number limit keep (x ∷ []) ≡ reading k
  one_number_gives x k h e = grind (arith, nat_tests)

-- The steps between two numbers, on either side of the turn-over.
pub steps_most : (size from to : ℕ) → from < size → to < size → steps size from to ≤ size - 1
steps_most size from to hf ht = grind (arith, nat_tests)

pub steps_triangle : (size a b c : ℕ) → a < size → b < size → c < size → steps size a c ≤ steps size a b + steps size b c
steps_triangle size a b c ha hb hc = grind (arith, nat_tests)

-- A dial of any size and weight whose full scale keeps to 10^15, and which can be brought to show each number below
-- its size.
module _ (size weight limit : ℕ) (keep : ℕ → ℕ) (most : (size - 1) * weight ≤ 10 ^ 15) (kept : (x : ℕ) → x < limit → keep x < size) (shown : (k : ℕ) → k < size → (k < limit) × (keep k ≡ k)) where
  abbrev advanced : ℕ → ℕ → ℕ
  advanced from to = if nat_lt from size && nat_lt to size then steps size from to * weight else 0

  triangle : (a b c : ℕ) → nat_lt a size ≡ true → nat_lt b size ≡ true → nat_lt c size ≡ true → advanced a c ≤ advanced a b + advanced b c
  triangle a b c ha hb hc =
      let t : steps size a c ≤ steps size a b + steps size b c = grind (arith, nat_tests) in
      let bound = mul-le-mul_right weight t in
      let parts = add-mul (steps size a b) (steps size b c) weight in
      grind (arith, nat_tests)

  pub turning_lawful : Laws (turning size weight (one_number limit keep))
  turning_lawful = record {
    some_dial = omega arith;
    few_dials = omega arith;
    length_told = one_number_length limit keep;
    dial_told = one_number_dial limit keep;
    given_told = λ k. (λ h. (k ∷ [], grind (arith, nat_tests, shown k)), λ s. grind (arith, nat_tests, one_number_from limit keep s.0 k s.1, kept));
    full_scale_most = most;
    advance_most = λ from to. grind (arith, nat_tests, steps_most, mul-le-mul_right {m = steps size from to} {n = size - 1} weight);
    no_advance = λ from to h. grind (arith, nat_tests);
    triangle = triangle;
  }

-- The limits of a dial: it shows 1 to 10^8 numbers, and its full scale is far below 10^15.
pub size_least : (digits : ℕ) → 1 ≤ 10 ^ digits
size_least digits = one-le-pow digits 10 (lit< tt)

pub size_most : (digits : ℕ) → digits ≤ 8 → 10 ^ digits ≤ 100000000
size_most digits h = pow-le-pow_right {n = 10} (lit< tt) {i = digits} {j = 8} h

full_scale_most : (digits weight : ℕ) → digits ≤ 8 → weight ≤ 1000000 → (10 ^ digits - 1) * weight ≤ 10 ^ 15
full_scale_most digits weight hd hw =
    let p : 10 ^ digits - 1 ≤ 100000000 = omega (arith, size_most digits hd) in
    omega (arith, mul-le-mul p hw)

pub dial_lawful : (digits weight : ℕ) → digits ≤ 8 → weight ≤ 1000000 → Laws (dial_meaning digits weight)
dial_lawful digits weight hd hw =
    turning_lawful (10 ^ digits) weight (10 ^ digits) (λ x. x) (full_scale_most digits weight hd hw) (λ x h. h) (λ k h. (h, refl))

pub remote_lawful : (digits weight : ℕ) → digits ≤ 8 → weight ≤ 1000000 → Laws (remote_meaning digits weight)
remote_lawful digits weight hd hw =
    let high : 10 ^ digits ≤ 100000000 = size_most digits hd in
    turning_lawful (10 ^ digits) weight (10 ^ 12) (λ x. x % 10 ^ digits) (full_scale_most digits weight hd hw)
    (λ x h. mod-lt x (size_least digits)) (λ k h. (omega arith, mod-eq_of_lt h))
