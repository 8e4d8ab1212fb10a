-- A panel of sealed dials, each of which can only show 0: many numbers, and no energy.
use Rattle.std.specs.Prelude.{◌≡◌, ℕ, ◌≤◌, true, not, if◌then◌else◌, List, length, position, replicate, ◌==◌, refl}
use Rattle.std.specs.List.{position_or_len}
use Rattle.std.specs.Option.{option_map_or}
use Rattle.std.proofs.Common.{arith}
use Rattle.std.proofs.lemmas.List.{get_or-replicate, length-replicate}
use Rattle.std.proofs.lemmas.List.Sums.{passes_at_first}
use Rattle.std.proofs.lemmas.Bool.Decides.{nat_tests}
use Rattle.registers.specs.Meaning.{Meaning, Laws, Taken, reading, wrong_length, too_large}

-- What becomes of one number for each dial: the first that is not 0 is at fault.
abbrev pub all_zero : List ℕ → Taken ℕ
all_zero xs = option_map_or too_large (position (λ x. not (x == 0)) xs) (reading 0)

abbrev pub panel_meaning : ℕ → Meaning ℕ
panel_meaning dials = record {
  dials = dials;
  taken = λ xs. if length xs == dials then all_zero xs else wrong_length;
  given = λ k. (k == 0);
  full_scale = 0;
  advance = λ a b. 0;
}

-- A panel of 1 to 64 dials shows the laws.
module _ (dials : ℕ) (least : 1 ≤ dials) (most : dials ≤ 64) where
  given_by : (k : ℕ) → (k == 0) ≡ true → (xs : List ℕ) × ((panel_meaning dials).taken xs ≡ reading k)
  given_by k h =
      let zeros : List ℕ = replicate dials 0 in
      let first = position_or_len (λ x. not (x == 0)) zeros in
      (zeros, grind (arith, nat_tests, length-replicate {A = ℕ} dials 0, passes_at_first (λ x. not (x == 0)) zeros 0, get_or-replicate {A = ℕ} dials first 0 0))

  pub panel_lawful : Laws (panel_meaning dials)
  panel_lawful = record {
    some_dial = least;
    few_dials = most;
    length_told = λ xs. grind (arith, nat_tests);
    dial_told = λ xs dial e. grind (arith, nat_tests);
    given_told = λ k. (given_by k, λ s. grind (arith, nat_tests));
    full_scale_most = omega arith;
    advance_most = λ a b. omega arith;
    no_advance = λ a b h. refl;
    triangle = λ a b c ha hb hc. omega arith;
  }
