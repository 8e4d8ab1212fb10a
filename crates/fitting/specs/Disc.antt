-- A disc with a code at each of its marks. The round of the disc is so many Wh, and a table says at how many Wh of the
-- round each code stands.
use Rattle.std.specs.Prelude.{◌≡◌, ℕ, ◌-◌, ◌^◌, ◌<◌, ◌≤◌, true, false, if◌then◌else◌, ◌&&◌, List, [], ◌∷◌, length, is_some, Some, Option, nat_le, nat_lt, position, slice_index}
use Rattle.std.specs.Option.{option_map}
use Rattle.std.proofs.Common.{arith}
use Rattle.std.proofs.lemmas.Bool.Decides.{nat_tests}
use Rattle.std.proofs.lemmas.List.Sums.{fails_before_first}
use Rattle.registers.specs.Meaning.{Meaning, Laws}
use Rattle.registers.specs.Dials.{within, steps, one_number}
use Rattle.registers.specs.DialLaws.{one_number_length, one_number_dial, one_number_from, steps_most, steps_triangle}
use Rattle.fitting.specs.declared.disc_fault.DiscFault.{DiscFault}
use Rattle.fitting.specs.declared.disc_fault.DiscFault.TheVariants.{Round, Mark}

-- The first code whose mark is not on the round.
abbrev pub off_round : ℕ → List ℕ → Option DiscFault
off_round round marks = option_map Mark (position (λ mark. nat_le round mark) marks)

-- Why a round and marks make no disc: a round of 1 to 10^15 Wh, then each mark on the round.
abbrev pub disc_fault : ℕ → List ℕ → Option DiscFault
disc_fault round marks = if within 1 (10 ^ 15) round then off_round round marks else Some Round

-- The Wh from one code to another, the disc turning one way.
abbrev pub disc_advance : ℕ → List ℕ → ℕ → ℕ → ℕ
disc_advance round marks from to =
    if nat_lt from (length marks) && nat_lt to (length marks) then steps round (slice_index marks from) (slice_index marks to) else 0

-- A disc is one dial that shows codes.
abbrev pub disc_meaning : ℕ → List ℕ → Meaning ℕ
disc_meaning round marks = record {
  dials = 1;
  taken = one_number (length marks) (λ code. code);
  given = λ code. nat_lt code (length marks);
  full_scale = round - 1;
  advance = disc_advance round marks;
}

-- A disc without a fault shows the laws.
module _ (round : ℕ) (marks : List ℕ) (sound : is_some (disc_fault round marks) ≡ false) where
  pub round_limits : (1 ≤ round) × (round ≤ 10 ^ 15)
  round_limits = grind (arith, nat_tests)

  pub mark_below : (code : ℕ) → nat_lt code (length marks) ≡ true → slice_index marks code < round
  mark_below code h = grind (arith, nat_tests, fails_before_first (λ mark. nat_le round mark) marks code 0)

  pub disc_lawful : Laws (disc_meaning round marks)
  disc_lawful = record {
    some_dial = omega arith;
    few_dials = omega arith;
    length_told = one_number_length (length marks) (λ code. code);
    dial_told = one_number_dial (length marks) (λ code. code);
    given_told = λ k. (λ h. (k ∷ [], grind (arith, nat_tests)), λ s. grind (arith, nat_tests, one_number_from (length marks) (λ code. code) s.0 k s.1));
    full_scale_most = omega (arith, round_limits);
    advance_most = λ a b. grind (arith, nat_tests, steps_most, mark_below);
    no_advance = λ a b h. grind (arith, nat_tests);
    triangle = λ a b c ha hb hc. grind (arith, nat_tests, steps_triangle, mark_below a ha, mark_below b hb, mark_below c hc);
  }
