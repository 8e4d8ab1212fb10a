-- A layer shows the laws where the sources below it do.
use Rattle.std.specs.Prelude.{◌≡◌, ℕ, Some}
use Rattle.std.proofs.Common.{arith}
use Rattle.std.proofs.lemmas.Bool.Decides.{nat_tests}
use Rattle.load_shapes.specs.declared.day.CategoryDay.{CategoryDay}
use Rattle.load_shapes.specs.Meaning.{Shape, Meaning, WellFormed, Laws}
use Rattle.load_shapes.specs.Layers.{de_minimis_meaning, standing_in, substitute_meaning}

pub de_minimis_lawful : (threshold : ℕ) (m : Meaning) → Laws m → Laws (de_minimis_meaning threshold m)
de_minimis_lawful threshold m h = record {
  day_periods = h.day_periods;
  well_formed = λ at s e. h.well_formed at s (grind (arith, nat_tests));
  no_category = λ at l. grind (arith, nat_tests, h.no_category at l);
  no_day = λ at l. grind (arith, nat_tests, h.no_day at l);
}

-- What stands in is the second source's, of a day with as many periods.
pub standing_in_well_formed : (m n : Meaning) → Laws n → (at : CategoryDay) (s : Shape) → standing_in m n at ≡ Some s → WellFormed m.periods s
standing_in_well_formed m n k at s e =
    let same : n.periods ≡ m.periods = grind (arith, nat_tests) in
    let own : n.shape at ≡ Some s = grind (arith, nat_tests) in
    rw (← same) (k.well_formed at s own)

pub substitute_lawful : (m n : Meaning) → Laws m → Laws n → Laws (substitute_meaning m n)
substitute_lawful m n h k = record {
  day_periods = h.day_periods;
  well_formed = λ at s e. grind (arith, nat_tests, h.well_formed at s, standing_in_well_formed m n k at s);
  no_category = λ at l. grind (arith, nat_tests, h.no_category at l, k.no_category at l);
  no_day = λ at l. grind (arith, nat_tests, h.no_day at l, k.no_day at l);
}
