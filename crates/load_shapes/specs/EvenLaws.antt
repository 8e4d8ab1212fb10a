-- A source with one well-formed shape everywhere shows the laws, and so does the even source.
use Rattle.std.specs.Prelude.{◌≡◌, ℕ, true, ◌⊎◌, Some, nat_lt}
use Rattle.std.specs.Bool.{then_some}
use Rattle.std.proofs.Common.{arith, lit<, lit≤}
use Rattle.std.proofs.lemmas.Bool.Decides.{nat_tests}
use Rattle.load_shapes.specs.declared.day.CategoryDay.{CategoryDay}
use Rattle.load_shapes.specs.Meaning.{Shape, WellFormed, Laws, may_have_periods, count_of, weight_of}
use Rattle.load_shapes.specs.Weights.{by_rule, by_rule_each, by_rule_most, by_rule_told}
use Rattle.load_shapes.specs.Even.{everywhere, even_meaning}

-- The two numbers of periods that a day may have.
pub either_periods : (periods : ℕ) → may_have_periods periods ≡ true → (periods ≡ 48) ⊎ (periods ≡ 96)
either_periods periods h = grind (arith, nat_tests)

pub everywhere_lawful : (periods : ℕ) (s : Shape) → may_have_periods periods ≡ true → WellFormed periods s → Laws (everywhere periods s)
everywhere_lawful periods s h w = record {
  day_periods = either_periods periods h;
  well_formed = λ at t e. let same : s ≡ t = grind (arith, nat_tests) in rw (← same) w;
  no_category = λ at l. grind (arith, nat_tests);
  no_day = λ at l. grind (arith, nat_tests);
}

-- Where it has a shape that follows a rule, a period's weight is the rule's.
pub everywhere_told : (count : ℕ) (weigh : ℕ → ℕ) (periods : ℕ) (at : CategoryDay) (period n : ℕ)
    → Some n ≡ count_of ((everywhere periods (record { count = count; weights = by_rule weigh periods })).shape at)
    → then_some (nat_lt period periods) (weigh period) ≡ weight_of ((everywhere periods (record { count = count; weights = by_rule weigh periods })).shape at) period
everywhere_told count weigh periods at period n e = grind (arith, nat_tests, by_rule_told count weigh periods period)

pub even_lawful : (periods : ℕ) → may_have_periods periods ≡ true → Laws (even_meaning periods)
even_lawful periods h =
    everywhere_lawful periods (record { count = 65535; weights = by_rule (λ period. 1) periods }) h
    (record { count_most = lit< tt; one_weight_each = by_rule_each (λ period. 1) periods; weight_most = by_rule_most (λ period. 1) periods (λ period l. lit≤ tt) })
