-- A two-rate source: the half hours of the night weigh one number, those of the day another.
use Rattle.std.specs.Prelude.{ℕ, ◌≤◌, if◌then◌else◌, nat_lt, refl}
use Rattle.std.proofs.Common.{lit<, arith}
use Rattle.std.proofs.lemmas.Bool.Decides.{nat_tests}
use Rattle.load_shapes.specs.Meaning.{Meaning, Laws}
use Rattle.load_shapes.specs.Weights.{by_rule, by_rule_each, by_rule_most}
use Rattle.load_shapes.specs.Even.{everywhere}
use Rattle.load_shapes.specs.EvenLaws.{everywhere_lawful}

-- The night ends at seven in the morning, after fourteen half hours.
abbrev pub rate : ℕ → ℕ → ℕ → ℕ
rate night day period = if nat_lt period 14 then night else day

-- Every category's day has the two rates, with a count of 1.
abbrev pub two_rate_meaning : ℕ → ℕ → Meaning
two_rate_meaning night day = everywhere 48 (record { count = 1; weights = by_rule (rate night day) 48 })

rate_most : (night day : ℕ) → night ≤ 10000 → day ≤ 10000 → (period : ℕ) → rate night day period ≤ 10000
rate_most night day n d period = grind (arith, nat_tests)

-- It shows the laws where both weights are at most 10,000.
pub two_rate_lawful : (night day : ℕ) → night ≤ 10000 → day ≤ 10000 → Laws (two_rate_meaning night day)
two_rate_lawful night day n d =
    everywhere_lawful 48 (record { count = 1; weights = by_rule (rate night day) 48 }) refl
    (record { count_most = lit< tt; one_weight_each = by_rule_each (rate night day) 48; weight_most = by_rule_most (rate night day) 48 (λ period l. rate_most night day n d period) })
