-- A profile: one list of weights for every category and day.
use Rattle.std.specs.Prelude.{◌≡◌, ℕ, ◌^◌, ◌<◌, ◌≤◌, true, false, if◌then◌else◌, List, length, is_some, Some, None, Option, nat_lt, position, slice_index, refl}
use Rattle.std.specs.Option.{option_map}
use Rattle.std.proofs.Common.{arith}
use Rattle.std.proofs.lemmas.Bool.Decides.{nat_tests}
use Rattle.std.proofs.lemmas.List.{get_or_past}
use Rattle.std.proofs.lemmas.List.Sums.{fails_before_first}
use Rattle.load_shapes.specs.Meaning.{Meaning, Laws, may_have_periods}
use Rattle.load_shapes.specs.Even.{everywhere}
use Rattle.load_shapes.specs.EvenLaws.{everywhere_lawful}
use Rattle.fitting_sources.specs.declared.profile_fault.ProfileFault.{ProfileFault}
use Rattle.fitting_sources.specs.declared.profile_fault.ProfileFault.TheVariants.{Periods, Weight}

-- Why weights make no profile: 48 or 96 of them, then none above 10,000.
abbrev pub profile_fault : List ℕ → Option ProfileFault
profile_fault weights = if may_have_periods (length weights) then option_map Weight (position (λ weight. nat_lt 10000 weight) weights) else Some Periods

-- Every category's day has these weights, with the same count.
abbrev pub profile_meaning : ℕ → List ℕ → Meaning
profile_meaning count weights = everywhere (length weights) (record { count = count; weights = weights })

-- Where none is the first above 10,000, no weight is.
none_heavy : (weights : List ℕ) → position (λ weight. nat_lt 10000 weight) weights ≡ None → (period : ℕ) → slice_index weights period ≤ 10000
none_heavy weights e period = grind (arith, nat_tests, fails_before_first (λ weight. nat_lt 10000 weight) weights period 0, get_or_past weights period 0)

-- It shows the laws where its count has 16 bits and its weights have no fault.
pub profile_lawful : (count : ℕ) (weights : List ℕ) → count < 2 ^ 16 → is_some (profile_fault weights) ≡ false → Laws (profile_meaning count weights)
profile_lawful count weights fits sound =
    let periods : may_have_periods (length weights) ≡ true = grind (arith, nat_tests) in
    let light : position (λ weight. nat_lt 10000 weight) weights ≡ None = grind (arith, nat_tests) in
    everywhere_lawful (length weights) (record { count = count; weights = weights }) periods
    (record { count_most = fits; one_weight_each = refl; weight_most = none_heavy weights light })
