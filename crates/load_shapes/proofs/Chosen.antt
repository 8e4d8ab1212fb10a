-- What the substitute layer answers: the first source's answer, or else the second's.
use Rattle.std.proofs.Common.{◌≡◌, ℕ, ◌≤◌, MatchOption, length, Some, None, Option, sym, refl, ◌∙◌, ⊎_elim, arith}
use Rattle.std.specs.Option.{option_or}
use Rattle.std.proofs.lemmas.Bool.{cases_lt}
use Rattle.std.proofs.lemmas.Option.{slice_get-get_or, slice_get_past}
use Rattle.load_shapes.specs.declared.day.CategoryDay.{CategoryDay}
use Rattle.load_shapes.specs.Meaning.{Shape, Meaning, Laws, WellFormed, weight_of}
use Rattle.load_shapes.specs.Layers.{standing_in}
use Rattle.load_shapes.specs.LayerLaws.{standing_in_well_formed}

-- `or_else` chose the first, if it is there, or what the closure gave, of which P holds.
pub or_else_cases : {X : Type 0} (first chosen wanted : Option X) (P : Type 0) → MatchOption first P (λ x. chosen ≡ Some x)
    → (first ≡ None → P → chosen ≡ wanted) → ((x : X) → first ≡ Some x → chosen ≡ Some x → chosen ≡ wanted) → chosen ≡ wanted
or_else_cases None chosen wanted P h a b = a refl h
or_else_cases (Some x) chosen wanted P h a b = b x refl h

-- Past the periods of the day no shape has a weight.
past_periods : (periods period : ℕ) (o : Option Shape) → ((s : Shape) → o ≡ Some s → WellFormed periods s) → periods ≤ period → weight_of o period ≡ None
past_periods p i None h l = refl
past_periods p i (Some s) h l = let n = (h s refl).one_weight_each in slice_get_past s.weights i (omega arith)

-- Where the first of two shapes of a day has no such period, the second has none either.
no_such_period : (periods period : ℕ) (o q : Option Shape) → ((s : Shape) → o ≡ Some s → WellFormed periods s) → ((s : Shape) → q ≡ Some s → WellFormed periods s)
    → weight_of o period ≡ None → weight_of (option_or o q) period ≡ weight_of q period
no_such_period p i None q h k e = refl
no_such_period p i (Some s) q h k e =
    let n = (h s refl).one_weight_each in
    ⊎_elim
    (λ lt. let there = slice_get-get_or s.weights i 0 lt in absurd (cc))
    (λ ge. e ∙ sym (past_periods p i q k (omega arith)))
    (cases_lt i (length s.weights))

pub weight_of_second : (m n : Meaning) → Laws m → Laws n → (at : CategoryDay) (period : ℕ) → weight_of (m.shape at) period ≡ None
    → weight_of (option_or (m.shape at) (standing_in m n at)) period ≡ weight_of (standing_in m n at) period
weight_of_second m n h k at period = no_such_period m.periods period (m.shape at) (standing_in m n at) (h.well_formed at) (standing_in_well_formed m n k at)
