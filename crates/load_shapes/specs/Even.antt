-- What the even source means.
use Rattle.std.specs.Prelude.{ℕ, if◌then◌else◌, Some, None, Option}
use Rattle.load_shapes.specs.declared.fault.SourceFault.{SourceFault}
use Rattle.load_shapes.specs.declared.fault.SourceFault.TheVariants.{Periods}
use Rattle.load_shapes.specs.Meaning.{Shape, Meaning, is_within_bounds, may_have_periods}
use Rattle.load_shapes.specs.Weights.{by_rule}

-- One shape for every category and day that a source may speak of.
abbrev pub everywhere : ℕ → Shape → Meaning
everywhere periods s = record {
  periods = periods;
  shape = λ at. if is_within_bounds at then Some s else None;
}

-- Every period weighs 1, and the count is the largest there is.
abbrev pub even_meaning : ℕ → Meaning
even_meaning periods = everywhere periods (record { count = 65535; weights = by_rule (λ period. 1) periods })

-- Why so many periods make no even source.
abbrev pub even_fault : ℕ → Option SourceFault
even_fault periods = if may_have_periods periods then None else Some Periods
