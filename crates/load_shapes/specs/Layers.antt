-- What the layers over sources mean. A layer is a source again.
use Rattle.std.specs.Prelude.{ℕ, if◌then◌else◌, Some, None, Option, ◌==◌, nat_lt}
use Rattle.std.specs.Option.{option_or}
use Rattle.load_shapes.specs.declared.day.CategoryDay.{CategoryDay}
use Rattle.load_shapes.specs.declared.fault.SourceFault.{SourceFault}
use Rattle.load_shapes.specs.declared.fault.SourceFault.TheVariants.{PeriodsDiffer}
use Rattle.load_shapes.specs.Meaning.{Shape, Meaning}

-- A shape, unless its data count is under a threshold.
abbrev pub unless_under : ℕ → Option Shape → Option Shape
unless_under threshold None = None
unless_under threshold (Some s) = if nat_lt s.count threshold then None else Some s

-- The de-minimis layer: a source without the shapes that rest on too little data.
abbrev pub de_minimis_meaning : ℕ → Meaning → Meaning
de_minimis_meaning threshold m = record {
  periods = m.periods;
  shape = λ at. unless_under threshold (m.shape at);
}

-- What a second source may stand in with: its own shape, if its days have as many periods.
abbrev pub standing_in : Meaning → Meaning → CategoryDay → Option Shape
standing_in m n at = if m.periods == n.periods then n.shape at else None

-- The substitute layer: the first source's shape and, where that has none, the second's.
abbrev pub substitute_meaning : Meaning → Meaning → Meaning
substitute_meaning m n = record {
  periods = m.periods;
  shape = λ at. option_or (m.shape at) (standing_in m n at);
}

-- Why a second source cannot stand in for a first.
abbrev pub substitute_fault : Meaning → Meaning → Option SourceFault
substitute_fault m n = if m.periods == n.periods then None else Some PeriodsDiffer
