-- The whole shape of a day at once, as code holds it.
use Rattle.std.specs.Prelude.{Option, slice_index}
use Rattle.std.specs.Option.{option_map}
use Rattle.load_shapes.specs.declared.day.DayShape.{DayShape}
use Rattle.load_shapes.specs.Meaning.{Shape}
use Rattle.load_shapes.specs.Weights.{by_rule}

-- A shape in 96 places: at each period its weight, and 0 past the periods of the day.
abbrev pub laid_out : Shape → DayShape
laid_out s = record { count = s.count; weights = by_rule (λ period. slice_index s.weights period) 96 }

-- The answer to the question for a day's whole shape.
abbrev pub day_shape_of : Option Shape → Option DayShape
day_shape_of = option_map laid_out
