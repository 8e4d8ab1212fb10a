-- What a shape means that is read where it lies.
use Rattle.std.specs.Prelude.{map}
use Rattle.load_shapes.specs.Meaning.{Shape}
use Rattle.shape_table.specs.declared.shape.ShapeInPlace.{ShapeInPlace}
use Rattle.shape_table.specs.Layout.{u16_at}

-- Its count, and each weight of its row.
abbrev pub shape_in : ShapeInPlace → Shape
shape_in place = record { count = place.count; weights = map (λ weight. u16_at weight 0) place.row.now }
