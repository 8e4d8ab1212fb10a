-- No weight of a day that a source answers with is above 10,000.
use Rattle.std.proofs.Common.{◌≡◌, ℕ, ◌≤◌, get_or, IfSome, Some, None, Option, refl}
use Rattle.load_shapes.specs.declared.day.DayShape.{DayShape}
use Rattle.load_shapes.specs.Meaning.{Shape, WellFormed}
use Rattle.load_shapes.specs.Weights.{by_rule_most}
use Rattle.load_shapes.specs.Days.{day_shape_of}

pub shape_most : (periods : ℕ) (o : Option Shape) → ((s : Shape) → o ≡ Some s → WellFormed periods s)
    → (r : Option DayShape) → r ≡ day_shape_of o → IfSome r (λ s. (period : ℕ) → get_or s.weights period 0 ≤ 10000)
shape_most p None h r e = rw e tt
shape_most p (Some s) h r e = rw e (by_rule_most (λ i. get_or s.weights i 0) 96 (λ i l. (h s refl).weight_most i))
