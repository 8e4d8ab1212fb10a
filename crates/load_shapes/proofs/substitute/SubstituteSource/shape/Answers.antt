use Rattle.std.proofs.Common.{rules}
use Rattle.load_shapes.proofs.Chosen.{or_else_cases}
use Rattle.load_shapes.proofs.substitute.SubstituteSource.shape.Goals as goal

pub returns : goal.returns
returns g c = or_else_cases c.shape-first.result c.or_else.result _ _ c.or_else.ensures (λ none second. search rules) (λ x some first. search rules)
