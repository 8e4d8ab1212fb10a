-- Within the bounds each period weighs 1.
use Rattle.std.proofs.Common.{sym, ◌∙◌}
use Rattle.load_shapes.specs.EvenLaws.{everywhere_told}
use Rattle.load_shapes.proofs.even.EvenSourceSource.weight.Goals as goal

pub returns : goal.returns
returns c =
    c.then_some.ensures ∙ everywhere_told 65535 (λ period. 1) c.args.self.now.periods c.args.at c.args.period c.in_ok-count.field-0 (sym c.in_ok-count.was ∙ c.count.ensures)
