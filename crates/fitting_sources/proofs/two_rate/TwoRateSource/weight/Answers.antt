-- Within the bounds a half hour weighs what its rate says.
use Rattle.std.proofs.Common.{sym, ap, ◌∙◌}
use Rattle.std.specs.Prelude.{nat_lt}
use Rattle.std.specs.Bool.{then_some}
use Rattle.load_shapes.specs.EvenLaws.{everywhere_told}
use Rattle.fitting_sources.specs.TwoRate.{rate}
use Rattle.fitting_sources.proofs.two_rate.TwoRateSource.weight.Goals as goal

pub returns : goal.returns
returns c =
    let s = c.args.self.now in
    c.then_some.ensures ∙ ap (then_some (nat_lt c.args.period 48)) c.rate.ensures ∙ everywhere_told 1 (rate s.night s.day) 48 c.args.at c.args.period c.in_ok-count.field-0 (sym c.in_ok-count.was ∙ c.count.ensures)
