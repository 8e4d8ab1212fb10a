-- A period that the first source's shape has not, the second's has not either.
use Rattle.std.proofs.Common.{◌≡◌, sym, ◌∙◌, rules}
use Rattle.load_shapes.specs.Meaning.{weight_of}
use Rattle.load_shapes.specs.Layers.{standing_in}
use Rattle.load_shapes.proofs.Chosen.{or_else_cases, weight_of_second}
use Rattle.load_shapes.proofs.substitute.SubstituteSource.weight.Goals as goal

pub returns : goal.returns
returns g c =
    let m = g.S.Source.meaning c.args.self.now.first in
    let n = g.T.Source.meaning c.args.self.now.second in
    or_else_cases c.weight-first.result c.or_else.result _ _ c.or_else.ensures
    (λ none second.
    let told : c.or_else.result ≡ weight_of (standing_in m n c.args.at) c.args.period = search rules in
    told ∙ sym (weight_of_second m n (g.S.Source.lawful c.args.self.now.first) (g.T.Source.lawful c.args.self.now.second) c.args.at c.args.period (sym c.weight-first.ensures ∙ none)))
    (λ x some first. search rules)
