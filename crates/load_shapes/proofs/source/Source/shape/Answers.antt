-- Each place was filled with what the question for its period answers.
use Rattle.std.proofs.Common.{unwrap_or, sym, ◌∙◌, rules}
use Rattle.load_shapes.specs.Meaning.{weight_of}
use Rattle.load_shapes.proofs.Asked.{asked_each}
use Rattle.load_shapes.proofs.FromFn.{each_place}
use Rattle.load_shapes.proofs.source.Source.shape.Goals as goal

pub returns : goal.returns
returns g c =
    let o = (g.Self.Source.meaning c.args.self.now).shape c.args.at in
    let made = c.from_fn-weights.ensures.items in
    asked_each o c.in_ok-count.count c.from_fn-weights.result (sym c.in_ok-count.was ∙ c.count.ensures) made.long
    (each_place _ _ (λ k. unwrap_or (weight_of o k) 0) (λ k y q called. search rules) c.from_fn-weights.result 96 made)
