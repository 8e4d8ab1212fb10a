use Rattle.load_shapes.proofs.Bounds.{shape_most}
use Rattle.load_shapes.proofs.bounded.shape.Goals as goal

pub returns-clause-most : goal.returns-clause-most
returns-clause-most g c =
    let m = g.S.Source.meaning c.args.source.now in
    shape_most m.periods (m.shape c.args.at) ((g.S.Source.lawful c.args.source.now).well_formed c.args.at) c.shape.result c.shape.ensures
