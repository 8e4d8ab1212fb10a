use Rattle.std.proofs.Common.{map}
use Rattle.shape_table.specs.Layout.{u16_at}
use Rattle.shape_table.proofs.Filled.{Filled}
use Rattle.shape_table.proofs.table.ShapeTableSource.shape.Given as goal

-- the periods so far are written
abbrev pub invariant-loop-period : goal.invariant-loop-period
invariant-loop-period l = Filled (map (λ weight. u16_at weight 0) l.row) l.period l.weights
