use Rattle.std.proofs.Common.{◌*◌, ◌^◌, ◌≤◌}
use Rattle.month.proofs.month.print.Given as goal

-- a reading adds at most 10^15 Wh
abbrev pub invariant-loop-reading : goal.invariant-loop-reading
invariant-loop-reading g l = l.energy ≤ 10 ^ 15 * l.reading-index
