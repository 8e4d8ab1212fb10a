-- The part that is taken apart is as long as its chunks.
use Rattle.std.proofs.Common.{◌≡◌, ◌+◌, ◌-◌, ◌*◌, ◌/◌, length, take, drop, ap, ◌∙◌, length-take-le, length-drop, arith}
use Rattle.std.proofs.Math.Nat.{mul-div_cancel}
use Rattle.std.specs.Simd.{first_chunks}
use Rattle.shape_table.proofs.areas.chunks.Goals as goal

pub returns-clause-chunks : goal.returns-clause-chunks
returns-clause-chunks g c =
    let n = g.row.N in
    let rest = drop c.args.start c.args.bytes.now in
    let size : c.args.start + c.args.count * n - c.args.start ≡ c.args.count * n = omega arith in
    let long : length (take (c.args.count * n) rest) ≡ c.args.count * n = length-take-le (c.args.count * n) rest (simp length-drop (omega arith)) in
    c.as_chunks.ensures.front
    ∙ ap (λ m. first_chunks n (length (take m rest) / n) (take m rest)) size
    ∙ ap (λ m. first_chunks n (m / n) (take (c.args.count * n) rest)) long
    ∙ ap (λ k. first_chunks n k (take (c.args.count * n) rest)) (mul-div_cancel c.args.count c.requires.size)
