use Rattle.std.proofs.Common.{arith}
use Rattle.gs_rs.proofs.Points.{points_of_numbers}
use Rattle.gs_rs.proofs.shape.CodeShape.points_of.Goals as goal

pub returns : goal.returns
returns c =
    points_of_numbers c.args.self.now c.args.chosen.now c.loop-i.points c.requires.enough.count (omega arith)
    (λ k h. c.loop-i.invariant.1 k (omega arith))
