use Rattle.std.proofs.Common.{arith}
use Rattle.gs_rs.proofs.Points.{points_from}
use Rattle.gs_rs.proofs.shape.CodeShape.data_points.Goals as goal

pub returns : goal.returns
returns c = points_from c.args.self.now c.loop-i.points (omega arith) (λ k h. c.loop-i.invariant.1 k (omega arith))
