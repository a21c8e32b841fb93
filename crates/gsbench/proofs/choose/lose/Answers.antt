use Rattle.std.proofs.Common.{w64, of_z, to_z}
use Rattle.gsbench.proofs.Losses.{losses_keep}
use Rattle.gsbench.proofs.choose.lose.Goals as goal

pub returns-clause-frames : goal.returns-clause-frames
returns-clause-frames c =
    losses_keep _ _ (to_z w64 (of_z w64 c.args.first)) (to_z w64 (of_z w64 c.args.last)) c.invalidate.ensures.unchanged c.invalidate.ensures.named
