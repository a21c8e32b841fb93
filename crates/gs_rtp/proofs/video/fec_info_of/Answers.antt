use Rattle.std.proofs.Common.{arith}
use Rattle.gs_rtp.proofs.video.fec_info_of.Goals as goal
use Rattle.gs_rtp.proofs.VideoHeads.{fec_info-or}

pub returns : goal.returns
returns c = rw (c.from.ensures, c.from-2.ensures, c.from-3.ensures) (fec_info-or c.args.head.now c.requires (omega arith))
