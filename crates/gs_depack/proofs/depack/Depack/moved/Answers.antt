use Rattle.std.proofs.Common.{◌∷◌, Some}
use Rattle.gs_frames.specs.Client.{Datagram}
use Rattle.gs_frames.specs.Handed.{handed}
use Rattle.gs_depack.proofs.Standing.{settle-hands}
use Rattle.gs_depack.proofs.Moving.{move-asks, move-settles}
use Rattle.gs_depack.proofs.depack.Depack.moved.Goals as goal

pub returns-clause-asks : goal.returns-clause-asks
returns-clause-asks c = λ s came bytes r window stands is.
    move-asks c.args.moved.now c.args.self.now c.advance.new.self c.leave-lost.new.self c.leave-lost.result s came bytes r window stands is
    c.advance.ensures c.leave-lost.ensures

pub returns-clause-hands : goal.returns-clause-hands
returns-clause-hands c = λ s came bytes r window stands is.
    settle-hands c.leave-lost.new.self c.settle.new.self s (Datagram bytes ∷ came) (Some r.head.frame) (handed s came)
    (move-settles c.args.moved.now c.args.self.now c.advance.new.self c.leave-lost.new.self c.leave-lost.result s came bytes r window stands is
    c.advance.ensures c.leave-lost.ensures)
    c.settle.ensures
