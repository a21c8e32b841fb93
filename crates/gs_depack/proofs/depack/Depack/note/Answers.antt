use Rattle.std.proofs.Common.{None, refl, arith}
use Rattle.gs_depack.proofs.Standing.{settle-hands, note-settles}
use Rattle.gs_depack.proofs.depack.Depack.note.Goals as goal

pub returns : goal.returns
returns c = λ s came given held window stands is_complete is_kind.
    let is = stands.is_unnoted c.args.frame refl in
    let above = is.above in
    let note = c.set_kind.ensures stands.none_above (omega arith) is.within in
    settle-hands c.set_kind.new.self c.settle.new.self s came None given
    (note-settles c.args.self.now c.set_kind.new.self s came c.args.frame c.args.kind given held window stands is_complete is_kind note)
    c.settle.ensures
