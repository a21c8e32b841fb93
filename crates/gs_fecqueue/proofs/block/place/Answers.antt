use Rattle.std.proofs.Common.{◌+◌, ◌-◌, ◌*◌, length, refl, ap, arith}
use Rattle.gs_rs.proofs.PlaceWrites.{put-others}
use Rattle.gs_fecqueue.proofs.block.place.Goals as goal

pub returns-clause-others : goal.returns-clause-others
returns-clause-others c = λ i other.
    let len = length c.args.payload.now in
    let place = c.args.index * len in
    put-others len c.args.index i ((place + len) - place) c.args.bytes.now c.copy_from_slice.new.self (omega arith) c.requires
    (ap length c.copy_from_slice.ensures.after) other
