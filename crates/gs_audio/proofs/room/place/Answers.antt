use Rattle.std.proofs.Common.{◌+◌, ◌-◌, ◌*◌, length, ap, arith}
use Rattle.gs_rs.proofs.PlaceWrites.{put-others}
use Rattle.gs_audio.proofs.room.place.Goals as goal

pub returns-clause-others : goal.returns-clause-others
returns-clause-others c = λ i other.
    let len = length c.args.shard.now in
    let at = c.args.index * len in
    put-others len c.args.index i ((at + len) - at) c.args.bytes.now c.copy_from_slice.new.self (omega arith) c.requires
    (ap length c.copy_from_slice.ensures.after) other
