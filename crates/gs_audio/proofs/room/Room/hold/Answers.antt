use Rattle.std.proofs.Common.{◌≡◌, true, sym, ◌∙◌, rules}
use Rattle.std.specs.Prelude.{◌==◌}
use Rattle.gs_rs.specs.Shards.{HeldShard}
use Rattle.gs_audio.proofs.Rooms.{hold-fourth}
use Rattle.gs_audio.proofs.room.Room.hold.Goals as goal

pub returns-clause-holds : goal.returns-clause-holds
returns-clause-holds c = λ held holds missing.
    let s : HeldShard = record { index = c.args.index; bytes = c.args.shard.now } in
    let whole : (c.put.new.self.held == 4) ≡ true = sym c.is_whole.ensures ∙ search rules in
    hold-fourth c.args.self.now c.put.new.self c.restore.new.self held s holds missing c.requires.index c.requires.more c.args.self.now.flags
    c.put.ensures whole c.restore.ensures.count c.restore.ensures.units
