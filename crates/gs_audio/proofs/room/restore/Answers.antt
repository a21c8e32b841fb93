use Rattle.gs_audio.proofs.Restored.{units-restored}
use Rattle.gs_audio.proofs.room.restore.Goals as goal

pub returns : goal.returns
returns c = λ held are marks placed full.
    units-restored c.args.size held c.args.present.now c.args.bytes.now c.restore.new.shards c.audio.result c.restore.result c.audio.ensures
    c.requires.flags c.requires.room c.restore.auto.shards are marks placed full c.restore.ensures.too_few c.restore.ensures.some_block
