use Rattle.gs_stream.specs.Video.{video_stream}
use Rattle.gs_stream.specs.Audio.{audio_stream}
use Rattle.gs_host_end.proofs.Boxes.{grows-by}
use Rattle.gs_host_end.proofs.sending.send.Goals as goal

pub returns-in-Ok-clause-over : goal.returns-in-Ok-clause-over
returns-in-Ok-clause-over c = λ ticks of stands.
    let old = c.args.host.now in
    let new = c.turn.new.self in
    let whole = c.in-Ok.ensures.whole ticks of stands in
    record {
      stands = whole.stands;
      of_video = grows-by (video_stream old.settings ticks old.history) (video_stream old.settings ticks new.history) whole.of_video.gained
          c.args.video.now c.turn.new.video (record { ip = 0; port = 0 }) whole.of_video.grows c.requires.video whole.of_video.put.entries;
      of_audio = grows-by (audio_stream old.settings ticks old.history) (audio_stream old.settings ticks new.history) whole.of_audio.gained
          c.args.audio.now c.turn.new.audio (record { ip = 0; port = 0 }) whole.of_audio.grows c.requires.audio whole.of_audio.put.entries;
    }
