-- What a turn leaves: the host, and the links of its two streams.
use Rattle.std.specs.Prelude.{List}
use Rattle.gs_bytes.specs.declared.addr.Addr.{Addr}
use Rattle.gs_tape.specs.Tick.{Tick}
use Rattle.gs_stream.specs.Video.{video_stream}
use Rattle.gs_stream.specs.Audio.{audio_stream}
use Rattle.gs_host_core.specs.Hosting.{Hosting, StandsOver}
use Rattle.gs_host_core.specs.Puts.{LinkTold, Gains, GainsFront}

-- It sent: each link gained what its stream gained, whole, and the host stands for its history again.
pub record IsSentWhole
    (ticks : List Tick) (before now : Hosting) (video_to audio_to : Addr)
    (video video' audio audio' : LinkTold) : Type 0 where
  pub stands : StandsOver now ticks
  pub of_video :
      Gains video video' video_to (video_stream before.settings ticks before.history)
      (video_stream before.settings ticks now.history)
  pub of_audio :
      Gains audio audio' audio_to (audio_stream before.settings ticks before.history)
      (audio_stream before.settings ticks now.history)

-- It failed, or was refused: each gained a front of it.
pub record IsSentInPart
    (ticks : List Tick) (before now : Hosting) (video_to audio_to : Addr)
    (video video' audio audio' : LinkTold) : Type 0 where
  pub of_video :
      GainsFront video video' video_to (video_stream before.settings ticks before.history)
      (video_stream before.settings ticks now.history)
  pub of_audio :
      GainsFront audio audio' audio_to (audio_stream before.settings ticks before.history)
      (audio_stream before.settings ticks now.history)
