-- The part of a session that a host's end stands for, over the ticks of a capture file.
use Rattle.std.specs.Prelude.{ℕ, ◌≡◌, false, List, length}
use Rattle.gs_tape.specs.Tick.{Tick}
use Rattle.gs_store.specs.Standing.{IsStoreOf}
use Rattle.gs_sides.specs.Standing.{IsSideOf}
use Rattle.gs_host_core.specs.Hosting.{StandsOver}
use Rattle.gs_run.specs.Session.{Part, video_of, audio_of}
use Rattle.gs_run.specs.Totals.{inputs_of}
use Rattle.gs_host_end.specs.declared.end.HostEnd.{HostEnd}

pub record IsHostEndOf (end : HostEnd) (session : ℕ) (ticks : List Tick) (part : Part) : Type 0 where
  pub session_is : end.session ≡ session
  pub settings : end.host.settings ≡ part.settings.stream
  pub history : end.host.history ≡ part.history
  pub over : StandsOver end.host ticks
  pub whole : end.lost ≡ false
  pub side : IsSideOf end.side part.host
  pub video : IsStoreOf end.video (video_of ticks part)
  pub audio : IsStoreOf end.audio (audio_of ticks part)
  pub inputs : end.inputs ≡ length (inputs_of part)
