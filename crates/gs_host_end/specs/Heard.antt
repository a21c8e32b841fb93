-- Cited by private contracts alone: what a host does about one event that its side tells.
use Rattle.std.specs.Prelude.{ℕ, ◌≡◌, List, [], ◌∷◌, Option, Some, None, unsigned_abs}
use Rattle.gs_rtp.specs.Stream.{StreamSettings}
use Rattle.gs_tape.specs.Tick.{Tick}
use Rattle.gs_refs.specs.declared.entry.Entry.{Entry}
use Rattle.gs_refs.specs.History.{frames, last_tick}
use Rattle.gs_schedule.specs.declared.output.Output.{Output}
use Rattle.gs_schedule.specs.declared.output.Output.TheVariants as output
use Rattle.gs_stream.specs.Video.{video_stream}
use Rattle.gs_stream.specs.Audio.{audio_stream}
use Rattle.gs_host_core.specs.declared.act.Act.{Act}
use Rattle.gs_host_core.specs.declared.act.Act.TheVariants as act
use Rattle.gs_host_core.specs.Hosting.{Hosting, StandsOver}
use Rattle.gs_run.specs.Report.{Report, Acted, plain}

-- one line, or none
abbrev pub reported_line : Option Output → List Report
reported_line None = []
reported_line (Some output) = plain output ∷ []

-- whether the line is one of an input event, as a number
abbrev pub inputs_in : Option Output → ℕ
inputs_in (Some (output.Input session channel event)) = 1
inputs_in _ = 0

-- the line of an act that was done
abbrev pub done_line : ℕ → ℕ → Act → Option Output
done_line session channel (act.Invalidate first last) =
    Some (output.Invalid session (unsigned_abs first) (unsigned_abs last))
done_line session channel act.AskIdr = Some (output.Idr session)
done_line session channel (act.Input event) = Some (output.Input session channel event)
done_line session channel act.Nothing = None

-- the history behind it, and the line that is reported
abbrev pub Hears : Acted (List Entry) → List Entry → Option Output → Type 0
Hears did now output = did ≡ record { value = now; reports = reported_line output }

-- what a host keeps that is told something
pub record KeepsHosting (old new : Hosting) : Type 0 where
  pub settings : new.settings ≡ old.settings
  pub sent : frames new.history ≡ frames old.history
  pub last : last_tick new.history ≡ last_tick old.history
  pub video :
      (s : StreamSettings) (ticks : List Tick) → video_stream s ticks new.history ≡ video_stream s ticks old.history
  pub audio :
      (s : StreamSettings) (ticks : List Tick) → audio_stream s ticks new.history ≡ audio_stream s ticks old.history
  pub stands : (ticks : List Tick) → StandsOver old ticks → StandsOver new ticks
