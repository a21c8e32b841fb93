-- Cited by private contracts alone: what a turn leaves of a host, and in its outboxes.
use Rattle.std.specs.Prelude.{ℕ, ◌≡◌, ◌++◌, ◌∷◌, List, Option, Some, None, Ok, Err}
use Rattle.gs_bytes.specs.declared.link.LinkEntry.{LinkEntry}
use Rattle.gs_tape.specs.Tick.{Tick}
use Rattle.gs_refs.specs.declared.sent.Sent.{Sent}
use Rattle.gs_refs.specs.declared.error.ChooseError.{ChooseError}
use Rattle.gs_refs.specs.Answers.{next_sent, sent_entry, choose_answer}
use Rattle.gs_stream.specs.Video.{video_stream}
use Rattle.gs_stream.specs.Audio.{audio_stream}
use Rattle.gs_schedule.specs.declared.output.Output.TheVariants as output
use Rattle.gs_run.specs.Report.{Report, plain}
use Rattle.gs_host_core.specs.Hosting.{Hosting, StandsOver}
use Rattle.gs_host_end.specs.Boxes.{all_put}

-- a frame that was sent is reported
abbrev pub sent_report : ℕ → Sent → Report
sent_report session sent = plain (output.Sent session sent.frame sent.kind sent.tick sent.reference)

-- the tick was sent, or was refused and nothing done
abbrev pub SendsNext : Tick → Hosting → Hosting → Option Sent → Type 0
SendsNext newest old new (Some sent) =
    (choose_answer old.history newest ≡ Ok sent) × (sent ≡ next_sent old.history newest)
    × (new.history ≡ sent_entry sent ∷ old.history)
SendsNext newest old new None = ((e : ChooseError) × (choose_answer old.history newest ≡ Err e)) × (new ≡ old)

-- the host stands for its history, and what was put is what its streams gained
pub record IsSentOver (ticks : List Tick) (old new : Hosting) (video audio : List LinkEntry) : Type 0 where
  pub stands : StandsOver new ticks
  pub of_video :
      video_stream old.settings ticks new.history
      ≡ video_stream old.settings ticks old.history ++ all_put video
  pub of_audio :
      audio_stream old.settings ticks new.history
      ≡ audio_stream old.settings ticks old.history ++ all_put audio
