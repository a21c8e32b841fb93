-- What a call of a host's end did, over a part that it stood for.
use Rattle.std.specs.Prelude.{ℕ, ◌≡◌, ◌≤◌, ◌⊎◌, ◌∷◌, Bool, true, false, List, Option, Some, None, Ok, Err, ◌==◌}
use Rattle.std.specs.Prelude.{if◌then◌else◌}
use Rattle.gs_tape.specs.Tick.{Tick}
use Rattle.gs_refs.specs.declared.sent.Sent.{Sent}
use Rattle.gs_refs.specs.declared.error.ChooseError.{ChooseError}
use Rattle.gs_refs.specs.Answers.{sent_entry, choose_answer}
use Rattle.gs_store.specs.Named.{is_nameable}
use Rattle.gs_enet.specs.World.{Time, acted}
use Rattle.gs_feed.specs.Feeding.{Feeding, IsOf, forgotten}
use Rattle.gs_run.specs.Session.{Part}
use Rattle.gs_run.specs.Scene.{Scene}
use Rattle.gs_run.specs.Report.{Acted}
use Rattle.gs_run.specs.Hearing.{host_hears, up_taken}
use Rattle.gs_report.specs.Reporting.{Reporting, Did}
use Rattle.gs_host_end.specs.declared.end.HostEnd.{HostEnd}
use Rattle.gs_host_end.specs.Standing.{IsHostEndOf}

-- the control datagram of that number of those that the client wrote is taken exactly where it can be named
abbrev pub TakesUp : ℕ → ℕ → ℕ → List Tick → Part → Bool → HostEnd → Reporting → Reporting → Type 0
TakesUp session now k ticks part true new before after =
    (is_nameable part.client.wrote k ≡ true)
    × Did (IsHostEndOf new session ticks) (up_taken session now k part) before after
TakesUp session now k ticks part false new before after = (is_nameable part.client.wrote k ≡ false) × (after ≡ before)

-- its timers run
abbrev pub host_timed : ℕ → ℕ → Part → Acted Part
host_timed session now part = host_hears session (record part { host = acted (Time now) part.host })

-- what was captured are the first of these ticks, as many as the scene has
pub record IsCapturedOf (feed : Feeding) (scene : Scene) : Type 0 where
  pub of : IsOf feed scene.ticks
  pub count : feed.count ≡ scene.captured

-- The ticks that the next turn sends the audio of are still kept, and are of the session's audio. Said by the end's own
-- fields, since it is asked of an end over any source.
pub record KeepsTicks (feed : Feeding) (end : HostEnd) : Type 0 where
  pub audio : feed.tape.audio ≡ end.host.settings.audio
  pub kept : (end.frames ≡ 0) ⊎ (forgotten feed ≤ end.last_tick)

-- the tick that was sent last, where one was: no turn wants one up to it any more
abbrev pub tick_sent : HostEnd → Option ℕ
tick_sent end = if end.frames == 0 then None else Some end.last_tick

-- no frame was sent
pub record SentNothing (old new : HostEnd) : Type 0 where
  pub audio : new.host.settings.audio ≡ old.host.settings.audio
  pub frames : new.frames ≡ old.frames
  pub last_tick : new.last_tick ≡ old.last_tick

-- Cited by private contracts alone: the newest tick was sent, or it was refused and nothing done.
abbrev pub SendsNewest : ℕ → List Tick → Tick → Part → Option Sent → HostEnd → Type 0
SendsNewest session ticks newest part (Some sent) new =
    (choose_answer part.history newest ≡ Ok sent)
    × IsHostEndOf new session ticks (record part { history = sent_entry sent ∷ part.history })
SendsNewest session ticks newest part None new =
    ((e : ChooseError) × (choose_answer part.history newest ≡ Err e)) × IsHostEndOf new session ticks part

-- Cited by private contracts alone: the last tick that was sent is the same, or this one.
abbrev pub SendsUpTo : ℕ → HostEnd → HostEnd → Type 0
SendsUpTo tick old new = ((new.frames ≡ old.frames) × (new.last_tick ≡ old.last_tick)) ⊎ (new.last_tick ≡ tick)
