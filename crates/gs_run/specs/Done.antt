-- What a deed does: the state behind it and what is reported, or why it is refused.
use Rattle.std.specs.Prelude.{ℕ, ◌+◌, List, [], ◌∷◌, ◌++◌, Option, Some, None, Result, Ok, Err}
use Rattle.gs_run.specs.CaptureFile.{CaptureFile}
use Rattle.gs_run.specs.Session.{Part, RunSession, State, session_numbered, with_session}
use Rattle.gs_run.specs.Report.{Report, Acted, quietly, ◌>>=◌}
use Rattle.gs_run.specs.Scene.{Scene, scene_of}
use Rattle.gs_run.specs.Deed.{SessionDeed, Turn, TakeVideo, TakeAudio, TakeUp, TakeDown, Give, AskIdr, Close, Reset}
use Rattle.gs_run.specs.Deed.{Mark, Deed, Open, Capture, Pass, In}
use Rattle.gs_run.specs.Connection.{settled_part}
use Rattle.gs_run.specs.Hearing.{up_taken, down_taken, timed_part}
use Rattle.gs_run.specs.Opening.{opened_session}
use Rattle.gs_run.specs.Streaming.{turned, video_taken, audio_taken, reset}
use Rattle.gs_run.specs.Giving.{event_given, idr_asked, closed_part}
use Rattle.gs_run.specs.Pump.{marked}
use Rattle.gs_run.specs.Refusal.{Refusal, refusal}

-- ---- in a session

abbrev pub done_in : Scene → SessionDeed → Part → Acted Part
done_in scene Turn part = turned scene part
done_in scene (TakeVideo k) part = video_taken scene k part
done_in scene (TakeAudio k) part = audio_taken scene k part
done_in scene (TakeUp k) part = up_taken scene.session scene.moment k part
done_in scene (TakeDown k) part = down_taken scene.session scene.moment k part
done_in scene (Give event) part = event_given scene.session event part
done_in scene AskIdr part = idr_asked scene.session part
done_in scene Close part = closed_part part
done_in scene Reset part = reset scene.session part
done_in scene Mark part = quietly (marked scene part)

-- behind it what is owed is given, and both sides write out
abbrev pub settled_in : Scene → SessionDeed → Part → Acted Part
settled_in scene deed part = do
  did ← done_in scene deed part
  quietly (settled_part scene.moment did)

abbrev pub after_in : Scene → SessionDeed → Option RunSession → State → Acted State
after_in scene deed None state = quietly state
after_in scene deed (Some session) state = do
  part ← settled_in scene deed session.part
  quietly (with_session scene.session (record session { part = part }) state)

-- ---- in all

-- The timers of the sessions from that number on run. What each side then has to write out is reported nowhere.
abbrev pub all_timed : ℕ → ℕ → List RunSession → Acted (List RunSession)
all_timed number now [] = quietly []
all_timed number now (session ∷ sessions) = do
  part ← timed_part number now session.part
  others ← all_timed (number + 1) now sessions
  quietly (record session { part = settled_part now part } ∷ others)

abbrev pub passed : ℕ → State → Acted State
passed now state = do
  sessions ← all_timed 1 now state.sessions
  quietly (record state { moment = now; sessions = sessions })

unfoldable pub after : CaptureFile → Deed → State → Acted State
after file (Open packet percentage minimum window) state =
    quietly (opened_session file packet percentage minimum window state)
after file Capture state = quietly (record state { captured = state.captured + 1 })
after file (Pass by) state = passed (state.moment + by) state
after file (In number deed) state = after_in (scene_of file number state) deed (session_numbered state number) state

abbrev pub unless_refused : Option Refusal → Acted State → Result (Acted State) Refusal
unless_refused None acted = Ok acted
unless_refused (Some why) acted = Err why

-- A deed that is refused changes nothing.
abbrev pub done : CaptureFile → Deed → State → Result (Acted State) Refusal
done file deed state = unless_refused (refusal file deed state) (after file deed state)

-- ---- one deed after the other

-- the state behind the last deed that was done, all that was reported, and why the next one was refused, if one was
pub record Ran : Type 0 where
  pub state : State
  pub reports : List Report
  pub refused : Option Refusal

abbrev pub then_ran : Acted State → Ran → Ran
then_ran acted rest = record rest { reports = acted.reports ++ rest.reports }

abbrev pub ran_on : Result (Acted State) Refusal → State → (State → Ran) → Ran
ran_on (Err why) state next = record { state = state; reports = []; refused = Some why }
ran_on (Ok acted) state next = then_ran acted (next acted.value)

unfoldable pub ran : CaptureFile → List Deed → State → Ran
ran file [] state = record { state = state; reports = []; refused = None }
ran file (deed ∷ deeds) state = ran_on (done file deed state) state (ran file deeds)
