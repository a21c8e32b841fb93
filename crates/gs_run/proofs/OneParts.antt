-- In a run no session has an earlier part.
use Rattle.std.proofs.Common.{◌≡◌, ◌+◌, ◌-◌, ℕ, zero, suc, List, [], ◌∷◌, ◌++◌, Option, Some, None, refl}
use Rattle.std.specs.Prelude.{slice_get}
use Rattle.std.specs.List.{AllByRecursion}
use Rattle.std.specs.Option.{IfSome}
use Rattle.gs_run.specs.CaptureFile.{CaptureFile}
use Rattle.gs_run.specs.Session.{RunSession, State, start, session_numbered, replaced}
use Rattle.gs_run.specs.Scene.{Scene, scene_of}
use Rattle.gs_run.specs.Deed.{SessionDeed, Deed, Open, Capture, Pass, In}
use Rattle.gs_run.specs.Opening.{opened_session}
use Rattle.gs_run.specs.Refusal.{Refusal, refusal}
use Rattle.gs_run.specs.Done.{settled_in, after_in, all_timed, after, unless_refused, ran_on, ran}
use Rattle.gs_run.specs.WholeRun.{HaveOnePart}

abbrev pub IsOnePart : RunSession → Type 0
IsOnePart session = session.earlier ≡ []

pushed : (sessions : List RunSession) (new : RunSession) → AllByRecursion IsOnePart sessions → IsOnePart new → AllByRecursion IsOnePart (sessions ++ new ∷ [])
pushed [] new all is = (is, tt)
pushed (session ∷ sessions) new all is = (all.0, pushed sessions new all.1 is)

-- what holds of each session holds of that of a number
pub of_number : (P : RunSession → Type 0) (state : State) (number : ℕ) → AllByRecursion P state.sessions → IfSome (session_numbered state number) P
of_number P state zero all = tt
of_number P state (suc place) all = at state.sessions place all where
  at : (sessions : List RunSession) (place : ℕ) → AllByRecursion P sessions → IfSome (slice_get sessions place) P
  at [] place all = tt
  at (session ∷ sessions) zero all = all.0
  at (session ∷ sessions) (suc place) all = at sessions place all.1

put : (sessions : List RunSession) (place : ℕ) (new : RunSession) → AllByRecursion IsOnePart sessions → IsOnePart new
    → AllByRecursion IsOnePart (replaced sessions place new)
put [] place new all is = tt
put (session ∷ sessions) zero new all is = (is, all.1)
put (session ∷ sessions) (suc place) new all is = (all.0, put sessions place new all.1 is)

after_in_one : (scene : Scene) (deed : SessionDeed) (o : Option RunSession) (state : State) → IfSome o IsOnePart → HaveOnePart state
    → HaveOnePart (after_in scene deed o state).value
after_in_one scene deed None state is all = all
after_in_one scene deed (Some session) state is all =
    put state.sessions (scene.session - 1) (record session { part = (settled_in scene deed session.part).value }) all is

timed_one : (number now : ℕ) (sessions : List RunSession) → AllByRecursion IsOnePart sessions
    → AllByRecursion IsOnePart (all_timed number now sessions).value
timed_one number now [] all = tt
timed_one number now (session ∷ sessions) all = (all.0, timed_one (number + 1) now sessions all.1)

after_one : (file : CaptureFile) (deed : Deed) (state : State) → HaveOnePart state → HaveOnePart (after file deed state).value
unfolding after opened_session
after_one file (Open packet percentage minimum window) state all = pushed state.sessions _ all refl
after_one file Capture state all = all
after_one file (Pass by) state all = timed_one 1 (state.moment + by) state.sessions all
after_one file (In number deed) state all =
    after_in_one (scene_of file number state) deed (session_numbered state number) state (of_number IsOnePart state number all) all

ran_one : (file : CaptureFile) (deeds : List Deed) (state : State) → HaveOnePart state → HaveOnePart (ran file deeds state).state
unfolding ran
ran_one file [] state all = all
ran_one file (deed ∷ deeds) state all = by (refusal file deed state) (ran_one file deeds (after file deed state).value (after_one file deed state all)) where
  by : (o : Option Refusal) → HaveOnePart (ran file deeds (after file deed state).value).state
      → HaveOnePart (ran_on (unless_refused o (after file deed state)) state (ran file deeds)).state
  by (Some why) more = all
  by None more = more

pub runs_have_one_part : (file : CaptureFile) (deeds : List Deed) → HaveOnePart (ran file deeds start).state
runs_have_one_part file deeds = ran_one file deeds start tt
