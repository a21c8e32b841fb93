-- Steps have a run from any state, and a schedule over a capture file.
use Rattle.std.proofs.Common.{ℕ, ◌+◌, List, [], ◌∷◌, Option, Some, None, refl}
use Rattle.gs_tape.specs.Reading.{Fault}
use Rattle.gs_schedule.specs.declared.step.Step.{Step}
use Rattle.gs_schedule.specs.declared.step.Step.TheVariants as step
use Rattle.gs_schedule.specs.declared.status.TrialStatus.TheVariants as status
use Rattle.gs_run.specs.CaptureFile.{CaptureFile}
use Rattle.gs_run.specs.Session.{State, start, session_numbered}
use Rattle.gs_run.specs.Deed.{Turn, TakeVideo, TakeAudio, TakeUp, TakeDown, Give, AskIdr, Close, Reset, Deed, Open, Capture, Pass, In}
use Rattle.gs_run.specs.Refusal.{Refusal}
use Rattle.gs_run.specs.Done.{Ran, ran}
use Rattle.gs_run.specs.Line.{HasStep, pumping_from, videos, AreDeeds}
use Rattle.gs_run.specs.Run.{Run, fault_status, refusal_status, stopped, finished, behind, RunsOn, RunsStep, RunsFrom, RunsUnless}
use Rattle.gs_run.specs.RunLaws.{SchedulesHaveARun}
use Rattle.gs_run.proofs.Pumps.{pumps_end}
use Rattle.gs_run.proofs.StepsDecided.{has_a_step}

pub deeds_of : (file : CaptureFile) (s : Step) (state : State) → (deeds : List Deed) × AreDeeds file s state deeds
deeds_of file step.Blank state = ([], refl)
deeds_of file (step.Session packet percentage minimum window) state = (Open packet percentage minimum window ∷ [], refl)
deeds_of file step.Cap state = (Capture ∷ [], refl)
deeds_of file (step.Send session) state = (In session Turn ∷ [], refl)
deeds_of file (step.Video session k) state = (In session (TakeVideo k) ∷ [], refl)
deeds_of file (step.Audio session k) state = (In session (TakeAudio k) ∷ [], refl)
deeds_of file (step.Videos session first last) state = (videos session first last, refl)
deeds_of file (step.Up session k) state = (In session (TakeUp k) ∷ [], refl)
deeds_of file (step.Down session k) state = (In session (TakeDown k) ∷ [], refl)
deeds_of file (step.Input session event) state = (In session (Give event) ∷ [], refl)
deeds_of file (step.Idr session) state = (In session AskIdr ∷ [], refl)
deeds_of file (step.Time by) state = (Pass by ∷ [], refl)
deeds_of file (step.Pump session every) state = pumps_end file session every (pumping_from (session_numbered state session)) state
deeds_of file (step.Close session) state = (In session Close ∷ [], refl)
deeds_of file (step.Reset session) state = (In session Reset ∷ [], refl)

-- a run that goes on behind each state goes on behind a step
on_some : (n : ℕ) (o : Option Refusal) (did : Ran) (R : State → Run → Type 0) → ((s : State) → (rest : Run) × R s rest)
    → (run : Run) × RunsOn n o did R run
on_some n (Some why) did R more = (behind did.reports (stopped (refusal_status n why) did.state), refl)
on_some n None did R more = let rest = more did.state in (behind did.reports rest.0, (rest.0, rest.1, refl))

step_some : (file : CaptureFile) (n : ℕ) (o : Option Step) (state : State) (R : State → Run → Type 0) → ((s : State) → (rest : Run) × R s rest)
    → (run : Run) × RunsStep file n o state R run
step_some file n None state R more = (stopped (status.BadSchedule n) state, refl)
step_some file n (Some s) state R more =
    let deeds = deeds_of file s state in
    let run = on_some n (ran file deeds.0 state).refused (ran file deeds.0 state) R more in
    (run.0, (deeds.0, deeds.1, run.1))

-- whatever each of them is read as, where it is read
pub from_some : {A : Type 0} (Has : ℕ → A → Option Step → Type 0) (file : CaptureFile) → ((n : ℕ) (x : A) → (o : Option Step) × Has n x o)
    → (n : ℕ) (steps : List A) (state : State) → (run : Run) × RunsFrom Has file n steps state run
from_some Has file read n [] state = (finished file.fault state, refl)
from_some Has file read n (x ∷ steps) state =
    let found = read n x in
    let run = step_some file n found.0 state (RunsFrom Has file (n + 1) steps) (λ s. from_some Has file read (n + 1) steps s) in
    (run.0, (found.0, found.1, run.1))

pub lines_some : (file : CaptureFile) (n : ℕ) (lines : List (List ℕ)) (state : State) → (run : Run) × RunsFrom HasStep file n lines state run
lines_some file n lines state = from_some HasStep file has_a_step n lines state

unless_some : (o : Option Fault) (file : CaptureFile) (lines : List (List ℕ)) → (run : Run) × RunsUnless o (RunsFrom HasStep file 1 lines start run) run
unless_some (Some fault) file lines = (stopped (fault_status fault) start, refl)
unless_some None file lines = lines_some file 1 lines start

pub schedules_have_a_run : SchedulesHaveARun
schedules_have_a_run file lines = unless_some file.head file lines
