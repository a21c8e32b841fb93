-- Cited by private contracts alone: what a step of a trial did.
use Rattle.std.specs.Prelude.{ℕ, ◌≡◌, ◌≤◌, List, Option, Some, None, Result, Ok, Err, IfSome, ⊤}
use Rattle.gs_bytes.specs.declared.failed.Failed.{Failed}
use Rattle.gs_bytes.specs.declared.failed.Failed.TheVariants as failed
use Rattle.gs_tape.specs.declared.error.TapeError.{TapeError}
use Rattle.gs_tape.specs.declared.error.TapeError.TheVariants as tape_error
use Rattle.gs_tape.specs.Errors.{fault_of}
use Rattle.gs_tape.specs.Reading.{Fault}
use Rattle.gs_input.specs.Event.{IsKnown, HasButton}
use Rattle.gs_schedule.specs.declared.step.Step.{Step}
use Rattle.gs_schedule.specs.declared.step.Step.TheVariants as step
use Rattle.gs_schedule.specs.declared.status.TrialStatus.{TrialStatus}
use Rattle.gs_schedule.specs.declared.status.TrialStatus.TheVariants as status
use Rattle.gs_feed.specs.Feeding.{Feeding}
use Rattle.gs_feed.specs.Cuts.{StopsBehind}
use Rattle.gs_report.specs.Reporting.{Reporting, with_reports}
use Rattle.gs_run.specs.CaptureFile.{CaptureFile}
use Rattle.gs_run.specs.Session.{State}
use Rattle.gs_run.specs.Deed.{Deed}
use Rattle.gs_run.specs.Refusal.{Refusal, BadLine, BadFile}
use Rattle.gs_run.specs.Done.{Ran, ran}
use Rattle.gs_run.specs.Line.{AreDeeds}
use Rattle.gs_trial.specs.declared.error.StepError.{StepError}
use Rattle.gs_trial.specs.declared.error.StepError.TheVariants as step_error
use Rattle.gs_trial.specs.declared.trial.Trial.{Trial}
use Rattle.gs_trial.specs.Standing.{FeedHasTaken, IsTrialOf}

-- the refusal that an error tells; a source that failed and want of memory tell none
abbrev pub refusal_of_tape : Option Fault → Option Refusal
refusal_of_tape None = None
refusal_of_tape (Some fault) = Some (BadFile fault)

abbrev pub refusal_of : StepError → Option Refusal
refusal_of step_error.BadLine = Some BadLine
refusal_of (step_error.Tape e) = refusal_of_tape (fault_of e)
refusal_of step_error.OutOfMemory = None

-- it isn't of the capture file
abbrev pub IsOwn : StepError → Type 0
IsOwn (step_error.Tape e) = ⊥
IsOwn _ = ⊤

-- ---- deeds

-- Deeds were done up to one that was refused, or all: their reports were added.
pub record RanTo (did : Ran) (refused : Option Refusal) (before now : Reporting) : Type 0 where
  pub refused_is : did.refused ≡ refused
  pub text : now ≡ with_reports before did.reports

-- all were done, and the trial stands for what they left
pub record RanWhole (file : CaptureFile) (left : Option (List ℕ)) (did : Ran) (new : Trial) (before now : Reporting)
    : Type 0 where
  pub ran : RanTo did None before now
  pub stands : IsTrialOf new file left did.state

-- nothing is said where a source failed or memory ran out
abbrev pub RanAs : CaptureFile → Option (List ℕ) → Ran → Trial → Reporting → Reporting → Result ⊤ StepError → Type 0
RanAs file left did new before now (Ok done) = RanWhole file left did new before now
RanAs file left did new before now (Err e) = IfSome (refusal_of e) (λ why. RanTo did (Some why) before now)

abbrev pub RunsDeeds : CaptureFile → List Deed → State → Option (List ℕ) → Trial → Reporting → Reporting
    → Result ⊤ StepError → Type 0
RunsDeeds file deeds state left new before now result = RanAs file left (ran file deeds state) new before now result

-- over each state that a trial stood for
abbrev pub RunsIn : Trial → List Deed → Trial → Result ⊤ StepError → Type 0
RunsIn old deeds new result =
    (file : CaptureFile) (left : Option (List ℕ)) (state : State) → IsTrialOf old file left state
    → RunsDeeds file deeds state left new old.reporter new.reporter result

-- ---- a step

-- its deeds were done
pub record Steps (file : CaptureFile) (step : Step) (state : State) (left : Option (List ℕ)) (new : Trial)
    (before now : Reporting) (result : Result ⊤ StepError) : Type 0 where
  pub deeds : List Deed
  pub are_deeds : AreDeeds file step state deeds
  pub ran_as : RunsDeeds file deeds state left new before now result

-- where an error tells nothing, nothing is said
abbrev pub StepsIfTold : CaptureFile → Step → State → Option (List ℕ) → Trial → Reporting → Reporting
    → Result ⊤ StepError → Type 0
StepsIfTold file step state left new before now (Ok done) = Steps file step state left new before now (Ok done)
StepsIfTold file step state left new before now (Err e) =
    IfSome (refusal_of e) (λ why. Steps file step state left new before now (Err e))

-- Which bytes of the capture file were taken behind it, and what was read of them where the source failed behind so
-- many captures.
abbrev pub TakesBytes : List ℕ → (before : ℕ) → (new : Feeding) → (left : Option (List ℕ)) → Result ⊤ StepError → Type 0
TakesBytes bytes before new left (Ok done) = FeedHasTaken bytes new left
TakesBytes bytes before new left (Err (step_error.Tape tape_error.TapeFault)) = StopsBehind bytes left before
TakesBytes bytes before new left (Err _) = ⊤

-- the event of a step is of a known kind, and its button is one; datagrams are named from the first to the last
abbrev pub IsStepAllowed : Step → Type 0
IsStepAllowed (step.Input session event) = IsKnown event × HasButton event
IsStepAllowed (step.Videos session first last) = first ≤ last
IsStepAllowed _ = ⊤

-- ---- how a trial ends

abbrev pub tape_status : TapeError → TrialStatus
tape_status tape_error.TapeFault = status.TapeFault
tape_status (tape_error.BadTape kind place) = status.BadTape kind place
tape_status (tape_error.TapeFull tick) = status.TapeFull tick
tape_status (tape_error.UnitTooLarge tick) = status.UnitTooLarge tick
tape_status (tape_error.AudioLength length) = status.AudioLength length
tape_status tape_error.OutOfMemory = status.OutOfMemory

abbrev pub step_status : StepError → ℕ → TrialStatus
step_status step_error.BadLine line = status.BadSchedule line
step_status (step_error.Tape e) line = tape_status e
step_status step_error.OutOfMemory line = status.OutOfMemory

abbrev pub write_status : Failed → TrialStatus
write_status failed.Fault = status.WriteFault
write_status failed.NoMemory = status.OutOfMemory
