-- The run of a schedule over a capture file: the file's head, then line after line, then the rest of the file, then the
-- sums. The first of these that is refused ends it.
use Rattle.std.specs.Prelude.{ℕ, ◌≡◌, ◌+◌, List, [], ◌∷◌, ◌++◌, Option, Some, None}
use Rattle.gs_tape.specs.Reading.{Fault}
use Rattle.gs_tape.specs.Reading as fault
use Rattle.gs_schedule.specs.declared.step.Step.{Step}
use Rattle.gs_schedule.specs.declared.status.TrialStatus.{TrialStatus}
use Rattle.gs_schedule.specs.declared.status.TrialStatus.TheVariants as status
use Rattle.gs_schedule.specs.declared.output.Output.TheVariants as output
use Rattle.gs_run.specs.CaptureFile.{CaptureFile}
use Rattle.gs_run.specs.Session.{State, start}
use Rattle.gs_run.specs.Report.{Report, plain, text_of}
use Rattle.gs_command.specs.declared.command.Detail.{Detail}
use Rattle.gs_run.specs.Deed.{Deed}
use Rattle.gs_run.specs.Refusal.{Refusal, BadLine, BadFile}
use Rattle.gs_run.specs.Done.{Ran, ran}
use Rattle.gs_run.specs.Totals.{totals_from}
use Rattle.gs_run.specs.Line.{HasStep, AreDeeds}

-- all that was reported, how it ended, and the state then
pub record Run : Type 0 where
  pub reports : List Report
  pub status : TrialStatus
  pub state : State

abbrev pub fault_status : Fault → TrialStatus
fault_status (fault.Malformed kind place) = status.BadTape kind place
fault_status (fault.Full tick) = status.TapeFull tick
fault_status (fault.UnitTooLarge tick) = status.UnitTooLarge tick
fault_status (fault.AudioLength length) = status.AudioLength length

-- why a deed of the line with this number was refused
abbrev pub refusal_status : ℕ → Refusal → TrialStatus
refusal_status number BadLine = status.BadSchedule number
refusal_status number (BadFile fault) = fault_status fault

abbrev pub stopped : TrialStatus → State → Run
stopped why state = record { reports = []; status = why; state = state }

-- behind all lines the rest of the file is read
abbrev pub finished : Option Fault → State → Run
finished (Some fault) state = stopped (fault_status fault) state
finished None state = record {
  reports = totals_from 1 state.sessions ++ plain output.Done ∷ [];
  status = status.Ok;
  state = state;
}

abbrev pub behind : List Report → Run → Run
behind reports rest = record rest { reports = reports ++ rest.reports }

-- a line was run, and then what `IsRest` says, unless a deed of it was refused
abbrev pub RunsOn : ℕ → Option Refusal → Ran → (State → Run → Type 0) → Run → Type 0
RunsOn number (Some why) did IsRest run = run ≡ behind did.reports (stopped (refusal_status number why) did.state)
RunsOn number None did IsRest run = (rest : Run) × IsRest did.state rest × (run ≡ behind did.reports rest)

abbrev pub RunsStep : CaptureFile → ℕ → Option Step → State → (State → Run → Type 0) → Run → Type 0
RunsStep file number None state IsRest run = run ≡ stopped (status.BadSchedule number) state
RunsStep file number (Some step) state IsRest run =
    (deeds : List Deed) × AreDeeds file step state deeds
    × RunsOn number (ran file deeds state).refused (ran file deeds state) IsRest run

-- the lines from that number on, each with its step or none
abbrev pub RunsFrom : {A : Type 0} → (ℕ → A → Option Step → Type 0) → CaptureFile → ℕ → List A → State → Run → Type 0
RunsFrom Has file number [] state run = run ≡ finished file.fault state
RunsFrom Has file number (line ∷ lines) state run =
    (step : Option Step) × Has number line step
    × RunsStep file number step state (RunsFrom Has file (number + 1) lines) run

abbrev pub RunsUnless : Option Fault → Type 0 → Run → Type 0
RunsUnless (Some fault) Lines run = run ≡ stopped (fault_status fault) start
RunsUnless None Lines run = Lines

-- the run of the lines of a schedule, over a capture file
abbrev pub IsRun : CaptureFile → List (List ℕ) → Run → Type 0
IsRun file lines run = RunsUnless file.head (RunsFrom HasStep file 1 lines start run) run

-- a step that is given itself
abbrev pub IsStep : ℕ → Step → Option Step → Type 0
IsStep number step found = found ≡ Some step

-- the run of steps
abbrev pub IsRunOfSteps : CaptureFile → List Step → Run → Type 0
IsRunOfSteps file steps run = RunsUnless file.head (RunsFrom IsStep file 1 steps start run) run

-- what is written of it
abbrev pub run_text : Detail → Run → List ℕ
run_text detail run = text_of detail run.reports
