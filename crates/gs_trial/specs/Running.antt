-- Cited by private contracts alone: the run of lines, or of steps, on the way, with what was run so far and what is
-- left to run. Their text is gathered before it is written: of what was reported a part waits.
use Rattle.std.specs.Prelude.{ℕ, ◌≡◌, ◌++◌, false, List, Option, Some, None, IfSome, MatchBool, take, ⊤}
use Rattle.std.specs.Io.KnownBytes.{Appends}
use Rattle.gs_schedule.specs.declared.step.Step.{Step}
use Rattle.gs_schedule.specs.Lines.{holds_line, lines_of}
use Rattle.gs_schedule.specs.declared.status.TrialStatus.{TrialStatus}
use Rattle.gs_schedule.specs.declared.status.TrialStatus.TheVariants as status
use Rattle.gs_report.specs.Reporting.{Reporting, with_reports}
use Rattle.gs_run.specs.CaptureFile.{CaptureFile}
use Rattle.gs_run.specs.Session.{State}
use Rattle.gs_run.specs.Report.{Report}
use Rattle.gs_run.specs.Deed.{Deed}
use Rattle.gs_run.specs.Refusal.{Refusal}
use Rattle.gs_run.specs.Done.{ran}
use Rattle.gs_run.specs.Line.{AreDeeds, HasStep}
use Rattle.gs_run.specs.Run.{Run, RunsFrom, refusal_status}
use Rattle.gs_trial.specs.declared.trial.Trial.{Trial}
use Rattle.gs_trial.specs.Standing.{IsTrialOf}
use Rattle.gs_trial.specs.Stopping.{StopsAtCapture}
pub use Rattle.gs_trial.specs.Stopping.{Leads}
use Rattle.gs_trial.specs.Trial.{WritesFront, is_of_run, is_of_source}

-- ---- text that waits

-- a text was written, up to what waits of it
abbrev pub WritesUpTo : (old new : Option (List ℕ)) → (text waits : List ℕ) → Type 0
WritesUpTo old new text waits = (written : List ℕ) × Appends old new written × (text ≡ written ++ waits)

-- what waited was written, or a front of it where no source failed
abbrev pub WritesWaiting : TrialStatus → (old new : Option (List ℕ)) → List ℕ → Type 0
WritesWaiting answer old new waits = MatchBool (is_of_source answer) (Appends old new waits) (WritesFront old new waits)

-- What waited before was written, and the text of the first of these reports; where no source failed a front of both
-- alone.
abbrev pub WritesPart : TrialStatus → Reporting → List Report → (old new : Option (List ℕ)) → Type 0
WritesPart answer before reports old new =
    MatchBool (is_of_source answer)
    ((n : ℕ) × Appends old new (with_reports before (take n reports)).text)
    (WritesFront old new (with_reports before reports).text)

-- A run ends with this answer, and what waited before it was written with the whole text of the run; a part of both
-- where the answer isn't the run's.
abbrev pub WritesBehind : Reporting → Run → (old new : Option (List ℕ)) → TrialStatus → Type 0
WritesBehind before run old new answer =
    MatchBool (is_of_run answer)
    ((run.status ≡ answer) × Appends old new (with_reports before run.reports).text)
    (WritesPart answer before run.reports old new)

-- the same trial, but for the text that waits
pub record IsSameButText (old new : Trial) : Type 0 where
  pub feed : new.feed ≡ old.feed
  pub moment : new.moment ≡ old.moment
  pub sessions : new.sessions ≡ old.sessions
  pub detail : new.reporter.detail ≡ old.reporter.detail

-- ---- lines, or steps

-- Steps were run, up to those that are left; the trial stands for what they left, and of what waited before and their
-- text it was written all but what waits now.
pub record LedTo {A : Type 0} (Has : ℕ → A → Option Step → Type 0) (before : Reporting) (file : CaptureFile)
    (number : ℕ) (steps : List A) (state : State) (old new : Option (List ℕ)) (number' : ℕ) (steps' : List A)
    (trial : Trial) (left : Option (List ℕ)) : Type 0 where
  pub reached : State
  pub reports : List Report
  pub run : Leads Has file number steps state reports number' steps' reached
  pub stands : IsTrialOf trial file left reached
  pub detail_is : trial.reporter.detail ≡ before.detail
  pub writes : WritesUpTo old new (with_reports before reports).text trial.reporter.text

-- The run of these steps ends with this answer, and what waited before and its text were written; where the answer
-- isn't the run's, a part of both.
pub record EndsRun {A : Type 0} (Has : ℕ → A → Option Step → Type 0) (before : Reporting) (file : CaptureFile)
    (number : ℕ) (steps : List A) (state : State) (old new : Option (List ℕ)) (answer : TrialStatus) : Type 0 where
  pub run : Run
  pub runs : RunsFrom Has file number steps state run
  pub writes : WritesBehind before run old new answer

-- ---- where a read failed

-- the lines were run up to those that are left, and what waited before was written with exactly the text of what they
-- reported
pub record HasLed (before : Reporting) (file : CaptureFile) (lines : List (List ℕ)) (state : State) (number : ℕ)
    (rest : List (List ℕ)) (old new : Option (List ℕ)) : Type 0 where
  pub reached : State
  pub reports : List Report
  pub run : Leads HasStep file 1 lines state reports number rest reached
  pub writes : Appends old new (with_reports before reports).text

-- the same up to where the capture file is read, and what was read of its bytes
abbrev pub HasLedToCut : Reporting → CaptureFile → (tape : List ℕ) → List (List ℕ) → State
    → (left old new : Option (List ℕ)) → Type 0
HasLedToCut before file tape lines state left old new =
    (number : ℕ) × (rest : List (List ℕ)) × (led : HasLed before file lines state number rest old new)
    × StopsAtCapture tape left led.reached.captured number rest

-- up to a line that captures, where a read of the capture file failed, and all lines of what was read of the schedule,
-- where one of it did
abbrev pub StopsLines : Reporting → CaptureFile → (tape : List ℕ) → List (List ℕ) → State
    → (left unread old new : Option (List ℕ)) → TrialStatus → Type 0
StopsLines before file tape lines state left unread old new status.TapeFault =
    HasLedToCut before file tape lines state left old new
StopsLines before file tape lines state left unread old new status.ScheduleFault = IfSome unread (λ unread.
    (number : ℕ) × (held : List ℕ) × (holds_line held ≡ false)
    × HasLed before file lines state number (lines_of (held ++ unread)) old new)
StopsLines before file tape lines state left unread old new _ = ⊤

-- ---- one step

-- the deeds of a step were done, and of what waited before and their text it was written all but what waits now
pub record RanStep (before : Reporting) (file : CaptureFile) (step : Step) (state : State) (old new : Option (List ℕ))
    (trial : Trial) (left : Option (List ℕ)) : Type 0 where
  pub deeds : List Deed
  pub are_deeds : AreDeeds file step state deeds
  pub all : (ran file deeds state).refused ≡ None
  pub stands : IsTrialOf trial file left (ran file deeds state).state
  pub detail_is : trial.reporter.detail ≡ before.detail
  pub writes : WritesUpTo old new (with_reports before (ran file deeds state).reports).text trial.reporter.text

-- they were refused, which is the answer
abbrev pub IsRunRefused : ℕ → Option Refusal → TrialStatus → Type 0
IsRunRefused number None answer = ⊥
IsRunRefused number (Some why) answer = refusal_status number why ≡ answer

-- The deed of a step was refused, and what waited before and the text of those before it were written; where the answer
-- isn't the run's, a part of what waited and the text of all.
pub record EndsStep (before : Reporting) (file : CaptureFile) (number : ℕ) (step : Step) (state : State)
    (old new : Option (List ℕ)) (answer : TrialStatus) : Type 0 where
  pub deeds : List Deed
  pub are_deeds : AreDeeds file step state deeds
  pub writes : MatchBool (is_of_run answer)
      (IsRunRefused number (ran file deeds state).refused answer
      × Appends old new (with_reports before (ran file deeds state).reports).text)
      (WritesPart answer before (ran file deeds state).reports old new)
