-- What a script ran and read before a read of a source failed.
use Rattle.std.specs.Prelude.{ℕ, ◌≡◌, ◌⊎◌, ◌++◌, Bool, false, List, [], ◌∷◌, Option, Some, None, IfSome, ⊤}
use Rattle.std.specs.Io.KnownBytes.{Appends}
use Rattle.gs_feed.specs.Cuts.{StopsBehind, StopsInHead, StopsInRest}
use Rattle.gs_command.specs.declared.command.Detail.{Detail}
use Rattle.gs_schedule.specs.Lines.{holds_line, lines_of}
use Rattle.gs_schedule.specs.declared.step.Step.{Step}
use Rattle.gs_schedule.specs.declared.step.Step.TheVariants as step
use Rattle.gs_schedule.specs.declared.status.TrialStatus.{TrialStatus}
use Rattle.gs_schedule.specs.declared.status.TrialStatus.TheVariants as status
use Rattle.gs_run.specs.CaptureFile.{CaptureFile, file_of}
use Rattle.gs_run.specs.Session.{State, start}
use Rattle.gs_run.specs.Report.{Report, text_of}
use Rattle.gs_run.specs.Line.{HasStep}
use Rattle.gs_run.specs.Run.{Run, RunsFrom, behind}

-- Steps were run from one state to another, with these reports: whatever run those that are left have, with the reports
-- before it, is one of all.
pub record Leads {A : Type 0} (Has : ℕ → A → Option Step → Type 0) (file : CaptureFile) (number : ℕ) (steps : List A)
    (state : State) (reports : List Report) (number' : ℕ) (steps' : List A) (state' : State) : Type 0 where
  pub leads : (run : Run) → RunsFrom Has file number' steps' state' run
      → RunsFrom Has file number steps state (behind reports run)

-- The lines were run up to those that are left, of which the first has this number, and exactly the text of what they
-- reported was written.
pub record HasRun (detail : Detail) (file : CaptureFile) (lines : List (List ℕ)) (number : ℕ) (rest : List (List ℕ))
    (old new : Option (List ℕ)) : Type 0 where
  pub state : State
  pub reports : List Report
  pub run : Leads HasStep file 1 lines start reports number rest state
  pub writes : Appends old new (text_of detail reports)

-- The next line captures, and what was read of the capture file ends behind a tick for each capture before it; or none
-- is left, and it ends behind those or behind later ones.
abbrev pub StopsAtCapture : (tape : List ℕ) → (left : Option (List ℕ)) → (captured : ℕ) → ℕ → List (List ℕ) → Type 0
StopsAtCapture tape left captured number [] = StopsInRest tape left captured
StopsAtCapture tape left captured number (line ∷ rest) =
    HasStep number line (Some step.Cap) × StopsBehind tape left captured

-- Where the capture file is read, and what was read of it: its head before all lines, a tick at one that captures, and
-- its rest behind all.
abbrev pub StopsTape : (tape : List ℕ) → (left : Option (List ℕ)) → List (List ℕ) → (captured : ℕ) → ℕ → List (List ℕ)
    → Type 0
StopsTape tape left lines captured number rest =
    ((number ≡ 1) × (rest ≡ lines) × StopsInHead tape left) ⊎ StopsAtCapture tape left captured number rest

-- Where a read of the capture file failed, the lines were run up to where it is read, and what was read of its bytes
-- ends too early there. Where one of the schedule failed, all lines of what was read of it were, and what was read
-- besides is no whole line.
abbrev pub Stops : Detail → (tape : List ℕ) → List (List ℕ) → (left unread old new : Option (List ℕ)) → TrialStatus
    → Type 0
Stops detail tape lines left unread old new status.TapeFault =
    (number : ℕ) × (rest : List (List ℕ)) × (has : HasRun detail (file_of tape) lines number rest old new)
    × StopsTape tape left lines has.state.captured number rest
Stops detail tape lines left unread old new status.ScheduleFault = IfSome unread (λ unread.
    (number : ℕ) × (held : List ℕ) × (holds_line held ≡ false)
    × HasRun detail (file_of tape) lines number (lines_of (held ++ unread)) old new)
Stops detail tape lines left unread old new _ = ⊤

-- where both sources tell their bytes
abbrev pub StopsIfTold : Detail → (tape schedule left unread old new : Option (List ℕ)) → TrialStatus → Type 0
StopsIfTold detail None schedule left unread old new answer = ⊤
StopsIfTold detail (Some tape) None left unread old new answer = ⊤
StopsIfTold detail (Some tape) (Some schedule) left unread old new answer =
    Stops detail tape (lines_of schedule) left unread old new answer
