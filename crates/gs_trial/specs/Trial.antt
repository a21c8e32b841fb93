-- What a trial writes and answers. What an object doesn't tell is `None`.
use Rattle.std.specs.Prelude.{ℕ, ◌≡◌, ◌≢◌, ◌⊎◌, ◌<◌, ◌^◌, Bool, true, false, List, take, Option, Some, None}
use Rattle.std.specs.Prelude.{Result, Ok, Err, MatchBool, ⊤}
use Rattle.std.specs.List.{All}
use Rattle.std.specs.Io.KnownBytes.{Appends}
use Rattle.gs_bytes.specs.Outside.{Rose}
use Rattle.gs_command.specs.declared.command.Detail.{Detail}
use Rattle.gs_command.specs.declared.command.Detail.TheVariants.{Sums}
use Rattle.gs_command.specs.declared.command.TrialCommand.{TrialCommand}
use Rattle.gs_command.specs.declared.command.TrialCommand.TheVariants.{Script, Make, Tape}
use Rattle.gs_schedule.specs.Lines.{lines_of}
use Rattle.gs_schedule.specs.declared.status.TrialStatus.{TrialStatus}
use Rattle.gs_schedule.specs.declared.status.TrialStatus.TheVariants as status
use Rattle.gs_run.specs.CaptureFile.{file_of, generated_file}
use Rattle.gs_run.specs.Report.{Report, text_of}
use Rattle.gs_run.specs.Run.{Run, IsRun, run_text}
use Rattle.gs_run.specs.Generated.{IsGeneratedRun, generated_bytes}
use Rattle.gs_run.specs.WholeRun.{RunHolds}

-- the answers that a run itself gives; the others are of an object that failed, and of want of memory
abbrev pub is_of_run : TrialStatus → Bool
is_of_run status.TapeFault = false
is_of_run status.ScheduleFault = false
is_of_run status.WriteFault = false
is_of_run status.OutOfMemory = false
is_of_run (status.Usage word) = false
is_of_run _ = true

-- the answers of a source of which a read failed
abbrev pub is_of_source : TrialStatus → Bool
is_of_source status.TapeFault = true
is_of_source status.ScheduleFault = true
is_of_source _ = false

-- a front of a text was written
abbrev pub WritesFront : Option (List ℕ) → Option (List ℕ) → List ℕ → Type 0
WritesFront old new text = (n : ℕ) × Appends old new (take n text)

-- the text of whole reports was written, of those at the front of all
abbrev pub WritesReports : Detail → List Report → (old new : Option (List ℕ)) → Type 0
WritesReports detail reports old new = (n : ℕ) × Appends old new (text_of detail (take n reports))

-- The whole text of a run that ends with this answer was written. Where the answer isn't the run's it is a front of it,
-- and one of whole reports where a source failed.
abbrev pub WritesRun : Detail → Run → Option (List ℕ) → Option (List ℕ) → TrialStatus → Type 0
WritesRun detail run old new answer =
    MatchBool (is_of_run answer)
    ((run.status ≡ answer) × Appends old new (run_text detail run))
    (MatchBool (is_of_source answer)
    (WritesReports detail run.reports old new)
    (WritesFront old new (run_text detail run)))

-- The run of a schedule with these bytes over the capture file with these. What holds of every run over bytes holds of
-- it: of what its sessions did behind each deed, and of its lines.
pub record AnswersScript (detail : Detail) (tape schedule : List ℕ) (old new : Option (List ℕ)) (answer : TrialStatus)
    : Type 0 where
  pub run : Run
  pub is_run : IsRun (file_of tape) (lines_of schedule) run
  pub writes : WritesRun detail run old new answer
  pub holds : All (λ b. b < 2 ^ 8) tape → RunHolds (file_of tape) run

abbrev pub AnswersIfTold : Detail → (tape schedule old new : Option (List ℕ)) → TrialStatus → Type 0
AnswersIfTold detail None schedule old new answer = ⊤
AnswersIfTold detail (Some tape) None old new answer = ⊤
AnswersIfTold detail (Some tape) (Some schedule) old new answer = AnswersScript detail tape schedule old new answer

-- the generated run, of which the sums are written, and what holds of every run
pub record AnswersMake (number ticks : ℕ) (old new : Option (List ℕ)) (answer : TrialStatus) : Type 0 where
  pub run : Run
  pub is_run : IsGeneratedRun number ticks run
  pub writes : WritesRun Sums run old new answer
  pub holds : RunHolds (generated_file number ticks) run

-- The generated capture file was written whole where the answer is Ok, which is the only one of a run's own answers
-- that can come; where the answer isn't the run's, a front of it.
abbrev pub AnswersTape : ℕ → ℕ → (old new : Option (List ℕ)) → TrialStatus → Type 0
AnswersTape number ticks old new answer =
    MatchBool (is_of_run answer)
    ((answer ≡ status.Ok) × Appends old new (generated_bytes number ticks))
    (WritesFront old new (generated_bytes number ticks))

abbrev pub Answers : TrialCommand → (tape schedule old new : Option (List ℕ)) → TrialStatus → Type 0
Answers (Script detail) tape schedule old new answer = AnswersIfTold detail tape schedule old new answer
Answers (Make generated) tape schedule old new answer = AnswersMake generated.number generated.ticks old new answer
Answers (Tape generated) tape schedule old new answer = AnswersTape generated.number generated.ticks old new answer

-- where both sources tell their bytes and the run of them ends well, only memory may be wanting
abbrev pub CompletesIfTold : (tape schedule : Option (List ℕ)) → TrialStatus → Type 0
CompletesIfTold None schedule answer = ⊤
CompletesIfTold (Some tape) None answer = ⊤
CompletesIfTold (Some tape) (Some schedule) answer =
    (run : Run) → IsRun (file_of tape) (lines_of schedule) run → run.status ≡ status.Ok
    → (answer ≡ status.Ok) ⊎ (answer ≡ status.OutOfMemory)

-- Where no write failed, only memory may be wanting to a generated run, which ends well, and to a generated capture
-- file.
abbrev pub CompletesGenerated : TrialCommand → TrialStatus → Type 0
CompletesGenerated (Script detail) answer = ⊤
CompletesGenerated (Make generated) answer = (answer ≡ status.Ok) ⊎ (answer ≡ status.OutOfMemory)
CompletesGenerated (Tape generated) answer = (answer ≡ status.Ok) ⊎ (answer ≡ status.OutOfMemory)

-- the head of the capture file is in order, where its bytes are told
abbrev pub HasHead : Option (List ℕ) → Type 0
HasHead None = ⊤
HasHead (Some bytes) = (file_of bytes).head ≡ None

-- nothing is read by what generates
abbrev pub IsGenerating : TrialCommand → Type 0
IsGenerating (Script detail) = ⊥
IsGenerating (Make generated) = ⊤
IsGenerating (Tape generated) = ⊤

-- ---- Cited by private contracts alone: how a part of a trial ends

-- An object's count of faults rose where this is the error, and nowhere else.
abbrev pub CountsFor : TrialStatus → Result ⊤ TrialStatus → ℕ → ℕ → Type 0
CountsFor cause (Ok done) before now = now ≡ before
CountsFor cause (Err e) before now = (e ≡ cause → Rose before now) × (now ≢ before → e ≡ cause)

-- an error is neither of the words nor of a whole run
abbrev pub IsCause : TrialStatus → Type 0
IsCause status.Ok = ⊥
IsCause (status.Usage word) = ⊥
IsCause _ = ⊤

abbrev pub status_answer : Result ⊤ TrialStatus → TrialStatus
status_answer (Ok done) = status.Ok
status_answer (Err e) = e
