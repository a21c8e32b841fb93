-- A run that ends well is answered so, where no object fails and memory suffices.
use Rattle.std.proofs.Common.{◌≡◌, ◌≢◌, ◌⊎◌, ◌≤◌, ℕ, List, Option, Some, None, Result, Ok, Err, refl, sym, ap, subst, ◌∙◌, inl, inr}
use Rattle.std.specs.Prelude.{IfErr, ⊤}
use Rattle.gs_bytes.specs.Outside.{Rose}
use Rattle.gs_command.specs.declared.command.Detail.{Detail}
use Rattle.gs_command.specs.declared.command.Detail.TheVariants.{Sums}
use Rattle.gs_command.specs.declared.command.TrialCommand.{TrialCommand}
use Rattle.gs_schedule.specs.Lines.{lines_of}
use Rattle.gs_schedule.specs.declared.status.TrialStatus.{TrialStatus}
use Rattle.gs_schedule.specs.declared.status.TrialStatus.TheVariants as status
use Rattle.gs_run.specs.CaptureFile.{file_of}
use Rattle.gs_run.specs.Run.{IsRun, Run}
use Rattle.gs_run.proofs.OneRun.{schedules_have_one_run}
use Rattle.gs_make.proofs.EndingWell.{generated_runs_end_well}
use Rattle.gs_trial.specs.Trial.{AnswersIfTold, AnswersMake, AnswersScript, CompletesGenerated, CompletesIfTold, CountsFor, IsCause, WritesRun, status_answer}

-- an answer that is the run's own is its status
other : (run : Run) (answer : TrialStatus) → run.status ≡ status.Ok → run.status ≡ answer → status.Ok ≡ answer
other run answer ok ends = sym ok ∙ ends

-- where the run ends well, and no object failed
error_of : (detail : Detail) (run : Run) (old new : Option (List ℕ)) (e : TrialStatus) → IsCause e → (e ≡ status.TapeFault → ⊥)
    → (e ≡ status.ScheduleFault → ⊥) → (e ≡ status.WriteFault → ⊥) → run.status ≡ status.Ok → WritesRun detail run old new e
    → (e ≡ status.Ok) ⊎ (e ≡ status.OutOfMemory)
error_of detail run old new status.Ok cause t s w ok wrote = inl refl
error_of detail run old new status.OutOfMemory cause t s w ok wrote = inr refl
error_of detail run old new status.TapeFault cause t s w ok wrote = absurd (t refl)
error_of detail run old new status.ScheduleFault cause t s w ok wrote = absurd (s refl)
error_of detail run old new status.WriteFault cause t s w ok wrote = absurd (w refl)
error_of detail run old new (status.Usage word) cause t s w ok wrote = absurd cause
error_of detail run old new (status.BadTape kind place) cause t s w ok wrote =
    let same = other run (status.BadTape kind place) ok wrote.0 in absurd cc
error_of detail run old new (status.TapeFull tick) cause t s w ok wrote = let same = other run (status.TapeFull tick) ok wrote.0 in absurd cc
error_of detail run old new (status.UnitTooLarge tick) cause t s w ok wrote = let same = other run (status.UnitTooLarge tick) ok wrote.0 in absurd cc
error_of detail run old new (status.AudioLength length) cause t s w ok wrote = let same = other run (status.AudioLength length) ok wrote.0 in absurd cc
error_of detail run old new (status.BadSchedule line) cause t s w ok wrote = let same = other run (status.BadSchedule line) ok wrote.0 in absurd cc

-- ---- a schedule

one_script : (detail : Detail) (tape schedule : List ℕ) (old new : Option (List ℕ)) (e : TrialStatus) → IsCause e → (e ≡ status.TapeFault → ⊥)
    → (e ≡ status.ScheduleFault → ⊥) → (e ≡ status.WriteFault → ⊥) → AnswersScript detail tape schedule old new e
    → (run : Run) → IsRun (file_of tape) (lines_of schedule) run → run.status ≡ status.Ok → (e ≡ status.Ok) ⊎ (e ≡ status.OutOfMemory)
one_script detail tape schedule old new e cause t s w answers run is ok =
    let same : answers.run ≡ run = schedules_have_one_run (file_of tape) (lines_of schedule) answers.run run answers.is_run is in
    error_of detail answers.run old new e cause t s w (ap (λ (r : Run). r.status) same ∙ ok) answers.writes

pub completes : (detail : Detail) (tape schedule old new : Option (List ℕ)) (r : Result ⊤ TrialStatus) (t t' s s' w w' : ℕ)
    → AnswersIfTold detail tape schedule old new (status_answer r) → IfErr r IsCause → CountsFor status.TapeFault r t t'
    → CountsFor status.ScheduleFault r s s' → CountsFor status.WriteFault r w w'
    → (Rose t t' → ⊥) → (Rose s s' → ⊥) → (Rose w w' → ⊥) → CompletesIfTold tape schedule (status_answer r)
completes detail None schedule old new r t t' s s' w w' answers cause tape_counts schedule_counts write_counts no_tape no_schedule no_write = tt
completes detail (Some tape) None old new r t t' s s' w w' answers cause tape_counts schedule_counts write_counts no_tape no_schedule no_write = tt
completes detail (Some tape) (Some schedule) old new (Ok done) t t' s s' w w' answers cause tape_counts schedule_counts write_counts
    no_tape no_schedule no_write =
    λ run is ok. inl refl
completes detail (Some tape) (Some schedule) old new (Err e) t t' s s' w w' answers cause tape_counts schedule_counts write_counts
    no_tape no_schedule no_write =
    one_script detail tape schedule old new e cause (λ is. no_tape (tape_counts.0 is)) (λ is. no_schedule (schedule_counts.0 is))
    (λ is. no_write (write_counts.0 is)) answers

-- ---- what is generated

pub completes_make : (number ticks : ℕ) (old new : Option (List ℕ)) (r : Result ⊤ TrialStatus) (w w' : ℕ) → ticks ≤ 2000
    → AnswersMake number ticks old new (status_answer r) → IfErr r IsCause → IfErr r (λ e. e ≢ status.TapeFault)
    → IfErr r (λ e. e ≢ status.ScheduleFault) → CountsFor status.WriteFault r w w' → (Rose w w' → ⊥)
    → (status_answer r ≡ status.Ok) ⊎ (status_answer r ≡ status.OutOfMemory)
completes_make number ticks old new (Ok done) w w' few answers cause t s counts no_write = inl refl
completes_make number ticks old new (Err e) w w' few answers cause t s counts no_write =
    error_of Sums answers.run old new e cause t s (λ fault. no_write (counts.0 fault))
    (generated_runs_end_well number ticks answers.run few answers.is_run) answers.writes

pub completes_tape : (r : Result ⊤ TrialStatus) (w w' : ℕ) → IfErr r (λ e. (e ≡ status.WriteFault) ⊎ (e ≡ status.OutOfMemory))
    → CountsFor status.WriteFault r w w' → (Rose w w' → ⊥) → (status_answer r ≡ status.Ok) ⊎ (status_answer r ≡ status.OutOfMemory)
completes_tape (Ok done) w w' cause counts no_write = inl refl
completes_tape (Err e) w w' (inl fault) counts no_write = absurd (no_write (counts.0 fault))
completes_tape (Err e) w w' (inr memory) counts no_write = inr memory

-- the words are one command
pub of_command : (words : Option TrialCommand) (known command : TrialCommand) (answer : TrialStatus) → words ≡ Some known → words ≡ Some command
    → CompletesGenerated known answer → CompletesGenerated command answer
of_command words known command answer is are complete =
    let same : known ≡ command = cc in
    subst (λ (c : TrialCommand). CompletesGenerated c answer) same complete
