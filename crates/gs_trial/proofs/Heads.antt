-- The schedule is read behind the capture file's head.
use Rattle.std.proofs.Common.{◌≡◌, ◌≢◌, ◌⊎◌, List, ℕ, Option, Some, None, Result, Ok, Err, IfErr, ap, inl, inr, ◌∙◌, sym}
use Rattle.std.specs.Prelude.{⊤}
use Rattle.gs_tape.specs.declared.error.TapeError.{TapeError}
use Rattle.gs_tape.specs.declared.error.TapeError.TheVariants as tape_error
use Rattle.gs_feed.specs.Feeding.{Feeding, OpensFeed}
use Rattle.gs_schedule.specs.declared.status.TrialStatus.{TrialStatus}
use Rattle.gs_schedule.specs.declared.status.TrialStatus.TheVariants as status
use Rattle.gs_run.specs.CaptureFile.{fault_of_head}
use Rattle.gs_trial.specs.Stepping.{tape_status}
use Rattle.gs_trial.specs.Trial.{HasHead, status_answer}

-- a file that was opened has its head in order
pub head_of_open : (left now : Option (List ℕ)) (feed : Feeding) → OpensFeed left now (Ok feed) → HasHead left
head_of_open None now feed opens = tt
head_of_open (Some bytes) now feed opens = ap fault_of_head opens.head_is

-- what ends a file is no fault of the schedule
pub not_of_schedule : (e : TapeError) (P : Type 0) → tape_status e ≡ status.ScheduleFault → P
not_of_schedule tape_error.TapeFault P is = absurd cc
not_of_schedule (tape_error.BadTape kind place) P is = absurd cc
not_of_schedule (tape_error.TapeFull tick) P is = absurd cc
not_of_schedule (tape_error.UnitTooLarge tick) P is = absurd cc
not_of_schedule (tape_error.AudioLength length) P is = absurd cc
not_of_schedule tape_error.OutOfMemory P is = absurd cc

pub in_any_case : (r : Result ⊤ TrialStatus) (P : Type 0) → P → IfErr r (λ e. e ≡ status.ScheduleFault → P)
in_any_case (Ok done) P p = tt
in_any_case (Err e) P p = λ is. p

pub of_answer : (r : Result ⊤ TrialStatus) (P : Type 0) → IfErr r (λ e. e ≡ status.ScheduleFault → P) → status_answer r ≡ status.ScheduleFault → P
of_answer (Ok done) P h is = absurd cc
of_answer (Err e) P h is = h is

pub never : (r : Result ⊤ TrialStatus) (P : Type 0) → IfErr r (λ e. e ≢ status.ScheduleFault) → status_answer r ≡ status.ScheduleFault → P
never (Ok done) P h is = absurd cc
never (Err e) P h is = absurd (h is)

pub never_written : (r : Result ⊤ TrialStatus) (P : Type 0) → IfErr r (λ e. (e ≡ status.WriteFault) ⊎ (e ≡ status.OutOfMemory))
    → status_answer r ≡ status.ScheduleFault → P
never_written (Ok done) P h is = absurd cc
never_written (Err e) P (inl write) is = absurd (let both : status.WriteFault ≡ status.ScheduleFault = sym write ∙ is in cc)
never_written (Err e) P (inr memory) is = absurd (let both : status.OutOfMemory ≡ status.ScheduleFault = sym memory ∙ is in cc)
