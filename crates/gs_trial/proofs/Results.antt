-- What a clause on a result says with others.
use Rattle.std.proofs.Common.{◌≡◌, ◌⊎◌, false, Result, Ok, Err, ap, inl, inr}
use Rattle.std.specs.Prelude.{IfErr, OnErr}
use Rattle.gs_schedule.specs.declared.status.TrialStatus.{TrialStatus}
use Rattle.gs_schedule.specs.declared.status.TrialStatus.TheVariants as status
use Rattle.gs_trial.specs.Trial.{is_of_run, is_of_source}

pub err_both : {T E : Type 0} (r : Result T E) (P : Type 0) (Q R : E → Type 0) → ((e : E) → P → Q e → R e) → OnErr r P → IfErr r Q → IfErr r R
err_both (Ok x) P Q R f h k = k
err_both (Err e) P Q R f h k = f e h k

-- an answer of a sink that failed, or of want of memory
pub not_of_run : (answer : TrialStatus) → (answer ≡ status.WriteFault) ⊎ (answer ≡ status.OutOfMemory) → is_of_run answer ≡ false
not_of_run answer cause = elim cause [ inl e ↦ ap is_of_run e | inr e ↦ ap is_of_run e ]

pub not_of_source : (answer : TrialStatus) → (answer ≡ status.WriteFault) ⊎ (answer ≡ status.OutOfMemory) → is_of_source answer ≡ false
not_of_source answer cause = elim cause [ inl e ↦ ap is_of_source e | inr e ↦ ap is_of_source e ]
