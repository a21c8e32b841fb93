-- A step of one deed that is no session's.
use Rattle.std.proofs.Common.{◌≡◌, ℕ, List, [], ◌∷◌, Option, Some, None, Result, Ok, Err, refl, sym, ap, subst}
use Rattle.std.proofs.Common.{◌∙◌, append-nil}
use Rattle.std.specs.Prelude.{IfSome, ⊤}
use Rattle.std.specs.Result.{IsErrAnd}
use Rattle.std.proofs.lemmas.Result.{err_from_is_err_and}
use Rattle.gs_report.specs.Reporting.{Reporting, with_reports}
use Rattle.gs_report.proofs.Reported.{with_none}
use Rattle.gs_run.specs.CaptureFile.{CaptureFile}
use Rattle.gs_run.specs.Session.{State}
use Rattle.gs_run.specs.Report.{Acted, Report}
use Rattle.gs_run.specs.Deed.{Deed}
use Rattle.gs_run.specs.Refusal.{Refusal, refusal}
use Rattle.gs_run.specs.Done.{Ran, after, done, ran, ran_on, unless_refused}
use Rattle.gs_trial.specs.declared.error.StepError.{StepError}
use Rattle.gs_trial.specs.declared.error.StepError.TheVariants as step_error
use Rattle.gs_trial.specs.declared.trial.Trial.{Trial}
use Rattle.gs_trial.specs.Standing.{IsTrialOf}
use Rattle.gs_trial.specs.Stepping.{RanTo, RanWhole, RunsDeeds, RunsIn, refusal_of}

ran_done : (file : CaptureFile) (deed : Deed) (state : State) (acted : Acted State) → done file deed state ≡ Ok acted
    → ran file (deed ∷ []) state ≡ record { state = acted.value; reports = acted.reports; refused = None }
unfolding ran
ran_done file deed state acted is =
    ap (λ (r : Result (Acted State) Refusal). ran_on r state (ran file [])) is
    ∙ ap (λ (l : List Report). record { state = acted.value; reports = l; refused = None }) (append-nil acted.reports)

ran_refused : (file : CaptureFile) (deed : Deed) (state : State) (why : Refusal) → done file deed state ≡ Err why
    → ran file (deed ∷ []) state ≡ record { state = state; reports = []; refused = Some why }
unfolding ran
ran_refused file deed state why is = ap (λ (r : Result (Acted State) Refusal). ran_on r state (ran file [])) is

-- a deed was done
pub deed_done : (file : CaptureFile) (deed : Deed) (state : State) (left : Option (List ℕ)) (new : Trial) (before : Reporting) (acted : Acted State)
    → refusal file deed state ≡ None → after file deed state ≡ acted → IsTrialOf new file left acted.value → new.reporter ≡ with_reports before acted.reports
    → RunsDeeds file (deed ∷ []) state left new before new.reporter (Ok tt)
deed_done file deed state left new before acted may is stands text =
    let did : done file deed state ≡ Ok acted = ap (λ (o : Option Refusal). unless_refused o (after file deed state)) may
    ∙ ap (λ (a : Acted State). unless_refused None a) is in
    let R : Ran → Type 0 = λ r. RanWhole file left r new before new.reporter in
    subst R (sym (ran_done file deed state acted did)) (record { ran = record { refused_is = refl; text = text }; stands = stands })

-- a deed was refused
pub deed_refused : (file : CaptureFile) (deed : Deed) (state : State) (left : Option (List ℕ)) (new : Trial) (before now : Reporting) (why : Refusal)
    (e : StepError)
    → refusal file deed state ≡ Some why → refusal_of e ≡ Some why → now ≡ before → RunsDeeds file (deed ∷ []) state left new before now (Err e)
deed_refused file deed state left new before now why e not tells same =
    let did : done file deed state ≡ Err why = ap (λ (o : Option Refusal). unless_refused o (after file deed state)) not in
    let ends : RanTo (ran file (deed ∷ []) state) (Some why) before now =
    subst (λ (r : Ran). RanTo r (Some why) before now) (sym (ran_refused file deed state why did))
    (record { refused_is = refl; text = same ∙ sym (with_none before) }) in
    subst (λ (o : Option Refusal). IfSome o (λ w. RanTo (ran file (deed ∷ []) state) (Some w) before now)) (sym tells) ends

-- want of memory tells nothing
pub unknown : (old new : Trial) (deeds : List Deed) (r : Result ⊤ StepError) → IsErrAnd r (λ e. e ≡ step_error.OutOfMemory) → RunsIn old deeds new r
unknown old new deeds r is = λ file left state stands.
    let p = err_from_is_err_and r is in
    subst (RunsDeeds file deeds state left new old.reporter new.reporter) (sym (p.1 ∙ ap (λ (e : StepError). Err e) p.2)) tt
