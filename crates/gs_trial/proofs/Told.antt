-- What a step did, from what its deeds did.
use Rattle.std.proofs.Common.{◌≡◌, List, ℕ, Option, Some, None, Result, Ok, Err, sym, subst}
use Rattle.std.specs.Prelude.{IfSome, ⊤}
use Rattle.gs_schedule.specs.declared.step.Step.{Step}
use Rattle.gs_report.specs.Reporting.{Reporting}
use Rattle.gs_run.specs.CaptureFile.{CaptureFile}
use Rattle.gs_run.specs.Session.{State}
use Rattle.gs_run.specs.Deed.{Deed}
use Rattle.gs_run.specs.Refusal.{Refusal}
use Rattle.gs_run.specs.Line.{AreDeeds}
use Rattle.gs_trial.specs.declared.error.StepError.{StepError}
use Rattle.gs_trial.specs.declared.trial.Trial.{Trial}
use Rattle.gs_trial.specs.Stepping.{RunsDeeds, Steps, StepsIfTold, refusal_of}

if_any : (o : Option Refusal) (P : Type 0) → P → IfSome o (λ _. P)
if_any None P p = tt
if_any (Some why) P p = p

told : (file : CaptureFile) (step : Step) (state : State) (left : Option (List ℕ)) (new : Trial) (before now : Reporting) (r : Result ⊤ StepError)
    (deeds : List Deed)
    → AreDeeds file step state deeds → RunsDeeds file deeds state left new before now r → StepsIfTold file step state left new before now r
told file step state left new before now (Ok done) deeds are ran = record { deeds = deeds; are_deeds = are; ran_as = ran }
told file step state left new before now (Err e) deeds are ran =
    if_any (refusal_of e) (Steps file step state left new before now (Err e)) (record { deeds = deeds; are_deeds = are; ran_as = ran })

pub told_as : (file : CaptureFile) (step step' : Step) (state : State) (left : Option (List ℕ)) (new : Trial) (before now : Reporting) (r : Result ⊤ StepError)
    (deeds : List Deed)
    → step ≡ step' → AreDeeds file step' state deeds → RunsDeeds file deeds state left new before now r → StepsIfTold file step state left new before now r
told_as file step step' state left new before now r deeds is are ran =
    subst (λ (s : Step). StepsIfTold file s state left new before now r) (sym is) (told file step' state left new before now r deeds are ran)
