-- Step after step.
use Rattle.std.proofs.Common.{◌≡◌, ◌+◌, ◌<◌, ◌≤◌, ◌++◌, ◌∙◌, ℕ, zero, suc, List, [], ◌∷◌, length, drop, Option, Some, refl, sym, ap, subst, arith}
use Rattle.std.specs.List.{slice_index_or}
use Rattle.std.proofs.lemmas.List.{drop_all}
use Rattle.gs_schedule.specs.declared.status.TrialStatus.{TrialStatus}
use Rattle.gs_schedule.specs.declared.step.Step.{Step}
use Rattle.gs_report.specs.Reporting.{Reporting}
use Rattle.gs_run.specs.CaptureFile.{CaptureFile}
use Rattle.gs_run.specs.Session.{State}
use Rattle.gs_run.specs.Done.{ran}
use Rattle.gs_run.specs.Run.{IsStep, Run, RunsFrom}
use Rattle.gs_trial.specs.declared.trial.Trial.{Trial}
use Rattle.gs_trial.specs.Standing.{IsTrialOf}
use Rattle.gs_trial.specs.Running.{EndsRun, EndsStep, Leads, LedTo, RanStep}
use Rattle.gs_trial.proofs.Leading.{ends_behind, ends_step, led_none, leads_more, leads_step}
use Rattle.gs_run.proofs.SomeRun.{from_some}
use Rattle.gs_trial.proofs.Texts.{up_to_reports}

pub steps_some : (file : CaptureFile) (n : ℕ) (steps : List Step) (state : State) → (run : Run) × RunsFrom IsStep file n steps state run
steps_some file n steps state = from_some IsStep file (λ n step. (Some step, refl)) n steps state

-- what is left from a place on
left_from : (steps : List Step) (k : ℕ) (d : Step) → k < length steps → drop k steps ≡ slice_index_or steps k d ∷ drop (k + 1) steps
left_from [] k d within = absurd (omega (arith, within))
left_from (x ∷ steps) zero d within = refl
left_from (x ∷ steps) (suc k) d within =
    let e : suc (k + 1) ≡ suc k + 1 = omega arith in
    left_from steps k d (omega (arith, within)) ∙ ap (λ (n : ℕ). slice_index_or steps k d ∷ drop n (x ∷ steps)) e

pub steps_start : (file : CaptureFile) (steps : List Step) (state : State) (a : Option (List ℕ)) (trial : Trial) (left : Option (List ℕ))
    → IsTrialOf trial file left state → LedTo IsStep trial.reporter file 1 steps state a a 1 steps trial left
steps_start file steps state a trial left stands = led_none IsStep file 1 steps state a trial left stands

-- the next step was run
pub steps_next : (before : Reporting) (file : CaptureFile) (steps : List Step) (k : ℕ) (d : Step) (state : State) (a b c : Option (List ℕ)) (trial new : Trial)
    (left left' : Option (List ℕ)) → k < length steps
    → LedTo IsStep before file 1 steps state a b (k + 1) (drop k steps) trial left
    → ((t : State) → IsTrialOf trial file left t → RanStep trial.reporter file (slice_index_or steps k d) t b c new left')
    → LedTo IsStep before file 1 steps state a c (k + 1 + 1) (drop (k + 1) steps) new left'
steps_next before file steps k d state a b c trial new left left' within led run =
    let did = run led.reached led.stands in
    let behind = ran file did.deeds led.reached in
    let one : Leads IsStep file (k + 1) (drop k steps) led.reached behind.reports (k + 1 + 1) (drop (k + 1) steps) behind.state =
    subst (λ (l : List Step). Leads IsStep file (k + 1) l led.reached behind.reports (k + 1 + 1) (drop (k + 1) steps) behind.state)
    (sym (left_from steps k d within))
    (leads_step IsStep file (k + 1) (slice_index_or steps k d) (drop (k + 1) steps) led.reached
    (slice_index_or steps k d) did.deeds refl did.are_deeds did.all) in
    record {
      reached = behind.state;
      reports = led.reports ++ behind.reports;
      run = leads_more IsStep file 1 (k + 1) (k + 1 + 1) steps (drop k steps) (drop
          (k + 1) steps) state led.reached behind.state led.reports behind.reports led.run one;
      stands = did.stands;
      detail_is = did.detail_is ∙ led.detail_is;
      writes = up_to_reports before trial.reporter led.reports behind.reports a b c new.reporter.text led.detail_is led.writes did.writes;
    }

-- the next step ends the run
pub steps_end : (before : Reporting) (file : CaptureFile) (steps : List Step) (k : ℕ) (d : Step) (state : State) (a b c : Option (List ℕ)) (trial : Trial)
    (left : Option (List ℕ)) (answer : TrialStatus) → k < length steps
    → LedTo IsStep before file 1 steps state a b (k + 1) (drop k steps) trial left
    → ((t : State) → IsTrialOf trial file left t → EndsStep trial.reporter file (k + 1) (slice_index_or steps k d) t b c answer)
    → EndsRun IsStep before file 1 steps state a c answer
steps_end before file steps k d state a b c trial left answer within led run =
    let there : EndsRun IsStep trial.reporter file (k + 1) (drop k steps) led.reached b c answer =
    subst (λ (l : List Step). EndsRun IsStep trial.reporter file (k + 1) l led.reached b c answer) (sym (left_from steps k d within))
    (ends_step IsStep trial.reporter file (k + 1) (slice_index_or steps k d) (drop (k + 1) steps) led.reached (slice_index_or steps k d) b c answer
    (λ t. steps_some file (k + 1 + 1) (drop (k + 1) steps) t) refl (run led.reached led.stands)) in
    ends_behind IsStep before trial.reporter file 1 (k + 1) steps (drop k steps) state led.reached led.reports a b c answer led.run led.detail_is led.writes
    there

-- none is left
pub steps_done : (before : Reporting) (file : CaptureFile) (steps : List Step) (k : ℕ) (state : State) (a b : Option (List ℕ)) (trial : Trial)
    (left : Option (List ℕ)) → length steps ≤ k → LedTo IsStep before file 1 steps state a b (k + 1) (drop k steps) trial left
    → (n : ℕ) × LedTo IsStep before file 1 steps state a b n [] trial left
steps_done before file steps k state a b trial left past led =
    (k + 1, subst (λ (l : List Step). LedTo IsStep before file 1 steps state a b (k + 1) l trial left) (drop_all k steps past) led)
