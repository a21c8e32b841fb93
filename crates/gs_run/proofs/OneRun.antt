-- A schedule has one run at most over a capture file, and so have steps.
use Rattle.std.proofs.Common.{◌≡◌, ◌+◌, ℕ, List, [], ◌∷◌, Option, Some, None, Result, Ok, Err, refl, sym, ap, subst, ◌∙◌}
use Rattle.gs_tape.specs.Reading.{Fault}
use Rattle.gs_schedule.specs.declared.step.Step.{Step}
use Rattle.gs_schedule.specs.declared.step.Step.TheVariants as step
use Rattle.gs_schedule.proofs.Steps.{one_step}
use Rattle.gs_run.specs.CaptureFile.{CaptureFile}
use Rattle.gs_run.specs.Session.{State, start, session_numbered}
use Rattle.gs_run.specs.Report.{Acted}
use Rattle.gs_run.specs.Deed.{SessionDeed, Turn, TakeVideo, TakeAudio, TakeUp, TakeDown, Give, AskIdr, Close, Reset, Mark, Deed, In}
use Rattle.gs_run.specs.Pump.{Pumping, moved}
use Rattle.gs_run.specs.Refusal.{Refusal}
use Rattle.gs_run.specs.Done.{done, Ran, ran}
use Rattle.gs_run.specs.Line.{HasStep, pumping_from, pump_deed, GoesOn, ArePumpDeeds, AreDeeds}
use Rattle.gs_run.specs.Run.{IsStep, Run, behind, RunsOn, RunsStep, RunsFrom, RunsUnless}
use Rattle.gs_run.specs.RunLaws.{SchedulesHaveOneRun, StepsHaveOneRun}

-- ---- a pump

goes_one : (d : SessionDeed) (result : Result (Acted State) Refusal) (ds es : List Deed) (R : List Deed → State → Type 0)
    → GoesOn d result ds (R ds) → GoesOn d result es (R es) → ((s : State) → R ds s → R es s → ds ≡ es) → ds ≡ es
goes_one Mark result ds es R a b one = a ∙ sym b
goes_one Turn (Err why) ds es R a b one = a ∙ sym b
goes_one Turn (Ok acted) ds es R a b one = one acted.value a b
goes_one (TakeVideo k) (Err why) ds es R a b one = a ∙ sym b
goes_one (TakeVideo k) (Ok acted) ds es R a b one = one acted.value a b
goes_one (TakeAudio k) (Err why) ds es R a b one = a ∙ sym b
goes_one (TakeAudio k) (Ok acted) ds es R a b one = one acted.value a b
goes_one (TakeUp k) (Err why) ds es R a b one = a ∙ sym b
goes_one (TakeUp k) (Ok acted) ds es R a b one = one acted.value a b
goes_one (TakeDown k) (Err why) ds es R a b one = a ∙ sym b
goes_one (TakeDown k) (Ok acted) ds es R a b one = one acted.value a b
goes_one (Give e) (Err why) ds es R a b one = a ∙ sym b
goes_one (Give e) (Ok acted) ds es R a b one = one acted.value a b
goes_one AskIdr (Err why) ds es R a b one = a ∙ sym b
goes_one AskIdr (Ok acted) ds es R a b one = one acted.value a b
goes_one Close (Err why) ds es R a b one = a ∙ sym b
goes_one Close (Ok acted) ds es R a b one = one acted.value a b
goes_one Reset (Err why) ds es R a b one = a ∙ sym b
goes_one Reset (Ok acted) ds es R a b one = one acted.value a b

pump_one : (file : CaptureFile) (session every : ℕ) (pumping : Pumping) (state : State) (ds es : List Deed)
    → ArePumpDeeds file session every pumping state ds → ArePumpDeeds file session every pumping state es → ds ≡ es
pump_one file session every pumping state [] es a b = absurd a
pump_one file session every pumping state (d ∷ ds) [] a b = absurd b
pump_one file session every pumping state (d ∷ ds) (e ∷ es) a b =
    let x : SessionDeed = pump_deed file session every pumping state in
    let R : List Deed → State → Type 0 = λ rest s. ArePumpDeeds file session every (moved (pump_deed file session every pumping state) pumping) s rest in
    let first : GoesOn x (done file (In session x) state) ds (R ds) =
    subst (λ (y : Deed). GoesOn x (done file y state) ds (R ds)) a.0 a.1 in
    let second : GoesOn x (done file (In session x) state) es (R es) =
    subst (λ (y : Deed). GoesOn x (done file y state) es (R es)) b.0 b.1 in
    let same : d ≡ e = a.0 ∙ sym b.0 in
    let rest : ds ≡ es =
    goes_one x (done file (In session x) state) ds es R first second
    (λ s p q. pump_one file session every (moved (pump_deed file session every pumping state) pumping) s ds es p q) in
    ap (λ (y : Deed). y ∷ ds) same ∙ ap (λ (l : List Deed). e ∷ l) rest

deeds_one : (file : CaptureFile) (s : Step) (state : State) (ds es : List Deed) → AreDeeds file s state ds → AreDeeds file s state es → ds ≡ es
deeds_one file step.Blank state ds es a b = a ∙ sym b
deeds_one file (step.Session packet percentage minimum window) state ds es a b = a ∙ sym b
deeds_one file step.Cap state ds es a b = a ∙ sym b
deeds_one file (step.Send session) state ds es a b = a ∙ sym b
deeds_one file (step.Video session k) state ds es a b = a ∙ sym b
deeds_one file (step.Audio session k) state ds es a b = a ∙ sym b
deeds_one file (step.Videos session first last) state ds es a b = a ∙ sym b
deeds_one file (step.Up session k) state ds es a b = a ∙ sym b
deeds_one file (step.Down session k) state ds es a b = a ∙ sym b
deeds_one file (step.Input session event) state ds es a b = a ∙ sym b
deeds_one file (step.Idr session) state ds es a b = a ∙ sym b
deeds_one file (step.Time by) state ds es a b = a ∙ sym b
deeds_one file (step.Close session) state ds es a b = a ∙ sym b
deeds_one file (step.Reset session) state ds es a b = a ∙ sym b
deeds_one file (step.Pump session every) state ds es a b =
    pump_one file session every (pumping_from (session_numbered state session)) state ds es a b

-- ---- lines

on_one : (n : ℕ) (o : Option Refusal) (did : Ran) (R : State → Run → Type 0) (x y : Run) → RunsOn n o did R x → RunsOn n o did R y
    → ((s : State) (p q : Run) → R s p → R s q → p ≡ q) → x ≡ y
on_one n (Some why) did R x y a b one = a ∙ sym b
on_one n None did R x y (p, rp, ep) (q, rq, eq) one = ep ∙ ap (behind did.reports) (one did.state p q rp rq) ∙ sym eq

step_one : (file : CaptureFile) (n : ℕ) (o : Option Step) (state : State) (R : State → Run → Type 0) (x y : Run)
    → RunsStep file n o state R x → RunsStep file n o state R y → ((s : State) (p q : Run) → R s p → R s q → p ≡ q) → x ≡ y
step_one file n None state R x y a b one = a ∙ sym b
step_one file n (Some s) state R x y (ds, are, on) (es, are', on') one =
    let same : es ≡ ds = deeds_one file s state es ds are' are in
    on_one n (ran file ds state).refused (ran file ds state) R x y on
    (subst (λ (l : List Deed). RunsOn n (ran file l state).refused (ran file l state) R y) same on') one

-- where each line has one step at most, the lines have one run
from_one : {A : Type 0} (Has : ℕ → A → Option Step → Type 0) → ((n : ℕ) (line : A) (o p : Option Step) → Has n line o → Has n line p → o ≡ p)
    → (file : CaptureFile) (n : ℕ) (lines : List A) (state : State) (x y : Run)
    → RunsFrom Has file n lines state x → RunsFrom Has file n lines state y → x ≡ y
from_one Has one file n [] state x y a b = a ∙ sym b
from_one Has one file n (line ∷ lines) state x y (o, has, runs) (p, has', runs') =
    let same : p ≡ o = one n line p o has' has in
    step_one file n o state (RunsFrom Has file (n + 1) lines) x y runs
    (subst (λ (q : Option Step). RunsStep file n q state (RunsFrom Has file (n + 1) lines) y) same runs')
    (λ s q r. from_one Has one file (n + 1) lines s q r)

unless_one : {A : Type 0} (Has : ℕ → A → Option Step → Type 0) → ((n : ℕ) (line : A) (o p : Option Step) → Has n line o → Has n line p → o ≡ p)
    → (o : Option Fault) (file : CaptureFile) (lines : List A) (x y : Run)
    → RunsUnless o (RunsFrom Has file 1 lines start x) x → RunsUnless o (RunsFrom Has file 1 lines start y) y → x ≡ y
unless_one Has one (Some fault) file lines x y a b = a ∙ sym b
unless_one Has one None file lines x y a b = from_one Has one file 1 lines start x y a b

-- ---- schedules, and steps

has_one : (n : ℕ) (line : List ℕ) (o p : Option Step) → HasStep n line o → HasStep n line p → o ≡ p
has_one n line None None a b = refl
has_one n line None (Some s) a b = absurd (a s b)
has_one n line (Some s) None a b = absurd (b s a)
has_one n line (Some s) (Some t) a b = ap (λ (x : Step). Some x) (one_step line s t a.spells b.spells)

pub schedules_have_one_run : SchedulesHaveOneRun
schedules_have_one_run file lines x y a b = unless_one HasStep has_one file.head file lines x y a b

pub steps_have_one_run : StepsHaveOneRun
steps_have_one_run file steps x y a b = unless_one IsStep (λ n step o p has has'. has ∙ sym has') file.head file steps x y a b
