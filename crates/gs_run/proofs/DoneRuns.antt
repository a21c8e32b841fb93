-- Each run is that of a list of deeds, none of which was refused.
use Rattle.std.proofs.Common.{ℕ, ◌≡◌, ◌⊎◌, ◌+◌, List, [], ◌∷◌, ◌++◌, Option, Some, None, Result, Ok, Err, refl, sym, ap, subst, ◌∙◌, inl, inr}
use Rattle.std.specs.List.{AllByRecursion}
use Rattle.std.specs.Option.{IfSome}
use Rattle.std.proofs.lemmas.List.{append_assoc}
use Rattle.gs_tape.specs.Reading.{Fault}
use Rattle.gs_tape.specs.Reading as fault
use Rattle.gs_schedule.specs.declared.step.Step.{Step}
use Rattle.gs_schedule.specs.declared.status.TrialStatus.{TrialStatus}
use Rattle.gs_schedule.specs.declared.status.TrialStatus.TheVariants as status
use Rattle.gs_run.specs.CaptureFile.{CaptureFile}
use Rattle.gs_run.specs.Session.{State, start}
use Rattle.gs_run.specs.Report.{Report, Acted}
use Rattle.gs_run.specs.Deed.{Deed}
use Rattle.gs_run.specs.Refusal.{Refusal, BadLine, BadFile}
use Rattle.gs_run.specs.Done.{done, Ran, ran_on, ran}
use Rattle.gs_run.specs.Run.{Run, fault_status, refusal_status, stopped, finished, behind, RunsOn, RunsStep, RunsFrom, RunsUnless}
use Rattle.gs_run.specs.UserEvents.{IsProperDeed, IsProperStep}
use Rattle.gs_run.specs.WholeRun.{ending, IsDoneBy}
use Rattle.gs_run.proofs.ProperDeeds.{proper_deeds}

-- ---- deeds one after the other

-- two runs of deeds, the second behind the first, are one
record AreJoined (first second whole : Ran) : Type 0 where
  state : whole.state ≡ second.state
  reports : whole.reports ≡ first.reports ++ second.reports
  refused : whole.refused ≡ second.refused

joined : (file : CaptureFile) (ds es : List Deed) (state : State) → (ran file ds state).refused ≡ None
    → AreJoined (ran file ds state) (ran file es (ran file ds state).state) (ran file (ds ++ es) state)
unfolding ran
joined file [] es state none = record { state = refl; reports = refl; refused = refl }
joined file (d ∷ ds) es state none = by (done file d state) none (λ next none. joined file ds es next none) where
  by : (r : Result (Acted State) Refusal) → (ran_on r state (ran file ds)).refused ≡ None
      → ((next : State) → (ran file ds next).refused ≡ None
      → AreJoined (ran file ds next) (ran file es (ran file ds next).state) (ran file (ds ++ es) next))
      → AreJoined (ran_on r state (ran file ds)) (ran file es (ran_on r state (ran file ds)).state) (ran_on r state (ran file (ds ++ es)))
  by (Err why) none more = absurd cc
  by (Ok acted) none more =
      let k = more acted.value none in
      record {
        state = k.state;
        reports = ap (λ (l : List Report). acted.reports ++ l) k.reports
            ∙ sym (append_assoc acted.reports (ran file ds acted.value).reports (ran file es (ran file ds acted.value).state).reports);
        refused = k.refused;
      }

-- the deeds up to the one that was refused, which left and reported the same
record HasFront (file : CaptureFile) (ds : List Deed) (state : State) (did : Ran) : Type 0 where
  front : List Deed
  proper : AllByRecursion IsProperDeed ds → AllByRecursion IsProperDeed front
  none_refused : (ran file front state).refused ≡ None
  state_same : (ran file front state).state ≡ did.state
  reports_same : (ran file front state).reports ≡ did.reports

has_front : (file : CaptureFile) (ds : List Deed) (state : State) → HasFront file ds state (ran file ds state)
unfolding ran
has_front file [] state = record { front = []; proper = λ all. tt; none_refused = refl; state_same = refl; reports_same = refl }
has_front file (d ∷ ds) state = by (done file d state) refl (λ next. has_front file ds next) where
  first : (acted : Acted State) → done file d state ≡ Ok acted → HasFront file ds acted.value (ran file ds acted.value)
      → HasFront file (d ∷ ds) state (ran_on (Ok acted) state (ran file ds))
  first acted is k =
      let did : Result (Acted State) Refusal → Ran = λ r. ran_on r state (ran file k.front) in
      record {
        front = d ∷ k.front;
        proper = λ all. (all.0, k.proper all.1);
        none_refused = ap (λ (r : Result (Acted State) Refusal). (did r).refused) is ∙ k.none_refused;
        state_same = ap (λ (r : Result (Acted State) Refusal). (did r).state) is ∙ k.state_same;
        reports_same = ap (λ (r : Result (Acted State) Refusal). (did r).reports) is
            ∙ ap (λ (l : List Report). acted.reports ++ l) k.reports_same;
      }

  by : (r : Result (Acted State) Refusal) → done file d state ≡ r → ((next : State) → HasFront file ds next (ran file ds next))
      → HasFront file (d ∷ ds) state (ran_on r state (ran file ds))
  by (Err why) is more = record { front = []; proper = λ all. tt; none_refused = refl; state_same = refl; reports_same = refl }
  by (Ok acted) is more = first acted is (more acted.value)

-- ---- the end of a run

-- a run that was ended by a fault or a refusal has no ending
abbrev HasNoEnding : TrialStatus → Type 0
HasNoEnding why = (state : State) → ending why state ≡ []

fault_ends : (f : Fault) → HasNoEnding (fault_status f)
fault_ends (fault.Malformed kind place) state = refl
fault_ends (fault.Full tick) state = refl
fault_ends (fault.UnitTooLarge tick) state = refl
fault_ends (fault.AudioLength length) state = refl

refusal_ends : (n : ℕ) (why : Refusal) → HasNoEnding (refusal_status n why)
refusal_ends n BadLine state = refl
refusal_ends n (BadFile f) state = fault_ends f state

-- ---- runs from a state

-- the deeds of a run that begins in this state, each of them proper under a premise
record IsDoneFrom (file : CaptureFile) (from : State) (Premise : Type 0) (run : Run) : Type 0 where
  deeds : List Deed
  proper : Premise → AllByRecursion IsProperDeed deeds
  none_refused : (ran file deeds from).refused ≡ None
  state_is : (ran file deeds from).state ≡ run.state
  reports_are : run.reports ≡ (ran file deeds from).reports ++ ending run.status run.state

-- under a premise that tells more
under : (file : CaptureFile) (from : State) (P Q : Type 0) (run : Run) → (Q → P) → IsDoneFrom file from P run → IsDoneFrom file from Q run
under file from P Q run more k = record {
  deeds = k.deeds;
  proper = λ q. k.proper (more q);
  none_refused = k.none_refused;
  state_is = k.state_is;
  reports_are = k.reports_are;
}

-- it ends at once
ended : (file : CaptureFile) (state : State) (P : Type 0) (why : TrialStatus) → HasNoEnding why → IsDoneFrom file state P (stopped why state)
unfolding ran
ended file state P why none =
    record { deeds = []; proper = λ p. tt; none_refused = refl; state_is = refl; reports_are = sym (none state) }

finished_done : (file : CaptureFile) (state : State) (P : Type 0) (o : Option Fault) → IsDoneFrom file state P (finished o state)
unfolding ran
finished_done file state P (Some f) = ended file state P (fault_status f) (fault_ends f)
finished_done file state P None = record { deeds = []; proper = λ p. tt; none_refused = refl; state_is = refl; reports_are = refl }

all_of_both : (ds es : List Deed) → AllByRecursion IsProperDeed ds → AllByRecursion IsProperDeed es → AllByRecursion IsProperDeed (ds ++ es)
all_of_both [] es all more = more
all_of_both (d ∷ ds) es all more = (all.0, all_of_both ds es all.1 more)

-- a run that goes on behind each state goes on behind a line
on_done : (file : CaptureFile) (n : ℕ) (ds : List Deed) (state : State) (P : Type 0) (R : State → Run → Type 0) (run : Run) (o : Option Refusal)
    → (ran file ds state).refused ≡ o → (P → AllByRecursion IsProperDeed ds) → RunsOn n o (ran file ds state) R run
    → ((s : State) (rest : Run) → R s rest → IsDoneFrom file s P rest) → IsDoneFrom file state P run
on_done file n ds state P R run (Some why) is all e more =
    let did = ran file ds state in
    let k = has_front file ds state in
    subst (IsDoneFrom file state P) (sym e) (record {
      deeds = k.front;
      proper = λ p. k.proper (all p);
      none_refused = k.none_refused;
      state_is = k.state_same;
      reports_are = ap (λ (l : List Report). l ++ []) (sym k.reports_same)
          ∙ ap (λ (l : List Report). (ran file k.front state).reports ++ l) (sym (refusal_ends n why did.state));
    })
on_done file n ds state P R run None is all (rest, runs, e) more =
    let did = ran file ds state in
    let k = more did.state rest runs in
    let j = joined file ds k.deeds state is in
    subst (IsDoneFrom file state P) (sym e) (record {
      deeds = ds ++ k.deeds;
      proper = λ p. all_of_both ds k.deeds (all p) (k.proper p);
      none_refused = j.refused ∙ k.none_refused;
      state_is = j.state ∙ k.state_is;
      reports_are = ap (λ (l : List Report). did.reports ++ l) k.reports_are
          ∙ sym (append_assoc did.reports (ran file k.deeds did.state).reports (ending rest.status rest.state))
          ∙ ap (λ (l : List Report). l ++ ending rest.status rest.state) (sym j.reports);
    })

step_done : (file : CaptureFile) (n : ℕ) (o : Option Step) (state : State) (P : Type 0) (R : State → Run → Type 0) (run : Run)
    → (P → IfSome o IsProperStep) → RunsStep file n o state R run → ((s : State) (rest : Run) → R s rest → IsDoneFrom file s P rest)
    → IsDoneFrom file state P run
step_done file n None state P R run is e more =
    subst (IsDoneFrom file state P) (sym e) (ended file state P (status.BadSchedule n) (λ s. refl))
step_done file n (Some s) state P R run is (ds, are, on) more =
    on_done file n ds state P R run (ran file ds state).refused refl (λ p. proper_deeds file s state ds (is p) are) on more

-- each member of the list has a step with a proper event, where it has one
abbrev pub HaveProper : {A : Type 0} → (ℕ → A → Option Step → Type 0) → List A → Type 0
HaveProper {A} Has lines = AllByRecursion (λ (line : A). (n : ℕ) (o : Option Step) → Has n line o → IfSome o IsProperStep) lines

from_done : {A : Type 0} (Has : ℕ → A → Option Step → Type 0) (file : CaptureFile) (n : ℕ) (lines : List A) (state : State) (run : Run)
    → RunsFrom Has file n lines state run → IsDoneFrom file state (HaveProper Has lines) run
from_done Has file n [] state run e =
    subst (IsDoneFrom file state (HaveProper Has [])) (sym e) (finished_done file state (HaveProper Has []) file.fault)
from_done Has file n (line ∷ lines) state run (o, has, runs) =
    step_done file n o state (HaveProper Has (line ∷ lines)) (RunsFrom Has file (n + 1) lines) run (λ all. all.0 n o has) runs
    (λ s rest r. under file s (HaveProper Has lines) (HaveProper Has (line ∷ lines)) rest (λ all. all.1)
    (from_done Has file (n + 1) lines s rest r))

-- ---- whole runs

-- the deeds of a run; where the head of the file has a fault there are none
pub record HasDeeds (file : CaptureFile) (Premise : Type 0) (run : Run) : Type 0 where
  pub deeds : List Deed
  pub done : IsDoneBy file run deeds
  pub proper : Premise → AllByRecursion IsProperDeed deeds
  pub head : (file.head ≡ None) ⊎ (deeds ≡ [])

deeds_of : (file : CaptureFile) (P : Type 0) (run : Run) → (k : IsDoneFrom file start P run) → (file.head ≡ None) ⊎ (k.deeds ≡ [])
    → HasDeeds file P run
deeds_of file P run k head = record {
  deeds = k.deeds;
  done = record { none_refused = k.none_refused; state = k.state_is; reports = k.reports_are };
  proper = k.proper;
  head = head;
}

pub has_deeds : {A : Type 0} (Has : ℕ → A → Option Step → Type 0) (file : CaptureFile) (lines : List A) (run : Run)
    → RunsUnless file.head (RunsFrom Has file 1 lines start run) run → HasDeeds file (HaveProper Has lines) run
unfolding ended
has_deeds {A} Has file lines run runs = by file.head refl runs where
  P : Type 0
  P = HaveProper Has lines

  by : (o : Option Fault) → file.head ≡ o → RunsUnless o (RunsFrom Has file 1 lines start run) run → HasDeeds file P run
  by (Some f) is e =
      subst (HasDeeds file P) (sym e) (deeds_of file P (stopped (fault_status f) start) (ended file start P (fault_status f) (fault_ends f)) (inr refl))
  by None is runs = deeds_of file P run (from_done Has file 1 lines start run runs) (inl is)
