-- What is done in a session of a trial is done in the run.
use Rattle.std.proofs.Common.{◌≡◌, ◌+◌, ◌-◌, ◌<◌, ℕ, Bool, true, false, not, cond, List, [], ◌∷◌, length, map, Option, Some, None, Result}
use Rattle.std.proofs.Common.{Ok, Err, refl, sym, ap, subst, ◌∙◌, arith, inl, inr}
use Rattle.std.specs.Prelude.{slice_set, slice_index_or, ⊤}
use Rattle.std.specs.Result.{IsErrAnd}
use Rattle.std.proofs.lemmas.Result.{err_from_is_err_and}
use Rattle.gs_feed.specs.Feeding.{Feeding}
use Rattle.gs_schedule.specs.declared.step.Step.TheVariants as step
use Rattle.gs_report.specs.Reporting.{with_reports}
use Rattle.gs_report.proofs.Reported.{with_none}
use Rattle.gs_run.specs.CaptureFile.{CaptureFile}
use Rattle.gs_run.specs.Session.{Part, RunSession, State, session_numbered, replaced, with_session}
use Rattle.gs_run.specs.Report.{Acted}
use Rattle.gs_run.specs.Scene.{Scene, scene_of}
use Rattle.gs_run.specs.Deed.{SessionDeed, Mark, Deed, In}
use Rattle.gs_run.specs.Pump.{Pumping, moved}
use Rattle.gs_run.specs.Refusal.{Refusal, BadLine}
use Rattle.gs_run.specs.Done.{Ran, done, ran}
use Rattle.gs_run.specs.Line.{ArePumpDeeds, GoesOn, pump_deed, pump_deed_in, pumping_from}
use Rattle.gs_host_end.specs.Outcomes.{IsCapturedOf}
use Rattle.gs_loopback.specs.declared.session.Loopback.{Loopback}
use Rattle.gs_loopback.specs.Standing.{IsLoopbackOf}
use Rattle.gs_loopback.specs.Running.{ran_in, pump_start}
use Rattle.gs_loopback.specs.Outcomes.{RanAll, Pumped}
use Rattle.gs_trial.specs.declared.error.StepError.{StepError}
use Rattle.gs_trial.specs.declared.error.StepError.TheVariants as step_error
use Rattle.gs_trial.specs.declared.trial.Trial.{Trial}
use Rattle.gs_trial.specs.Standing.{AreSessions, HasNoSession, IsFeedOf, IsSession, IsTrialOf}
use Rattle.gs_trial.specs.Stepping.{RanAs, RanTo, RunsDeeds, RunsIn, Steps, StepsIfTold}
use Rattle.gs_trial.proofs.InSessions.{pumped_deeds, ran_in_session, ran_nowhere, ran_of, with_part}
use Rattle.gs_trial.proofs.SessionLists.{numbered_at, numbered_none, session_at, session_put, sessions_long}

-- the answer of a deed that was done or refused
abbrev pub allowed_as : Bool → Result ⊤ StepError
allowed_as done = cond done (Ok tt) (Err step_error.BadLine)

not_false : (b : Bool) → true ≡ not b → b ≡ false
not_false true e = absurd cc
not_false false e = refl

not_true : (b : Bool) → false ≡ not b → b ≡ true
not_true true e = refl
not_true false e = absurd cc

-- a session in place of another, and all else as it was
pub record Changes (old new : Trial) (place : ℕ) (now : Loopback) : Type 0 where
  pub feed : new.feed ≡ old.feed
  pub moment : new.moment ≡ old.moment
  pub sessions : new.sessions.items ≡ slice_set old.sessions.items place now

-- ---- where a session has the number

pub scene_captured : (trial : Trial) (file : CaptureFile) (left : Option (List ℕ)) (state : State) (number : ℕ) → IsTrialOf trial file left state
    → IsCapturedOf trial.feed (scene_of file number state)
scene_captured trial file left state number stands = record { of = stands.feed.stands.is_of; count = stands.captured }

-- the session that stands there
pub record Found (trial : Trial) (file : CaptureFile) (state : State) (number place : ℕ) (now : Loopback) : Type 0 where
  pub session : RunSession
  pub at : session_numbered state number ≡ Some session
  pub is : IsSession file.ticks number now session

pub found : (trial : Trial) (file : CaptureFile) (left : Option (List ℕ)) (state : State) (number place : ℕ) (now : Loopback) → IsTrialOf trial file left state
    → place + 1 ≡ number → place < length trial.sessions.items → now ≡ slice_index_or trial.sessions.items place now → Found trial file state number place now
found trial file left state number place now stands is within at =
    let f = session_at file.ticks 1 trial.sessions.items state.sessions place now stands.sessions within in
    let one : IsSession file.ticks (1 + place) now f.0 = subst (λ (l : Loopback). IsSession file.ticks (1 + place) l f.0) (sym at) f.2 in
    record {
      session = f.0;
      at = numbered_at state number place f.0 is f.1;
      is = subst (λ (n : ℕ). IsSession file.ticks n now f.0) (omega (arith, is)) one;
    }

-- what its deeds left
stands_behind : (old new : Trial) (file : CaptureFile) (left : Option (List ℕ)) (state : State) (number place : ℕ) (l : Loopback) (s : RunSession) (part : Part)
    → IsTrialOf old file left state → place + 1 ≡ number → Changes old new place l → s.earlier ≡ [] → IsLoopbackOf l number file.ticks part
    → IsTrialOf new file left (with_session number (with_part part s) state)
stands_behind old new file left state number place l s part stands is changes earlier now = record {
  feed = subst (λ (f : Feeding). IsFeedOf f file left) (sym changes.feed) stands.feed;
  captured = ap (λ (f : Feeding). f.count) changes.feed ∙ stands.captured;
  moment = changes.moment ∙ stands.moment;
  sessions =
      let put : AreSessions file.ticks 1 (slice_set old.sessions.items place l) (replaced state.sessions place (with_part part s)) =
      session_put file.ticks 1 old.sessions.items state.sessions place l (with_part part s) stands.sessions
      (record { part = subst (λ (n : ℕ). IsLoopbackOf l n file.ticks part) (omega (arith, is)) now; earlier = earlier }) in
      let same : place ≡ number - 1 = omega (arith, is) in
      subst (λ (p : ℕ). AreSessions file.ticks 1 new.sessions.items (replaced state.sessions p (with_part part s))) same
      (subst (λ (ls : List Loopback). AreSessions file.ticks 1 ls (replaced state.sessions place (with_part part s))) (sym changes.sessions) put);
}

ran_as : (old new : Trial) (file : CaptureFile) (left : Option (List ℕ)) (state : State) (number place : ℕ) (l : Loopback) (deeds : List SessionDeed)
    (done : Bool)
    (s : RunSession) → IsTrialOf old file left state → place + 1 ≡ number → Changes old new place l → session_numbered state number ≡ Some s → s.earlier ≡ []
    → RanAll (scene_of file number state) deeds s.part done l old.reporter new.reporter
    → RunsDeeds file (map (In number) deeds) state left new old.reporter new.reporter (allowed_as done)
ran_as old new file left state number place l deeds done s stands is changes at earlier did =
    let r = ran_in (scene_of file number state) deeds s.part in
    let whole : ran file (map (In number) deeds) state ≡ ran_of number state s r = ran_in_session file number deeds state s at in
    by done did.done_is did.stands (λ e. subst (λ (x : Ran). RanAs file left x new old.reporter new.reporter (allowed_as done)) (sym whole) e) did.text
  where
    by : (done : Bool) → done ≡ not (ran_in (scene_of file number state) deeds s.part).refused
        → (done ≡ true → IsLoopbackOf l number file.ticks (ran_in (scene_of file number state) deeds s.part).part)
        → (RanAs file left (ran_of number state s (ran_in (scene_of file number state) deeds s.part)) new old.reporter new.reporter (allowed_as done)
        → RunsDeeds file (map (In number) deeds) state left new old.reporter new.reporter (allowed_as done))
        → new.reporter ≡ with_reports old.reporter (ran_in (scene_of file number state) deeds s.part).reports
        → RunsDeeds file (map (In number) deeds) state left new old.reporter new.reporter (allowed_as done)
    by true e now give text =
        let r = ran_in (scene_of file number state) deeds s.part in
        let none : r.refused ≡ false = not_false r.refused e in
        give (record {
          ran = record { refused_is = ap (λ (b : Bool). cond b (Some BadLine) None) none; text = text };
          stands = stands_behind old new file left state number place l s r.part stands is changes earlier (now refl);
        })
    by false e now give text =
        let r = ran_in (scene_of file number state) deeds s.part in
        let some : r.refused ≡ true = not_true r.refused e in
        give (record { refused_is = ap (λ (b : Bool). cond b (Some BadLine) None) some; text = text })

-- over each state
pub runs_in : (old new : Trial) (number place : ℕ) (was now : Loopback) (deeds : List SessionDeed) (done : Bool) (r : Result ⊤ StepError)
    → r ≡ allowed_as done → place + 1 ≡ number
    → place < length old.sessions.items → was ≡ slice_index_or old.sessions.items place was → Changes old new place now
    → ((scene : Scene) (part : Part) → IsCapturedOf old.feed scene → scene.moment ≡ old.moment → IsLoopbackOf was scene.session scene.ticks part
    → RanAll scene deeds part done now old.reporter new.reporter)
    → RunsIn old (map (In number) deeds) new r
runs_in old new number place was now deeds done r answer is within at changes did = λ file left state stands.
    let f = found old file left state number place was stands is within at in
    subst (RunsDeeds file (map (In number) deeds) state left new old.reporter new.reporter) (sym answer)
    (ran_as old new file left state number place now deeds done f.session stands is changes f.at f.is.earlier
    (did (scene_of file number state) f.session.part (scene_captured old file left state number stands) (sym stands.moment) f.is.part))

-- the same of deeds that are spelled otherwise
pub runs_as : (old new : Trial) (number place : ℕ) (was now : Loopback) (deeds : List SessionDeed) (ds : List Deed) (done : Bool) (r : Result ⊤ StepError)
    → map (In number) deeds ≡ ds → r ≡ allowed_as done → place + 1 ≡ number
    → place < length old.sessions.items → was ≡ slice_index_or old.sessions.items place was → Changes old new place now
    → ((scene : Scene) (part : Part) → IsCapturedOf old.feed scene → scene.moment ≡ old.moment → IsLoopbackOf was scene.session scene.ticks part
    → RanAll scene deeds part done now old.reporter new.reporter)
    → RunsIn old ds new r
runs_as old new number place was now deeds ds done r same answer is within at changes did = λ file left state stands.
    subst (λ (l : List Deed). RunsDeeds file l state left new old.reporter new.reporter r) same
    (runs_in old new number place was now deeds done r answer is within at changes did file left state stands)

pub pumps_in : (old new : Trial) (number place every : ℕ) (was now : Loopback) (done : Bool) (r : Result ⊤ StepError)
    → r ≡ allowed_as done → place + 1 ≡ number
    → place < length old.sessions.items → was ≡ slice_index_or old.sessions.items place was → Changes old new place now
    → ((scene : Scene) (part : Part) → scene.moment ≡ old.moment → IsLoopbackOf was scene.session scene.ticks part
    → Pumped scene every part done now old.reporter new.reporter)
    → (file : CaptureFile) (left : Option (List ℕ)) (state : State) → IsTrialOf old file left state
    → StepsIfTold file (step.Pump number every) state left new old.reporter new.reporter r
pumps_in old new number place every was now done r answer is within at changes did file left state stands =
    let f = found old file left state number place was stands is within at in
    let p = did (scene_of file number state) f.session.part (sym stands.moment) f.is.part in
    let start : pumping_from (session_numbered state number) ≡ pump_start f.session.part = ap pumping_from f.at in
    subst (StepsIfTold file (step.Pump number every) state left new old.reporter new.reporter) (sym answer)
    (told done (record {
      deeds = map (In number) p.deeds;
      are_deeds = subst (λ (q : Pumping). ArePumpDeeds file number every q state (map (In number) p.deeds)) (sym start)
          (pumped_deeds file number every (pump_start f.session.part) p.deeds state f.session f.at p.are_pumped);
      ran_as = ran_as old new file left state number place now p.deeds done f.session stands is changes f.at f.is.earlier p.ran;
    }))
  where
    told : (done : Bool) → Steps file (step.Pump number every) state left new old.reporter new.reporter (allowed_as done)
        → StepsIfTold file (step.Pump number every) state left new old.reporter new.reporter (allowed_as done)
    told true s = s
    told false s = s

-- ---- where none has it

nowhere : (old : Trial) (file : CaptureFile) (left : Option (List ℕ)) (state : State) (number : ℕ) → IsTrialOf old file left state → HasNoSession old number
    → session_numbered state number ≡ None
nowhere old file left state number stands none =
    let long = sessions_long file.ticks 1 old.sessions.items state.sessions stands.sessions in
    numbered_none state number (elim none [ inl e ↦ inl e | inr past ↦ inr (omega (arith, past, long)) ])

is_bad : (r : Result ⊤ StepError) (e : StepError) → IsErrAnd r (λ y. y ≡ e) → e ≡ step_error.BadLine → r ≡ Err step_error.BadLine
is_bad r e is bad = let f = err_from_is_err_and r is in f.1 ∙ ap (λ (y : StepError). Err y) (f.2 ∙ bad)

ran_none : (old new : Trial) (file : CaptureFile) (left : Option (List ℕ)) (state : State) (number : ℕ) (deed : SessionDeed) (deeds : List Deed)
    → new.reporter ≡ old.reporter → IsTrialOf old file left state → HasNoSession old number
    → RunsDeeds file (In number deed ∷ deeds) state left new old.reporter new.reporter (Err step_error.BadLine)
ran_none old new file left state number deed deeds same stands none =
    let at = nowhere old file left state number stands none in
    let whole = ran_nowhere file number deed deeds state at in
    let R : Ran → Type 0 = λ did. RanTo did (Some BadLine) old.reporter new.reporter in
    subst R (sym whole) (record { refused_is = refl; text = same ∙ sym (with_none old.reporter) })

pub runs_nowhere : (old new : Trial) (number : ℕ) (deed : SessionDeed) (deeds : List Deed) (r : Result ⊤ StepError) (e : StepError)
    → IsErrAnd r (λ y. y ≡ e) → (e ≡ step_error.BadLine) × HasNoSession old number → new.reporter ≡ old.reporter → RunsIn old (In number deed ∷ deeds) new r
runs_nowhere old new number deed deeds r e is bad same = λ file left state stands.
    subst (RunsDeeds file (In number deed ∷ deeds) state left new old.reporter new.reporter) (sym (is_bad r e is bad.0))
    (ran_none old new file left state number deed deeds same stands bad.1)

pub pumps_nowhere : (old new : Trial) (number every : ℕ) (r : Result ⊤ StepError) (e : StepError)
    → IsErrAnd r (λ y. y ≡ e) → (e ≡ step_error.BadLine) × HasNoSession old number → new.reporter ≡ old.reporter
    → (file : CaptureFile) (left : Option (List ℕ)) (state : State) → IsTrialOf old file left state
    → StepsIfTold file (step.Pump number every) state left new old.reporter new.reporter r
unfolding pump_deed
pumps_nowhere old new number every r e is bad same file left state stands =
    let none = bad.1 in
    let at = nowhere old file left state number stands none in
    let from = pumping_from (session_numbered state number) in
    let marks : pump_deed file number every from state ≡ Mark = ap (pump_deed_in (scene_of file number state) every from) at in
    subst (StepsIfTold file (step.Pump number every) state left new old.reporter new.reporter) (sym (is_bad r e is bad.0)) (record {
      deeds = In number Mark ∷ [];
      are_deeds = (
        ap (In number) (sym marks),
        ends (pump_deed file number every from state) marks (done file (In number Mark) state)
            (λ behind. ArePumpDeeds file number every (moved (pump_deed file number every from state) from) behind []),
      );
      ran_as = ran_none old new file left state number Mark [] same stands none;
    })
  where
    ends : (deed : SessionDeed) → deed ≡ Mark → (r : Result (Acted State) Refusal) (R : State → Type 0) → GoesOn deed r [] R
    ends deed is r R = subst (λ (d : SessionDeed). GoesOn d r [] R) (sym is) refl
