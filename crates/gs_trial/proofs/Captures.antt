-- A tick is captured.
use Rattle.std.proofs.Common.{◌≡◌, ◌+◌, ◌<◌, ℕ, Bool, true, false, List, [], ◌∷◌, length, Option, Some, None, Result, Ok, Err, refl, sym, ap, subst}
use Rattle.std.proofs.Common.{◌∙◌, arith}
use Rattle.std.specs.Prelude.{IfSome, if◌then◌else◌, nat_lt, ⊤}
use Rattle.std.proofs.lemmas.Bool.{lt-ltb, ltb-true}
use Rattle.std.specs.Result.{IsErrAnd}
use Rattle.std.proofs.lemmas.Result.{err_from_is_err_and}
use Rattle.gs_tape.specs.Errors.{fault_of}
use Rattle.gs_tape.specs.Reading.{Fault}
use Rattle.gs_tape.specs.declared.error.TapeError.{TapeError}
use Rattle.gs_feed.specs.Feeding.{Captures, IsFeedAt}
use Rattle.gs_loopback.specs.declared.session.Loopback.{Loopback}
use Rattle.gs_run.specs.CaptureFile.{CaptureFile}
use Rattle.gs_run.specs.Session.{State}
use Rattle.gs_run.specs.Report.{Acted, quietly}
use Rattle.gs_run.specs.Deed.{Capture}
use Rattle.gs_run.specs.Refusal.{Refusal, refusal, refusal_at_end}
use Rattle.gs_run.specs.Done.{after, ran}
use Rattle.gs_trial.specs.declared.error.StepError.{StepError}
use Rattle.gs_trial.specs.declared.error.StepError.TheVariants as step_error
use Rattle.gs_trial.specs.declared.trial.Trial.{Trial}
use Rattle.gs_trial.specs.Standing.{AreSessions, IsTrialOf}
use Rattle.gs_trial.specs.Stepping.{RanTo, RunsDeeds, refusal_of, refusal_of_tape}
use Rattle.gs_trial.proofs.OneDeed.{deed_done, deed_refused}
use Rattle.gs_report.proofs.Reported.{with_none}

test_false : (a b : ℕ) → a ≡ b → nat_lt a b ≡ false
test_false a b same = by (nat_lt a b) refl
  where
    by : (x : Bool) → nat_lt a b ≡ x → x ≡ false
    by true e = absurd (omega (arith, same, ltb-true a b e))
    by false e = refl

-- the next tick was there
pub captured : (old new : Trial) (file : CaptureFile) (left now : Option (List ℕ)) (state : State) → IsTrialOf old file left state
    → old.feed.count < length file.ticks → IsFeedAt new.feed now file.ticks file.fault → new.feed.count ≡ old.feed.count + 1
    → new.feed.tape.audio ≡ old.feed.tape.audio → new.feed.tape.duration ≡ old.feed.tape.duration
    → new.moment ≡ old.moment → new.sessions.items ≡ old.sessions.items → new.reporter ≡ old.reporter
    → RunsDeeds file (Capture ∷ []) state now new old.reporter new.reporter (Ok tt)
unfolding refusal after
captured old new file left now state stands less reads count audio duration moment items same =
    let may : nat_lt state.captured (length file.ticks) ≡ true = lt-ltb state.captured (length file.ticks) (omega (arith, less, stands.captured)) in
    let acted : Acted State = quietly (record state { captured = state.captured + 1 }) in
    deed_done file Capture state now new old.reporter acted
    (ap (λ (b : Bool). let o : Option Refusal = if b then None else Some (refusal_at_end file.fault) in o) may) refl
    (record {
      feed = record {
        head = stands.feed.head;
        stands = reads;
        audio = audio ∙ stands.feed.audio;
        duration = duration ∙ stands.feed.duration;
      };
      captured = count ∙ ap (λ (k : ℕ). k + 1) stands.captured;
      moment = moment ∙ stands.moment;
      sessions = subst (λ (ls : List Loopback). AreSessions file.ticks 1 ls state.sessions) (sym items) stands.sessions;
    }) (same ∙ sym (with_none old.reporter))

-- the file's ticks are at their end
pub at_end : (old new : Trial) (file : CaptureFile) (left now : Option (List ℕ)) (state : State) (e : StepError) (o : Option Fault)
    → IsTrialOf old file left state
    → length file.ticks ≡ old.feed.count → file.fault ≡ o → refusal_of e ≡ Some (refusal_at_end o) → new.reporter ≡ old.reporter
    → RunsDeeds file (Capture ∷ []) state now new old.reporter new.reporter (Err e)
unfolding refusal
at_end old new file left now state e o stands ended fault tells same =
    let not : nat_lt state.captured (length file.ticks) ≡ false = test_false state.captured (length file.ticks) (sym (ended ∙ stands.captured)) in
    let refused : refusal file Capture state ≡ Some (refusal_at_end o) =
    ap (λ (b : Bool). let o : Option Refusal = if b then None else Some (refusal_at_end file.fault) in o) not
    ∙ ap (λ (f : Option Fault). Some (refusal_at_end f)) fault in
    deed_refused file Capture state now new old.reporter new.reporter (refusal_at_end o) e refused tells same

-- it has this error
fails : (old new : Trial) (file : CaptureFile) (left now : Option (List ℕ)) (state : State) (e : TapeError) → IsTrialOf old file left state
    → Captures old.feed.count file.ticks file.fault (Err e) → new.reporter ≡ old.reporter
    → RunsDeeds file (Capture ∷ []) state now new old.reporter new.reporter (Err (step_error.Tape e))
fails old new file left now state e stands ends same = by (fault_of e) refl ends
  where
    by : (o : Option Fault) → fault_of e ≡ o → IfSome o (λ why. (length file.ticks ≡ old.feed.count) × (file.fault ≡ Some why))
        → RunsDeeds file (Capture ∷ []) state now new old.reporter new.reporter (Err (step_error.Tape e))
    by None is ends =
        subst (λ (o : Option Fault). IfSome (refusal_of_tape o) (λ why. RanTo (ran file (Capture ∷ []) state) (Some why) old.reporter new.reporter)) (sym is) tt
    by (Some why) is ends =
        at_end old new file left now state (step_error.Tape e) (Some why) stands ends.0 ends.1 (ap refusal_of_tape is) same

pub fails_as : (old new : Trial) (file : CaptureFile) (left now : Option (List ℕ)) (state : State) (e : TapeError) (r : Result ⊤ StepError)
    → IsErrAnd r (λ y. y ≡ step_error.Tape e) → IsTrialOf old file left state → Captures old.feed.count file.ticks file.fault (Err e)
    → new.reporter ≡ old.reporter
    → RunsDeeds file (Capture ∷ []) state now new old.reporter new.reporter r
fails_as old new file left now state e r is stands ends same =
    let p = err_from_is_err_and r is in
    subst (RunsDeeds file (Capture ∷ []) state now new old.reporter new.reporter) (sym (p.1 ∙ ap (λ (y : StepError). Err y) p.2))
    (fails old new file left now state e stands ends same)
