-- The timers of sessions, one after the other.
use Rattle.std.proofs.Common.{◌≡◌, ◌+◌, ◌<◌, ◌≤◌, ℕ, zero, suc, true, false, List, [], ◌∷◌, ◌++◌, length, Some, Ok, Err}
use Rattle.std.proofs.Common.{refl, sym, ap, subst, ◌∙◌, arith, append-nil, append_assoc, inl, inr}
use Rattle.std.specs.Prelude.{slice_get, slice_set, slice_index_or, nat_le}
use Rattle.std.proofs.lemmas.Bool.{le-leb}
use Rattle.std.proofs.lemmas.Bool.Decides.{leb_tells}
use Rattle.gs_tape.specs.Tick.{Tick}
use Rattle.gs_feed.specs.Feeding.{Feeding}
use Rattle.gs_report.specs.Reporting.{Did, Reporting, with_reports}
use Rattle.gs_report.proofs.Reported.{with_more}
use Rattle.gs_loopback.specs.declared.session.Loopback.{Loopback}
use Rattle.gs_loopback.specs.Standing.{IsLoopbackOf}
use Rattle.gs_run.specs.Session.{Part, RunSession, State, replaced}
use Rattle.gs_run.specs.Report.{Acted, Report, quietly}
use Rattle.gs_run.specs.Connection.{settled_part}
use Rattle.gs_run.specs.Hearing.{timed_part}
use Rattle.gs_run.specs.Deed.{Pass}
use Rattle.gs_run.specs.Refusal.{BadLine, most_moment, refusal, refused_unless}
use Rattle.gs_run.specs.Done.{after, all_timed, done, passed, ran}
use Rattle.gs_trial.specs.declared.error.StepError.TheVariants as step_error
use Rattle.gs_trial.specs.declared.trial.Trial.{Trial}
use Rattle.gs_trial.specs.Standing.{AreSessions, IsFeedOf, IsSession}
use Rattle.gs_trial.specs.Stepping.{RunsIn}
use Rattle.gs_trial.proofs.OneDeed.{deed_done, deed_refused}
use Rattle.gs_trial.proofs.SessionLists.{session_at, session_put}

-- the session behind its timers
abbrev pub timed_session : ℕ → ℕ → RunSession → RunSession
timed_session n now s = record s { part = settled_part now (timed_part n now s.part).value }

-- the timers of so many sessions
pub timed_to : ℕ → ℕ → ℕ → List RunSession → Acted (List RunSession)
timed_to n now zero ss = quietly ss
timed_to n now (suc k) [] = quietly []
timed_to n now (suc k) (s ∷ ss) = record {
  value = timed_session n now s ∷ (timed_to (n + 1) now k ss).value;
  reports = (timed_part n now s.part).reports ++ (timed_to (n + 1) now k ss).reports;
}

pub timed_none : (n now : ℕ) (ss : List RunSession) → timed_to n now 0 ss ≡ quietly ss
unfolding timed_to
timed_none n now ss = refl

pub timed_all : (n now : ℕ) (ss : List RunSession) → timed_to n now (length ss) ss ≡ all_timed n now ss
unfolding timed_to
timed_all n now [] = refl
timed_all n now (s ∷ ss) =
    let rest = timed_all (n + 1) now ss in
    let first = timed_part n now s.part in
    ap (λ (a : Acted (List RunSession)). record { value = timed_session n now s ∷ a.value; reports = first.reports ++ a.reports }) rest
    ∙ ap (λ (l : List Report). record { value = timed_session n now s ∷ (all_timed (n + 1) now ss).value; reports = first.reports ++ l })
    (sym (append-nil (all_timed (n + 1) now ss).reports))

timed_get : (n now k : ℕ) (ss : List RunSession) → slice_get (timed_to n now k ss).value k ≡ slice_get ss k
unfolding timed_to
timed_get n now zero ss = refl
timed_get n now (suc k) [] = refl
timed_get n now (suc k) (s ∷ ss) = timed_get (n + 1) now k ss

-- one more
timed_next : (n now k : ℕ) (ss : List RunSession) (s : RunSession) → slice_get ss k ≡ Some s
    → timed_to n now (suc k) ss ≡ record {
      value = replaced (timed_to n now k ss).value k (timed_session (n + k) now s);
      reports = (timed_to n now k ss).reports ++ (timed_part (n + k) now s.part).reports;
    }
unfolding timed_to
timed_next n now k [] s at = absurd cc
timed_next n now zero (t ∷ ss) s at =
    let same : t ≡ s = cc in
    let zeroth : n ≡ n + 0 = omega arith in
    let A : ℕ → RunSession → Acted (List RunSession) = λ m u. record { value = timed_session m now u ∷ ss; reports = (timed_part m now u.part).reports } in
    ap (λ (l : List Report). record { value = timed_session n now t ∷ ss; reports = l }) (append-nil (timed_part n now t.part).reports)
    ∙ ap (λ (u : RunSession). A n u) same ∙ ap (λ (m : ℕ). A m s) zeroth
timed_next n now (suc k) (t ∷ ss) s at =
    let more = timed_next (n + 1) now k ss s at in
    let there : n + 1 + k ≡ n + suc k = omega arith in
    let first = timed_part n now t.part in
    let before = timed_to (n + 1) now k ss in
    let B : ℕ → Acted (List RunSession) = λ m. record {
      value = timed_session n now t ∷ replaced before.value k (timed_session m now s);
      reports = first.reports ++ (before.reports ++ (timed_part m now s.part).reports);
    } in
    ap (λ (a : Acted (List RunSession)). record { value = timed_session n now t ∷ a.value; reports = first.reports ++ a.reports }) more
    ∙ ap B there
    ∙ ap (λ (l : List Report). record { value = timed_session n now t ∷ replaced before.value k (timed_session (n + suc k) now s); reports = l })
    (sym (append_assoc first.reports before.reports (timed_part (n + suc k) now s.part).reports))

-- ---- a turn of the loop

pub timed_more : (ticks : List Tick) (now k : ℕ) (ls : List Loopback) (ss : List RunSession) (was mid l : Loopback) (first before after : Reporting)
    → Did (AreSessions ticks 1 ls) (timed_to 1 now k ss) first before → k < length ls → was ≡ slice_index_or ls k was
    → ((session : ℕ) (ticks : List Tick) (part : Part) → IsLoopbackOf was session ticks part
    → Did (IsLoopbackOf mid session ticks) (timed_part session now part) before after)
    → ((session : ℕ) (ticks : List Tick) (part : Part) → IsLoopbackOf mid session ticks part → IsLoopbackOf l session ticks (settled_part now part))
    → Did (AreSessions ticks 1 (slice_set ls k l)) (timed_to 1 now (k + 1) ss) first after
timed_more ticks now k ls ss was mid l first before after did within at timer settle =
    let f = session_at ticks 1 ls (timed_to 1 now k ss).value k was did.stands within in
    let here : slice_get ss k ≡ Some f.0 = sym (timed_get 1 now k ss) ∙ f.1 in
    let is : IsSession ticks (1 + k) was f.0 = subst (λ (x : Loopback). IsSession ticks (1 + k) x f.0) (sym at) f.2 in
    let ran = timer (1 + k) ticks f.0.part is.part in
    let stood : IsSession ticks (1 + k) l (timed_session (1 + k) now f.0) =
    record { part = settle (1 + k) ticks (timed_part (1 + k) now f.0.part).value ran.stands; earlier = is.earlier } in
    let next = timed_next 1 now k ss f.0 here in
    let text : after ≡ with_reports first ((timed_to 1 now k ss).reports ++ (timed_part (1 + k) now f.0.part).reports) =
    ran.text ∙ ap (λ (r : Reporting). with_reports r (timed_part (1 + k) now f.0.part).reports) did.text
    ∙ with_more first (timed_to 1 now k ss).reports (timed_part (1 + k) now f.0.part).reports in
    let done : Did (AreSessions ticks 1 (slice_set ls k l)) (timed_to 1 now (suc k) ss) first after =
    subst (λ (a : Acted (List RunSession)). Did (AreSessions ticks 1 (slice_set ls k l)) a first after) (sym next)
    (record { stands = session_put ticks 1 ls (timed_to 1 now k ss).value k l (timed_session (1 + k) now f.0) did.stands stood; text = text }) in
    subst (λ (m : ℕ). Did (AreSessions ticks 1 (slice_set ls k l)) (timed_to 1 now m ss) first after) (omega arith) done

-- ---- time passes

not_le : (a b : ℕ) → b < a → nat_le a b ≡ false
not_le a b less = elim (leb_tells a b) [ inl le ↦ absurd (omega (arith, less, le.1)) | inr lt ↦ lt.0 ]

pub passes : (old new : Trial) (by moment : ℕ) → moment ≡ old.moment + by → moment ≤ most_moment → new.feed ≡ old.feed → new.moment ≡ moment
    → ((ticks : List Tick) (sessions : List RunSession) → AreSessions ticks 1 old.sessions.items sessions
    → Did (AreSessions ticks 1 new.sessions.items) (all_timed 1 moment sessions) old.reporter new.reporter)
    → RunsIn old (Pass by ∷ []) new (Ok tt)
unfolding refusal after
passes old new by moment is early feed then did = λ file left state stands.
    let later : moment ≡ state.moment + by = is ∙ ap (λ (m : ℕ). m + by) stands.moment in
    let may : nat_le (state.moment + by) most_moment ≡ true = le-leb (state.moment + by) most_moment (subst (λ (m : ℕ). m ≤ most_moment) later early) in
    let ran = did file.ticks state.sessions stands.sessions in
    let timers = all_timed 1 moment state.sessions in
    let acted : Acted State = record { value = record state { moment = moment; sessions = timers.value }; reports = timers.reports } in
    let all : passed (state.moment + by) state ≡ acted =
    ap (λ (m : ℕ). passed m state) (sym later) ∙ ap (λ (l : List Report). record { value = acted.value; reports = l }) (append-nil timers.reports) in
    deed_done file (Pass by) state left new old.reporter acted (ap refused_unless may) all
    (record {
      feed = subst (λ (f : Feeding). IsFeedOf f file left) (sym feed) stands.feed;
      captured = ap (λ (f : Feeding). f.count) feed ∙ stands.captured;
      moment = then;
      sessions = ran.stands;
    }) ran.text

pub passes_not : (old new : Trial) (by : ℕ) → new.reporter ≡ old.reporter → most_moment < old.moment + by
    → RunsIn old (Pass by ∷ []) new (Err step_error.BadLine)
unfolding refusal
passes_not old new by same late = λ file left state stands.
    let past : most_moment < state.moment + by = subst (λ (m : ℕ). most_moment < m + by) stands.moment late in
    let not : nat_le (state.moment + by) most_moment ≡ false = not_le (state.moment + by) most_moment past in
    deed_refused file (Pass by) state left new old.reporter new.reporter BadLine step_error.BadLine (ap refused_unless not) refl same
