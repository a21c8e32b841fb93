-- A session among others: that of a number, and put back.
use Rattle.std.proofs.Common.{◌≡◌, ◌+◌, ◌<◌, ◌≤◌, ◌⊎◌, ℕ, zero, suc, List, [], ◌∷◌, ◌++◌, length, Some, None, refl, ap, subst, ◌∙◌}
use Rattle.std.proofs.Common.{arith, inl, inr}
use Rattle.std.specs.Prelude.{slice_get, slice_set, slice_index_or}
use Rattle.gs_tape.specs.Tick.{Tick}
use Rattle.gs_loopback.specs.declared.session.Loopback.{Loopback}
use Rattle.gs_run.specs.Session.{RunSession, State, session_numbered, replaced}
use Rattle.gs_trial.specs.Standing.{IsSession, AreSessions}

pub sessions_long : (ticks : List Tick) (n : ℕ) (ls : List Loopback) (ss : List RunSession) → AreSessions ticks n ls ss → length ss ≡ length ls
sessions_long ticks n [] [] are = refl
sessions_long ticks n [] (s ∷ ss) are = absurd are
sessions_long ticks n (l ∷ ls) [] are = absurd are
sessions_long ticks n (l ∷ ls) (s ∷ ss) are = ap (λ (k : ℕ). suc k) (sessions_long ticks (n + 1) ls ss are.1)

-- the session of a place
pub session_at : (ticks : List Tick) (n : ℕ) (ls : List Loopback) (ss : List RunSession) (place : ℕ) (d : Loopback) → AreSessions ticks n ls ss
    → place < length ls → (s : RunSession) × (slice_get ss place ≡ Some s) × IsSession ticks (n + place) (slice_index_or ls place d) s
session_at ticks n [] ss place d are lt = absurd (omega (arith, lt))
session_at ticks n (l ∷ ls) [] place d are lt = absurd are
session_at ticks n (l ∷ ls) (s ∷ ss) zero d are lt = (s, refl, subst (λ (k : ℕ). IsSession ticks k l s) (omega arith) are.0)
session_at ticks n (l ∷ ls) (s ∷ ss) (suc place) d are lt =
    let (t, at, is) = session_at ticks (n + 1) ls ss place d are.1 (omega (arith, lt)) in
    (t, at, subst (λ (k : ℕ). IsSession ticks k (slice_index_or ls place d) t) (omega arith) is)

-- another in its place
pub session_put : (ticks : List Tick) (n : ℕ) (ls : List Loopback) (ss : List RunSession) (place : ℕ) (l : Loopback) (s : RunSession)
    → AreSessions ticks n ls ss → IsSession ticks (n + place) l s → AreSessions ticks n (slice_set ls place l) (replaced ss place s)
session_put ticks n [] [] place l s are is = are
session_put ticks n [] (t ∷ ss) place l s are is = absurd are
session_put ticks n (k ∷ ls) [] place l s are is = absurd are
session_put ticks n (k ∷ ls) (t ∷ ss) zero l s are is = (subst (λ (m : ℕ). IsSession ticks m l s) (omega arith) is, are.1)
session_put ticks n (k ∷ ls) (t ∷ ss) (suc place) l s are is =
    (are.0, session_put ticks (n + 1) ls ss place l s are.1 (subst (λ (m : ℕ). IsSession ticks m l s) (omega arith) is))

-- one more behind them
pub session_more : (ticks : List Tick) (n : ℕ) (ls : List Loopback) (ss : List RunSession) (l : Loopback) (s : RunSession) → AreSessions ticks n ls ss
    → IsSession ticks (n + length ls) l s → AreSessions ticks n (ls ++ l ∷ []) (ss ++ s ∷ [])
session_more ticks n [] [] l s are is = (subst (λ (m : ℕ). IsSession ticks m l s) (omega arith) is, tt)
session_more ticks n [] (t ∷ ss) l s are is = absurd are
session_more ticks n (k ∷ ls) [] l s are is = absurd are
session_more ticks n (k ∷ ls) (t ∷ ss) l s are is =
    (are.0, session_more ticks (n + 1) ls ss l s are.1 (subst (λ (m : ℕ). IsSession ticks m l s) (omega arith) is))

-- ---- by its number

pub numbered_at : (state : State) (number place : ℕ) (s : RunSession) → place + 1 ≡ number → slice_get state.sessions place ≡ Some s
    → session_numbered state number ≡ Some s
numbered_at state zero place s is at = absurd (omega (arith, is))
numbered_at state (suc k) place s is at =
    let same : k ≡ place = omega (arith, is) in
    ap (slice_get state.sessions) same ∙ at

pub numbered_none : (state : State) (number : ℕ) → (number ≡ 0) ⊎ (length state.sessions < number) → session_numbered state number ≡ None
numbered_none state zero none = refl
numbered_none state (suc k) (inl none) = absurd (omega (arith, none))
numbered_none state (suc k) (inr past) = past_end state.sessions k (omega (arith, past))
  where
    past_end : (ss : List RunSession) (k : ℕ) → length ss ≤ k → slice_get ss k ≡ None
    past_end [] k le = refl
    past_end (s ∷ ss) zero le = absurd (omega (arith, le))
    past_end (s ∷ ss) (suc k) le = past_end ss k (omega (arith, le))
