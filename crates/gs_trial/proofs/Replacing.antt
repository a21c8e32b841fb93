-- A session in the place of another.
use Rattle.std.proofs.Common.{◌≡◌, ◌-◌, ℕ, zero, suc, List, [], ◌∷◌, Some, refl, sym, ap, arith}
use Rattle.std.specs.Prelude.{slice_get}
use Rattle.gs_run.specs.Session.{RunSession, State, session_numbered, replaced, with_session}
use Rattle.gs_run.proofs.StateLines.{here_replaced}

replaced_twice : (ss : List RunSession) (place : ℕ) (s t : RunSession) → replaced (replaced ss place s) place t ≡ replaced ss place t
replaced_twice [] place s t = refl
replaced_twice (x ∷ ss) zero s t = refl
replaced_twice (x ∷ ss) (suc place) s t = ap (λ (l : List RunSession). x ∷ l) (replaced_twice ss place s t)

replaced_same : (ss : List RunSession) (place : ℕ) (s : RunSession) → slice_get ss place ≡ Some s → replaced ss place s ≡ ss
replaced_same [] place s e = refl
replaced_same (x ∷ ss) zero s e = ap (λ (y : RunSession). y ∷ ss) (sym (some x s e))
  where
    some : (x s : RunSession) → Some x ≡ Some s → x ≡ s
    some x s e = cc
replaced_same (x ∷ ss) (suc place) s e = ap (λ (l : List RunSession). x ∷ l) (replaced_same ss place s e)

-- ---- by its number

at_place : (place : ℕ) → suc place - 1 ≡ place
at_place place = omega arith

pub numbered_got : (state : State) (number : ℕ) (s t : RunSession) → session_numbered state number ≡ Some s
    → session_numbered (with_session number t state) number ≡ Some t
numbered_got state zero s t e = absurd (cc)
numbered_got state (suc place) s t e = rw (at_place place) (here_replaced state.sessions place s t e)

pub numbered_twice : (state : State) (number : ℕ) (s t : RunSession) → with_session number t (with_session number s state) ≡ with_session number t state
numbered_twice state number s t = ap (λ (l : List RunSession). record state { sessions = l }) (replaced_twice state.sessions (number - 1) s t)

pub numbered_same : (state : State) (number : ℕ) (s : RunSession) → session_numbered state number ≡ Some s → with_session number s state ≡ state
numbered_same state zero s e = absurd (cc)
numbered_same state (suc place) s e =
    ap (λ (l : List RunSession). record state { sessions = l }) (rw (at_place place) (replaced_same state.sessions place s e))
