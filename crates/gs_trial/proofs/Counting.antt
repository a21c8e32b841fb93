-- How an object's count of faults goes on.
use Rattle.std.proofs.Common.{◌≡◌, ◌≢◌, ℕ, Result, Err, subst, inl, inr}
use Rattle.std.specs.Prelude.{⊤}
use Rattle.std.proofs.lemmas.Bool.{cases_eq}
use Rattle.gs_schedule.specs.declared.status.TrialStatus.{TrialStatus}
use Rattle.gs_trial.specs.Trial.{CountsFor}

-- one call behind another that answered well
pub counts_behind : (cause : TrialStatus) (r : Result ⊤ TrialStatus) (a b c : ℕ) → b ≡ a → CountsFor cause r b c → CountsFor cause r a c
counts_behind cause r a b c same counts = subst (λ (n : ℕ). CountsFor cause r n c) same counts

-- an object that isn't called
pub counts_other : (cause e : TrialStatus) (a b : ℕ) → b ≡ a → e ≢ cause → CountsFor cause (Err e) a b
counts_other cause e a b same other = (λ is. absurd (other is), λ not. absurd (not same))

-- what a call answers well counts nothing
pub counts_none : (a b : ℕ) (P : Type 0) → (b ≢ a → P) → (P → ⊥) → b ≡ a
counts_none a b P counted not = elim (cases_eq b a) [ inl same ↦ same | inr apart ↦ absurd (not (counted apart)) ]
