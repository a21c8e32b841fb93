-- Passes in order.
use Rattle.std.proofs.Common.{ℕ, ◌+◌, List, [], ◌∷◌, ◌++◌, length, subst, arith}
use Rattle.gs_turn.specs.declared.turned.Turned.{Ghosts}
use Rattle.gs_turn.specs.declared.pass.Pass.{Pass}
use Rattle.gs_turn.specs.declared.turn.Turn.{Turn}
use Rattle.gs_turn.specs.Cells.{IsNewPass, AreNewPasses}

-- one more, with the number after theirs
pub one_more : {S C R : Type 0} {g : Ghosts S C R} (t : Turn S C R) (number : ℕ) (ps : List (Pass S C R g)) (p : Pass S C R g) → AreNewPasses t number ps
    → IsNewPass t (number + length ps) p → AreNewPasses t number (ps ++ p ∷ [])
one_more t number [] p are is = (subst (λ (n : ℕ). IsNewPass t n p) (omega arith) is, tt)
one_more t number (x ∷ xs) p are is = (are.0, one_more t (number + 1) xs p are.1 (subst (λ (n : ℕ). IsNewPass t n p) (omega arith) is))
