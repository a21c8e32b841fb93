use Rattle.std.proofs.Common.{◌≡◌, ℕ, ◌<◌, length, get_or}
use Rattle.gs_gf256.specs.Field.{quotient}
use Rattle.gs_rs.specs.Shape.{denominator, differences}
use Rattle.gs_rs.proofs.shape.CodeShape.factors.Given as goal

abbrev pub invariant-loop-i : goal.invariant-loop-i
invariant-loop-i l = (length l.factors ≡ 255) × ((k : ℕ) → k < l.i
    → get_or l.factors k 0 ≡ quotient (denominator l.self (get_or l.points k 0)) (differences l.points (get_or l.points k 0)))
