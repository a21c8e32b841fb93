use Rattle.std.proofs.Common.{◌≡◌, ℕ, ◌<◌, length, get_or, bit_xor}
use Rattle.gs_gf256.specs.Field.{product, quotient}
use Rattle.gs_rs.proofs.shape.CodeShape.weights.Given as goal

abbrev pub invariant-loop-i : goal.invariant-loop-i
invariant-loop-i l = (length l.weights ≡ 255) × ((k : ℕ) → k < l.i
    → get_or l.weights k 0 ≡ quotient (product l.common (get_or l.factors k 0)) (bit_xor l.x (get_or l.points k 0)))
