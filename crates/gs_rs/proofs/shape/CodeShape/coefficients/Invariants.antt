use Rattle.std.proofs.Common.{◌≡◌, ℕ, ◌<◌, length, get_or}
use Rattle.gs_rs.specs.Shape.{coefficient}
use Rattle.gs_rs.proofs.shape.CodeShape.coefficients.Given as goal

abbrev pub invariant-loop-i : goal.invariant-loop-i
invariant-loop-i l = (length l.factors ≡ 255) × ((k : ℕ) → k < l.i → get_or l.factors k 0 ≡ coefficient l.self l.row k)
