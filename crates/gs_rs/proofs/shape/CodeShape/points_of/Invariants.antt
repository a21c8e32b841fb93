use Rattle.std.proofs.Common.{◌≡◌, ℕ, ◌<◌, length, get_or}
use Rattle.gs_rs.specs.Shape.{point}
use Rattle.gs_rs.proofs.shape.CodeShape.points_of.Given as goal

abbrev pub invariant-loop-i : goal.invariant-loop-i
invariant-loop-i l = (length l.points ≡ 255) × ((k : ℕ) → k < l.i → get_or l.points k 0 ≡ point l.self (get_or l.chosen k 0))
