use Rattle.std.proofs.Common.{◌≡◌, ◌*◌, ◌≤◌, drop}
use Rattle.gs_gf256.specs.Field.{product, power}
use Rattle.gs_rs.specs.Shape.{differences}
use Rattle.gs_rs.proofs.shape.differences.Given as goal

-- what is found so far, times the differences to the points that are left
abbrev pub invariant-loop-y : goal.invariant-loop-y
invariant-loop-y l = (l.exponent ≤ 254 * l.y-index)
    × (product (power l.exponent) (differences (drop l.y-index l.points) l.x) ≡ differences l.points l.x)
