use Rattle.std.proofs.Common.{◌≡◌, reverse, map}
use Rattle.gs_poly.specs.Polynomial.{value}
use Rattle.gs_poly.proofs.polynomial.eval.Given as goal

-- the value of the coefficients read so far, from the highest down
abbrev pub invariant-loop-coefficient : goal.invariant-loop-coefficient
invariant-loop-coefficient l = l.value ≡ value (reverse (map (λ r. r.now) l.yielded)) l.x
