use Rattle.std.proofs.Common.{◌≡◌, drop}
use Rattle.gs_gf256.specs.Field.{IsByte, product}
use Rattle.gs_poly.specs.Polynomial.{difference_product}
use Rattle.gs_poly.proofs.polynomial.difference_product.Given as goal

-- the product so far, times that of the points left, is the whole
abbrev pub invariant-loop-point : goal.invariant-loop-point
invariant-loop-point l = record {
  byte : IsByte l.product;
  whole : product l.product (difference_product (drop l.point-index l.points) l.x) ≡ difference_product l.points l.x;
}
