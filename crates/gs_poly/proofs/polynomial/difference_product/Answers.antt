use Rattle.std.proofs.Common.{◌≡◌, ℕ, ◌+◌, ◌<◌, ◌≤◌, List, length, get_or, drop, All, bit_xor, lit<, sym, ap, ◌∙◌, arith}
use Rattle.std.proofs.lemmas.List.{at_drop_more, at_drop_all}
use Rattle.std.proofs.lemmas.List.Elements.{All-from_get_or, All-drop}
use Rattle.gs_gf256.specs.Field.{IsByte, product}
use Rattle.gs_gf256.proofs.FieldLemmas.{IsByte-xor, product_assoc, product-one_l, product-one_r}
use Rattle.gs_poly.specs.Polynomial.{difference_product}
use Rattle.gs_poly.proofs.Differences.{IsByte-difference_product}
use Rattle.gs_poly.proofs.polynomial.difference_product.Goals as goal

-- the first of the points that are left goes over to the product
one_more : (points : List ℕ) (i so_far x : ℕ) → All IsByte points → i < length points → IsByte so_far → IsByte x
    → product (product so_far (bit_xor x (get_or points i 0))) (difference_product (drop (i + 1) points) x)
    ≡ product so_far (difference_product (drop i points) x)
unfolding difference_product
one_more points i so_far x bytes inside hs hx =
    let p = get_or points i 0 in
    let rest = drop (i + 1) points in
    product_assoc so_far (bit_xor x p) (difference_product rest x) hs (IsByte-xor x p hx (bytes i 0 inside))
    (IsByte-difference_product rest x (All-drop IsByte (i + 1) points bytes) hx)
    ∙ ap (product so_far) (sym (at_drop_more (λ qs. difference_product qs x) points i 0 inside))

none_left : (points : List ℕ) (i so_far x : ℕ) → length points ≤ i → IsByte so_far → product so_far (difference_product (drop i points) x) ≡ so_far
unfolding difference_product
none_left points i so_far x past hs =
    ap (product so_far) (at_drop_all (λ qs. difference_product qs x) points i past) ∙ product-one_r so_far hs

pub loop-point-init : goal.loop-point-init
loop-point-init c =
    let points = c.args.points.now in
    record {
      byte = lit< tt;
      whole = product-one_l (difference_product points c.args.x)
          (IsByte-difference_product points c.args.x (All-from_get_or IsByte points 0 (λ k h. (c.type_inv.points k).fits)) (omega arith));
    }

pub loop-point-preserved : goal.loop-point-preserved
loop-point-preserved c =
    let points = c.args.points.now in
    let i = c.loop-point.point-index in
    record {
      byte = omega arith;
      whole =
          ap (λ z. product z (difference_product (drop (i + 1) points) c.args.x)) c.mul-product.ensures
          ∙ one_more points i c.loop-point.product c.args.x (All-from_get_or IsByte points 0 (λ k h. (c.type_inv.points k).fits))
          (omega arith) c.loop-point.invariant.byte (omega arith)
          ∙ c.loop-point.invariant.whole;
    }

pub returns : goal.returns
returns c =
    sym (none_left c.args.points.now c.loop-point.point-index c.loop-point.product c.args.x (omega arith) c.loop-point.invariant.byte)
    ∙ c.loop-point.invariant.whole
