use Rattle.std.proofs.Common.{◌≡◌, ◌≢◌, ℕ, ◌+◌, ◌-◌, ◌<◌, List, length, get_or, take, drop, remove, AllPairs, sym, ap, ◌∙◌, arith}
use Rattle.std.proofs.Math.Numerals.{add-one}
use Rattle.std.proofs.lemmas.List.{take_rest}
use Rattle.std.proofs.lemmas.List.Elements.{All-from_get_or}
use Rattle.gs_gf256.specs.Field.{IsByte, product, inverse}
use Rattle.gs_poly.specs.Polynomial.{difference_product, weight, ArePoints}
use Rattle.gs_poly.proofs.Differences.{differences-split, differences-ne-zero, weight-quotient}
use Rattle.gs_poly.proofs.polynomial.weight.Goals as goal

-- what the two calls at x, on the points before and after point i, make
split : (points : List ℕ) (i x one two both : ℕ) → ArePoints points → i < length points → IsByte x
    → one ≡ difference_product (take i points) x → two ≡ difference_product (take (length points - (i + 1)) (drop (i + 1) points)) x → both ≡ product one two
    → both ≡ difference_product (remove points i) x
split points i x one two both given inside hx e1 e2 e =
    e ∙ ap (λ z. product z two) e1
    ∙ ap (product (difference_product (take i points) x)) (e2 ∙ ap (λ qs. difference_product qs x) (take_rest points (i + 1))
    ∙ ap (λ k. difference_product (drop k points) x) (add-one i))
    ∙ sym (differences-split points i given inside x hx)

module _ (points : List ℕ) (i x : ℕ) (given : ArePoints points) (inside : i < length points) (hx : IsByte x) where
  ratio : (numerator denominator inverse_of result : ℕ)
      → numerator ≡ difference_product (remove points i) x → denominator ≡ difference_product (remove points i) (get_or points i 0)
      → inverse_of ≡ inverse denominator → result ≡ product numerator inverse_of → result ≡ weight points i x
  ratio numerator denominator inverse_of result en ed ei er =
      er ∙ ap (product numerator) (ei ∙ ap inverse ed)
      ∙ ap (λ z. product z (inverse (difference_product (remove points i) (get_or points i 0)))) en
      ∙ sym (weight-quotient points i given inside x hx)

points_of : (points : List ℕ) → ((k : ℕ) → IsByte (get_or points k 0)) → AllPairs (λ p q. p ≢ q) points → ArePoints points
points_of points small apart = record { bytes = All-from_get_or IsByte points 0 (λ k h. small k); distinct = apart }

pub inv-requires : goal.inv-requires
inv-requires c =
    let points = c.args.points.now in
    let given = points_of points (λ k. (c.type_inv.points k).fits) c.requires.distinct in
    let point = get_or points c.args.i 0 in
    let e = split points c.args.i point _ _ _ given c.requires.in_range (c.type_inv.points c.args.i).fits c.difference_product-3.ensures
    c.difference_product-4.ensures c.mul-denominator.ensures in
    λ none. differences-ne-zero points c.args.i given c.requires.in_range (sym e ∙ none)

pub returns : goal.returns
returns c =
    let points = c.args.points.now in
    let i = c.args.i in
    let given = points_of points (λ k. (c.type_inv.points k).fits) c.requires.distinct in
    let point = get_or points i 0 in
    let en = split points i c.args.x _ _ _ given c.requires.in_range (omega arith) c.difference_product.ensures c.difference_product-2.ensures
    c.mul-numerator.ensures in
    let ed = split points i point _ _ _ given c.requires.in_range (c.type_inv.points i).fits c.difference_product-3.ensures c.difference_product-4.ensures
    c.mul-denominator.ensures in
    ratio points i c.args.x given c.requires.in_range (omega arith) _ _ _ _ en ed c.inv.ensures.value c.mul.ensures
