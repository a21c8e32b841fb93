-- The product of the differences of a point to others, and a point's weight by two such products.
use Rattle.std.proofs.Common.{◌≡◌, ◌≢◌, ℕ, zero, suc, ◌+◌, ◌<◌, ◌≤◌, List, [], ◌∷◌, cond, eqb, length, get_or, take, drop, subst, sym, ap, ◌∙◌, refl, bit_xor}
use Rattle.std.proofs.Common.{arith, inl, inr, lit<}
use Rattle.std.specs.List.{All, AllPairs, remove}
use Rattle.std.proofs.lemmas.Bool.{cases_eq, eq-eqb, ne_eqb}
use Rattle.std.proofs.lemmas.List.Elements.{All-head, All-tail, All-append, All-take, All-drop}
use Rattle.std.proofs.lemmas.List.{get_or-take, get_or-drop, get_or_default, length-take, length-drop, drop_more, drop_all}
use Rattle.std.specs.Int.Bits.{xor_self}
use mir.Val.{Fits}
use mir.Syntax.{w8}
use Rattle.gs_gf256.specs.Field.{IsByte, product, quotient}
use Rattle.gs_poly.specs.Polynomial.{weight, ratio_product, ArePoints}
use Rattle.gs_poly.proofs.Differences.{product-exchange}
use Rattle.gs_rs.specs.Shape.{differences}
use Rattle.gs_gf256.proofs.FieldLemmas.{IsByte-product, IsByte-xor, xor-ne-zero, product-one_l, product-one_r, product_comm, product_assoc}
use Rattle.gs_gf256.proofs.Inverses.{product-ne-zero, quotient-product}
use Rattle.gs_rs.proofs.Algebra.{product_swap_r, IsByte-quotient}

-- the factor that a point y has in the differences of x
abbrev pub factor : ℕ → ℕ → ℕ
factor y x = cond (eqb y x) 1 (bit_xor x y)

pub factor_same : (y x : ℕ) → y ≡ x → factor y x ≡ 1
factor_same y x e = rw (eq-eqb y x e) refl

pub factor_other : (y x : ℕ) → y ≢ x → factor y x ≡ bit_xor x y
factor_other y x ne = rw (ne_eqb y x ne) refl

-- a factor by the difference, which is 0 at the point itself
pub factor_by_difference : (y x : ℕ) → cond (eqb (bit_xor x y) 0) 1 (bit_xor x y) ≡ factor y x
factor_by_difference y x = elim (cases_eq y x) [
  | inl same ↦
      let none : bit_xor x y ≡ 0 = ap (bit_xor x) same ∙ xor_self x in
      rw (eq-eqb (bit_xor x y) 0 none) (sym (factor_same y x same))
  | inr other ↦
      let some : bit_xor x y ≢ 0 = xor-ne-zero x y (λ q. other (sym q)) in
      rw (ne_eqb (bit_xor x y) 0 some) (sym (factor_other y x other))
]

pub IsByte-factor : (y x : ℕ) → IsByte y → IsByte x → IsByte (factor y x)
IsByte-factor y x hy hx = elim (cases_eq y x) [
  | inl same ↦ let e = factor_same y x same in omega arith
  | inr other ↦ let e = factor_other y x other in let b = IsByte-xor x y hx hy in omega arith
]

factor-ne-zero : (y x : ℕ) → factor y x ≢ 0
factor-ne-zero y x h = elim (cases_eq y x) [
  | inl same ↦ let e = factor_same y x same in omega arith
  | inr other ↦ xor-ne-zero x y (λ q. other (sym q)) (sym (factor_other y x other) ∙ h)
]

pub IsByte-differences : (ys : List ℕ) (x : ℕ) → All IsByte ys → IsByte x → IsByte (differences ys x)
unfolding differences
IsByte-differences [] x all hx = lit< tt
IsByte-differences (y ∷ ys) x all hx =
    IsByte-product (factor y x) (differences ys x)
    (IsByte-factor y x (All-head IsByte y ys all) hx)
    (IsByte-differences ys x (All-tail IsByte y ys all) hx)

pub differences-ne-zero : (ys : List ℕ) (x : ℕ) → All IsByte ys → IsByte x → differences ys x ≢ 0
unfolding differences
differences-ne-zero [] x all hx = λ h. omega arith
differences-ne-zero (y ∷ ys) x all hx =
    let rest = All-tail IsByte y ys all in
    product-ne-zero (factor y x) (differences ys x)
    (IsByte-factor y x (All-head IsByte y ys all) hx)
    (IsByte-differences ys x rest hx)
    (factor-ne-zero y x) (differences-ne-zero ys x rest hx)

-- one point's factor taken out
differences_split : (ys : List ℕ) (i x : ℕ) → All IsByte ys → IsByte x → i < length ys
    → differences ys x ≡ product (factor (get_or ys i 0) x) (differences (remove ys i) x)
unfolding differences
differences_split [] i x all hx within = absurd (omega arith)
differences_split (y ∷ ys) zero x all hx within = refl
differences_split (y ∷ ys) (suc i) x all hx within =
    let hy = All-head IsByte y ys all in
    let rest = All-tail IsByte y ys all in
    let below : i < length ys = omega arith in
    let hp : IsByte (get_or ys i 0) = rest i 0 below in
    let others : All IsByte (remove ys i) = All-append IsByte (take i ys) (drop (suc i) ys) (All-take IsByte i ys rest) (All-drop IsByte (suc i) ys rest) in
    ap (product (factor y x)) (differences_split ys i x rest hx below)
    ∙ product_swap_r (factor y x) (factor (get_or ys i 0) x) (differences (remove ys i) x)
    (IsByte-factor y x hy hx) (IsByte-factor (get_or ys i 0) x hp hx) (IsByte-differences (remove ys i) x others hx)

IsByte-ratio_product : (qs : List ℕ) (p x : ℕ) → All IsByte qs → IsByte p → IsByte x → IsByte (ratio_product qs p x)
unfolding ratio_product
IsByte-ratio_product [] p x all hp hx = lit< tt
IsByte-ratio_product (q ∷ qs) p x all hp hx =
    IsByte-product (quotient (bit_xor x q) (bit_xor p q)) (ratio_product qs p x)
    (IsByte-quotient (bit_xor x q) (bit_xor p q) (IsByte-xor x q hx (All-head IsByte q qs all)))
    (IsByte-ratio_product qs p x (All-tail IsByte q qs all) hp hx)

-- a product of ratios is a ratio of products
ratio_is : (qs : List ℕ) (p x : ℕ) → All IsByte qs → IsByte p → IsByte x → All (λ q. q ≢ p) qs → All (λ q. q ≢ x) qs
    → product (ratio_product qs p x) (differences qs p) ≡ differences qs x
unfolding ratio_product differences
ratio_is [] p x all hp hx not_p not_x = product-one_l 1 (lit< tt)
ratio_is (q ∷ qs) p x all hp hx not_p not_x =
    let hq = All-head IsByte q qs all in
    let rest = All-tail IsByte q qs all in
    let other_p = All-head (λ q. q ≢ p) q qs not_p in
    let other_x = All-head (λ q. q ≢ x) q qs not_x in
    let above = bit_xor x q in
    let below = bit_xor p q in
    let ha : IsByte above = IsByte-xor x q hx hq in
    let hb : IsByte below = IsByte-xor p q hp hq in
    let hr = IsByte-ratio_product qs p x rest hp hx in
    let hd = IsByte-differences qs p rest hp in
    ap (λ f. product (product (quotient above below) (ratio_product qs p x)) (product f (differences qs p))) (factor_other q p other_p)
    ∙ product-exchange (quotient above below) (ratio_product qs p x) below (differences qs p) (IsByte-quotient above below ha) hr hb hd
    ∙ ap (λ f. product f (product (ratio_product qs p x) (differences qs p)))
    (quotient-product above below ha hb (xor-ne-zero p q (λ e. other_p (sym e))))
    ∙ ap (product above) (ratio_is qs p x rest hp hx (All-tail (λ q. q ≢ p) q qs not_p) (All-tail (λ q. q ≢ x) q qs not_x))
    ∙ ap (λ f. product f (differences qs x)) (sym (factor_other q x other_x))

others_from_pairs : (points : List ℕ) (i : ℕ) → AllPairs (λ p q. p ≢ q) points → i < length points
    → All (λ q. q ≢ get_or points i 0) (remove points i)
others_from_pairs points i distinct within =
    All-append (λ q. q ≢ get_or points i 0) (take i points) (drop (suc i) points)
    (λ k d below e.
    let short : k < i = omega (arith, length-take i points) in
    let here : k < length points = omega arith in
    distinct k i 0 short within
    (get_or_default points k 0 d here ∙ sym (get_or-take i points k d short) ∙ e))
    (λ k d below e.
    let far : suc i + k < length points = omega (arith, length-drop (suc i) points) in
    distinct i (suc i + k) 0 (omega arith) far
    (sym (get_or_default points (suc i + k) 0 d far ∙ sym (get_or-drop (suc i) points k d) ∙ e)))

-- the weight of point i at another byte, times the differences of the point, times its difference to that byte
pub weight_is : (points : List ℕ) (i x : ℕ) → ArePoints points → IsByte x → All (λ q. q ≢ x) points → i < length points
    → product (product (weight points i x) (differences points (get_or points i 0))) (bit_xor x (get_or points i 0)) ≡ differences points x
weight_is points i x points_are hx not_x within =
    let p = get_or points i 0 in
    let rest = remove points i in
    let hp : IsByte p = points_are.bytes i 0 within in
    let rest_bytes : All IsByte rest = All-append IsByte (take i points) (drop (suc i) points)
    (All-take IsByte i points points_are.bytes) (All-drop IsByte (suc i) points points_are.bytes) in
    let rest_not_x : All (λ q. q ≢ x) rest = All-append (λ q. q ≢ x) (take i points) (drop (suc i) points)
    (All-take (λ q. q ≢ x) i points not_x) (All-drop (λ q. q ≢ x) (suc i) points not_x) in
    let rest_not_p : All (λ q. q ≢ p) rest = others_from_pairs points i points_are.distinct within in
    let own : differences points p ≡ differences rest p =
    differences_split points i p points_are.bytes hp within
    ∙ ap (λ f. product f (differences rest p)) (factor_same p p refl)
    ∙ product-one_l (differences rest p) (IsByte-differences rest p rest_bytes hp) in
    let ratio : product (weight points i x) (differences points p) ≡ differences rest x =
    ap (product (weight points i x)) own ∙ ratio_is rest p x rest_bytes hp hx rest_not_p rest_not_x in
    let hd = IsByte-differences rest x rest_bytes hx in
    ap (λ w. product w (bit_xor x p)) ratio
    ∙ product_comm (differences rest x) (bit_xor x p) hd (IsByte-xor x p hx hp)
    ∙ ap (λ f. product f (differences rest x)) (sym (factor_other p x (not_x i 0 within)))
    ∙ sym (differences_split points i x points_are.bytes hx within)

pub bytes_from_fits : (xs : List ℕ) → ((i : ℕ) → Fits w8 (get_or xs i 0)) → All IsByte xs
bytes_from_fits xs fits k d h = let e = get_or_default xs k d 0 h in let f = fits k in omega arith

-- one more point in a product that is built from the front
pub differences_more : (ys : List ℕ) (i x r s v : ℕ) → All IsByte ys → IsByte x → IsByte r → i < length ys
    → s ≡ product r (factor (get_or ys i 0) x) → product r (differences (drop i ys) x) ≡ v
    → IsByte s × (product s (differences (drop (i + 1) ys) x) ≡ v)
unfolding differences
differences_more ys i x r s v all hx hr within step before =
    let y = get_or ys i 0 in
    let rest = drop (i + 1) ys in
    let hy : IsByte y = all i 0 within in
    let hf : IsByte (factor y x) = IsByte-factor y x hy hx in
    let hd : IsByte (differences rest x) = IsByte-differences rest x (All-drop IsByte (i + 1) ys all) hx in
    let hs : IsByte (product r (factor y x)) = IsByte-product r (factor y x) hr hf in (
      subst IsByte (sym step) hs,
      ap (λ q. product q (differences rest x)) step
          ∙ product_assoc r (factor y x) (differences rest x) hr hf hd
          ∙ ap (λ q. product r (differences q x)) (sym (drop_more ys i 0 within))
          ∙ before,
    )

pub differences_all : (ys : List ℕ) (i x r v : ℕ) → IsByte r → length ys ≤ i → product r (differences (drop i ys) x) ≡ v → r ≡ v
unfolding differences
differences_all ys i x r v hr past e =
    sym (product-one_r r hr) ∙ ap (λ q. product r (differences q x)) (sym (drop_all i ys past)) ∙ e
