-- Products of differences and of ratios of differences.
use Rattle.std.proofs.Common.{◌≡◌, ◌≢◌, ℕ, zero, suc, ◌+◌, ◌-◌, ◌<◌, List, [], ◌∷◌, ◌++◌, length, take, drop, remove, get_or, All, bit_xor, lit<, sym, ap, ◌∙◌}
use Rattle.std.proofs.Common.{subst, arith, inl, inr}
use Rattle.std.specs.Int.Bits.{xor_self}
use Rattle.std.proofs.lemmas.Bool.{cases_lt}
use Rattle.std.proofs.lemmas.List.{get_or-take, get_or-drop, length-take, length-drop, length-append}
use Rattle.std.proofs.lemmas.List.Elements.{All-head, All-tail, All-append, All-take, All-drop, All-from_get_or}
use Rattle.gs_gf256.specs.Field.{IsByte, product, inverse, quotient}
use Rattle.gs_gf256.proofs.FieldLemmas.{IsByte-xor, xor-ne-zero, IsByte-product, product-zero_l, product-zero_r, product_comm, product_assoc, product-one_l}
use Rattle.gs_gf256.proofs.Inverses.{inverse_unique, IsByte-inverse, product-inverse, product-ne-zero}
use Rattle.gs_poly.specs.Polynomial.{ratio_product, difference_product, weight, ArePoints}

pub IsByte-difference_product : (qs : List ℕ) (x : ℕ) → All IsByte qs → IsByte x → IsByte (difference_product qs x)
unfolding difference_product
IsByte-difference_product [] x hs hx = lit< tt
IsByte-difference_product (q ∷ qs) x hs hx =
    IsByte-product (bit_xor x q) (difference_product qs x) (IsByte-xor x q hx (All-head IsByte q qs hs))
    (IsByte-difference_product qs x (All-tail IsByte q qs hs) hx)

pub difference_product-append : (ps qs : List ℕ) (x : ℕ) → All IsByte ps → All IsByte qs → IsByte x
    → difference_product (ps ++ qs) x ≡ product (difference_product ps x) (difference_product qs x)
unfolding difference_product
difference_product-append [] qs x hs ts hx = sym (product-one_l (difference_product qs x) (IsByte-difference_product qs x ts hx))
difference_product-append (p ∷ ps) qs x hs ts hx =
    let rest = All-tail IsByte p ps hs in
    ap (product (bit_xor x p)) (difference_product-append ps qs x rest ts hx)
    ∙ sym (product_assoc (bit_xor x p) (difference_product ps x) (difference_product qs x) (IsByte-xor x p hx (All-head IsByte p ps hs))
    (IsByte-difference_product ps x rest hx) (IsByte-difference_product qs x ts hx))

-- it is 0 at each of its points
pub difference_product_at : (qs : List ℕ) (k x : ℕ) → k < length qs → get_or qs k 0 ≡ x → difference_product qs x ≡ 0
unfolding difference_product
difference_product_at [] k x h e = absurd (omega arith)
difference_product_at (q ∷ qs) zero x h e =
    let root : bit_xor x q ≡ 0 = ap (bit_xor x) e ∙ xor_self x in
    ap (λ d. product d (difference_product qs x)) root ∙ product-zero_l (difference_product qs x)
difference_product_at (q ∷ qs) (suc k) x h e =
    ap (product (bit_xor x q)) (difference_product_at qs k x (omega arith) e) ∙ product-zero_r (bit_xor x q)

-- and nowhere else
pub difference_product-ne-zero : (qs : List ℕ) (x : ℕ) → All IsByte qs → IsByte x → All (λ q. x ≢ q) qs → difference_product qs x ≢ 0
unfolding difference_product
difference_product-ne-zero [] x hs hx others = λ e. let one : ◌≡◌ {A = ℕ} 1 0 = e in omega arith
difference_product-ne-zero (q ∷ qs) x hs hx others =
    let hq = All-head IsByte q qs hs in
    let rest = All-tail IsByte q qs hs in
    product-ne-zero (bit_xor x q) (difference_product qs x) (IsByte-xor x q hx hq) (IsByte-difference_product qs x rest hx)
    (xor-ne-zero x q (All-head (λ q. x ≢ q) q qs others)) (difference_product-ne-zero qs x rest hx (All-tail (λ q. x ≢ q) q qs others))

-- ---- ratios

pub quotient-itself : (a : ℕ) → IsByte a → a ≢ 0 → quotient a a ≡ 1
quotient-itself a ha other = product-inverse a ha other

-- the product of two products, regrouped
pub product-exchange : (a b c d : ℕ) → IsByte a → IsByte b → IsByte c → IsByte d
    → product (product a b) (product c d) ≡ product (product a c) (product b d)
product-exchange a b c d ha hb hc hd =
    product_assoc a b (product c d) ha hb (IsByte-product c d hc hd)
    ∙ ap (product a) (sym (product_assoc b c d hb hc hd) ∙ ap (λ z. product z d) (product_comm b c hb hc) ∙ product_assoc c b d hc hb hd)
    ∙ sym (product_assoc a c (product b d) ha hc (IsByte-product b d hb hd))

pub inverse-product : (a b : ℕ) → IsByte a → IsByte b → a ≢ 0 → b ≢ 0 → product (inverse a) (inverse b) ≡ inverse (product a b)
inverse-product a b ha hb za zb =
    let ia = IsByte-inverse a in
    let ib = IsByte-inverse b in
    inverse_unique (product a b) (product (inverse a) (inverse b)) (IsByte-product a b ha hb) (
      IsByte-product (inverse a) (inverse b) ia ib,
      product-exchange a b (inverse a) (inverse b) ha hb ia ib
          ∙ ap (λ z. product z (product b (inverse b))) (product-inverse a ha za)
          ∙ ap (product 1) (product-inverse b hb zb) ∙ product-one_l 1 (lit< tt),
    )

pub quotient-product : (a b c d : ℕ) → IsByte a → IsByte b → IsByte c → IsByte d → b ≢ 0 → d ≢ 0
    → product (quotient a b) (quotient c d) ≡ quotient (product a c) (product b d)
quotient-product a b c d ha hb hc hd zb zd =
    product-exchange a (inverse b) c (inverse d) ha (IsByte-inverse b) hc (IsByte-inverse d)
    ∙ ap (product (product a c)) (inverse-product b d hb hd zb zd)

-- a product of ratios is the ratio of the products
pub ratio_product-quotient : (qs : List ℕ) (p x : ℕ) → All IsByte qs → IsByte p → IsByte x → All (λ q. p ≢ q) qs
    → ratio_product qs p x ≡ quotient (difference_product qs x) (difference_product qs p)
unfolding ratio_product difference_product
ratio_product-quotient [] p x hs hp hx others = sym (quotient-itself 1 (lit< tt) (λ e. let one : ◌≡◌ {A = ℕ} 1 0 = e in omega arith))
ratio_product-quotient (q ∷ qs) p x hs hp hx others =
    let hq = All-head IsByte q qs hs in
    let rest = All-tail IsByte q qs hs in
    let away = All-tail (λ q. p ≢ q) q qs others in
    ap (product (quotient (bit_xor x q) (bit_xor p q))) (ratio_product-quotient qs p x rest hp hx away)
    ∙ quotient-product (bit_xor x q) (bit_xor p q) (difference_product qs x) (difference_product qs p)
    (IsByte-xor x q hx hq) (IsByte-xor p q hp hq) (IsByte-difference_product qs x rest hx) (IsByte-difference_product qs p rest hp)
    (xor-ne-zero p q (All-head (λ q. p ≢ q) q qs others)) (difference_product-ne-zero qs p rest hp away)

-- ---- the points other than one

module _ (points : List ℕ) (i : ℕ) (given : ArePoints points) (inside : i < length points) where
  pub bytes-others : All IsByte (remove points i)
  bytes-others = All-append IsByte (take i points) (drop (suc i) points) (All-take IsByte i points given.bytes) (All-drop IsByte (suc i) points given.bytes)

  pub IsByte-point : IsByte (get_or points i 0)
  IsByte-point = given.bytes i 0 inside

  pub others-differ : All (λ q. get_or points i 0 ≢ q) (remove points i)
  others-differ =
      All-append (λ q. get_or points i 0 ≢ q) (take i points) (drop (suc i) points)
      (All-from_get_or (λ q. get_or points i 0 ≢ q) (take i points) 0 (λ k h e.
      let before : k < i = omega (arith, length-take i points) in
      given.distinct k i 0 before inside (sym (get_or-take i points k 0 before) ∙ sym e)))
      (All-from_get_or (λ q. get_or points i 0 ≢ q) (drop (suc i) points) 0 (λ k h e.
      let after : suc i + k < length points = omega (arith, length-drop (suc i) points) in
      given.distinct i (suc i + k) 0 (omega arith) after (e ∙ get_or-drop (suc i) points k 0)))

  pub length-others : suc (length (remove points i)) ≡ length points
  length-others = omega (arith, length-append (take i points) (drop (suc i) points), length-take i points, length-drop (suc i) points)

  pub weight-quotient : (x : ℕ) → IsByte x
      → weight points i x ≡ quotient (difference_product (remove points i) x) (difference_product (remove points i) (get_or points i 0))
  weight-quotient x hx = ratio_product-quotient (remove points i) (get_or points i 0) x bytes-others IsByte-point hx others-differ

  pub differences-ne-zero : difference_product (remove points i) (get_or points i 0) ≢ 0
  differences-ne-zero = difference_product-ne-zero (remove points i) (get_or points i 0) bytes-others IsByte-point others-differ

  pub IsByte-weight : (x : ℕ) → IsByte x → IsByte (weight points i x)
  IsByte-weight x hx =
      subst IsByte (sym (weight-quotient x hx))
      (IsByte-product (difference_product (remove points i) x) (inverse (difference_product (remove points i) (get_or points i 0)))
      (IsByte-difference_product (remove points i) x bytes-others hx) (IsByte-inverse (difference_product (remove points i) (get_or points i 0))))

  pub weight_at_own : weight points i (get_or points i 0) ≡ 1
  weight_at_own =
      weight-quotient (get_or points i 0) IsByte-point
      ∙ quotient-itself (difference_product (remove points i) (get_or points i 0))
      (IsByte-difference_product (remove points i) (get_or points i 0) bytes-others IsByte-point) differences-ne-zero

  -- the product over the others is that over those before and that over those after
  pub differences-split : (x : ℕ) → IsByte x
      → difference_product (remove points i) x ≡ product (difference_product (take i points) x) (difference_product (drop (suc i) points) x)
  differences-split x hx =
      difference_product-append (take i points) (drop (suc i) points) x (All-take IsByte i points given.bytes) (All-drop IsByte (suc i) points given.bytes) hx

  pub weight_at_other : (j : ℕ) → j < length points → j ≢ i → weight points i (get_or points j 0) ≡ 0
  weight_at_other j at other =
      let x = get_or points j 0 in
      let hx : IsByte x = given.bytes j 0 at in
      let front = difference_product (take i points) x in
      let back = difference_product (drop (suc i) points) x in
      let none : product front back ≡ 0 =
      elim (cases_lt j i) [
        | inl before ↦
            ap (λ z. product z back) (difference_product_at (take i points) j x (omega (arith, length-take i points)) (get_or-take i points j 0 before))
            ∙ product-zero_l back
        | inr after ↦
            let k = j - suc i in
            let place : suc i + k ≡ j = omega arith in
            ap (product front) (difference_product_at (drop (suc i) points) k x (omega (arith, length-drop (suc i) points))
            (get_or-drop (suc i) points k 0 ∙ ap (λ m. get_or points m 0) place))
            ∙ product-zero_r front
      ] in
      weight-quotient x hx
      ∙ ap (λ z. quotient z (difference_product (remove points i) (get_or points i 0))) (differences-split x hx ∙ none)
      ∙ product-zero_l (inverse (difference_product (remove points i) (get_or points i 0)))
