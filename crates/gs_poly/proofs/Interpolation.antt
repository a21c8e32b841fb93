-- The polynomial through given points: the sum of the values, each times the polynomial that is the weight of its point.
use Rattle.std.proofs.Common.{◌≡◌, ℕ, zero, suc, ◌<◌, ◌≤◌, List, [], ◌∷◌, length, get_or, remove, replicate, All, bit_xor, lit<, refl, sym, ap, ◌∙◌, subst}
use Rattle.std.proofs.Common.{arith}
use Rattle.std.specs.Int.Bits.{xor_self}
use Rattle.std.proofs.lemmas.List.{length-replicate}
use Rattle.std.proofs.lemmas.List.Elements.{All-nil, All-cons, All-head, All-tail, All-replicate, All-from_get_or}
use Rattle.gs_gf256.specs.Field.{IsByte, product, inverse, field_sum}
use Rattle.gs_gf256.proofs.FieldLemmas.{product-zero_r, product_comm, product-one_r}
use Rattle.gs_gf256.proofs.FieldSums.{field_sum-zero, field_sum-suc, field_sum_one}
use Rattle.gs_gf256.proofs.Inverses.{IsByte-inverse}
use Rattle.gs_poly.specs.Polynomial.{value, weight, weighted_sum, difference_product, ArePoints, PassesThrough}
use Rattle.gs_poly.specs.PolynomialLaws.{InterpolationExists, InterpolationIsUnique, InterpolationIsWeightedSum}
use Rattle.gs_poly.proofs.PolynomialLemmas.{value-nil, value-cons, IsByte-value, plus, value-plus, length-plus, bytes-plus, times, value-times, length-times}
use Rattle.gs_poly.proofs.PolynomialLemmas.{bytes-times, times_difference, value-times_difference, length-times_difference, bytes-times_difference, value-zeros}
use Rattle.gs_poly.proofs.PolynomialLemmas.{same_from_plus}
use Rattle.gs_poly.proofs.Differences.{IsByte-difference_product, bytes-others, length-others, weight-quotient, weight_at_own, weight_at_other}
use Rattle.gs_poly.proofs.Roots.{roots_are_few}

-- ---- the polynomial with given roots

differences : List ℕ → List ℕ
differences [] = 1 ∷ []
differences (q ∷ qs) = times_difference q (differences qs)

length-differences : (qs : List ℕ) → length (differences qs) ≡ suc (length qs)
unfolding differences
length-differences [] = refl
length-differences (q ∷ qs) = length-times_difference q (differences qs) ∙ ap suc (length-differences qs)

bytes-differences : (qs : List ℕ) → All IsByte qs → All IsByte (differences qs)
unfolding differences
bytes-differences [] hs = All-cons IsByte 1 [] (lit< tt) (All-nil IsByte)
bytes-differences (q ∷ qs) hs = bytes-times_difference q (differences qs) (All-head IsByte q qs hs) (bytes-differences qs (All-tail IsByte q qs hs))

value-differences : (qs : List ℕ) (x : ℕ) → All IsByte qs → IsByte x → value (differences qs) x ≡ difference_product qs x
unfolding differences difference_product
value-differences [] x hs hx = value-cons 1 [] x ∙ ap (bit_xor 1) (ap (product x) (value-nil x) ∙ product-zero_r x)
value-differences (q ∷ qs) x hs hx =
    let rest = All-tail IsByte q qs hs in
    value-times_difference q (differences qs) x (All-head IsByte q qs hs) (bytes-differences qs rest) hx
    ∙ ap (product (bit_xor x q)) (value-differences qs x rest hx)

-- ---- the polynomial that is a weight

weight_polynomial : List ℕ → ℕ → List ℕ
weight_polynomial points i = times (inverse (difference_product (remove points i) (get_or points i 0))) (differences (remove points i))

module _ (points : List ℕ) (i : ℕ) (given : ArePoints points) (inside : i < length points) where
  length-weight : length (weight_polynomial points i) ≡ length points
  unfolding weight_polynomial
  length-weight =
      length-times (inverse (difference_product (remove points i) (get_or points i 0))) (differences (remove points i))
      ∙ length-differences (remove points i) ∙ length-others points i given inside

  bytes-weight : All IsByte (weight_polynomial points i)
  unfolding weight_polynomial
  bytes-weight =
      bytes-times (inverse (difference_product (remove points i) (get_or points i 0))) (differences (remove points i))
      (IsByte-inverse (difference_product (remove points i) (get_or points i 0))) (bytes-differences (remove points i) (bytes-others points i given inside))

  value-weight : (x : ℕ) → IsByte x → value (weight_polynomial points i) x ≡ weight points i x
  unfolding weight_polynomial
  value-weight x hx =
      let others = remove points i in
      let k = inverse (difference_product others (get_or points i 0)) in
      let hk = IsByte-inverse (difference_product others (get_or points i 0)) in
      let hs = bytes-others points i given inside in
      value-times k (differences others) x hk (bytes-differences others hs) hx
      ∙ ap (product k) (value-differences others x hs hx)
      ∙ product_comm k (difference_product others x) hk (IsByte-difference_product others x hs hx)
      ∙ sym (weight-quotient points i given inside x hx)

-- ---- the sum of the first n values, each times its weight

partial : List ℕ → List ℕ → ℕ → List ℕ
partial points values zero = replicate (length points) 0
partial points values (suc n) = plus (partial points values n) (times (get_or values n 0) (weight_polynomial points n))

module _ (points values : List ℕ) (given : ArePoints points) (bytes : (i : ℕ) → i < length points → IsByte (get_or values i 0)) where
  length-partial : (n : ℕ) → n ≤ length points → length (partial points values n) ≡ length points
  unfolding partial
  length-partial zero h = length-replicate (length points) 0
  length-partial (suc n) h =
      let before = length-partial n (omega arith) in
      let term = length-times (get_or values n 0) (weight_polynomial points n) ∙ length-weight points n given (omega arith) in
      length-plus (partial points values n) (times (get_or values n 0) (weight_polynomial points n)) (omega arith) ∙ before

  bytes-partial : (n : ℕ) → n ≤ length points → All IsByte (partial points values n)
  unfolding partial
  bytes-partial zero h = All-replicate IsByte (length points) 0 (lit< tt)
  bytes-partial (suc n) h =
      bytes-plus (partial points values n) (times (get_or values n 0) (weight_polynomial points n)) (bytes-partial n (omega arith))
      (bytes-times (get_or values n 0) (weight_polynomial points n) (bytes n (omega arith)) (bytes-weight points n given (omega arith)))

  value-partial : (n x : ℕ) → n ≤ length points → IsByte x
      → value (partial points values n) x ≡ field_sum (λ i. product (get_or values i 0) (weight points i x)) n
  unfolding partial
  value-partial zero x h hx = value-zeros (length points) x ∙ sym (field_sum-zero (λ i. product (get_or values i 0) (weight points i x)))
  value-partial (suc n) x h hx =
      let v = get_or values n 0 in
      let w = weight_polynomial points n in
      let f = λ (i : ℕ). product (get_or values i 0) (weight points i x) in
      value-plus (partial points values n) (times v w) x
      ∙ ap (λ z. bit_xor z (value (times v w) x)) (value-partial n x (omega arith) hx)
      ∙ ap (bit_xor (field_sum f n)) (value-times v w x (bytes n (omega arith)) (bytes-weight points n given (omega arith)) hx
      ∙ ap (product v) (value-weight points n given (omega arith) x hx))
      ∙ sym (field_sum-suc f n)

  weighted_sum_at : (j : ℕ) → j < length points → weighted_sum points values (get_or points j 0) ≡ get_or values j 0
  weighted_sum_at j inside =
      let x = get_or points j 0 in
      field_sum_one (λ i. product (get_or values i 0) (weight points i x)) (length points) j inside (λ i at other.
      ap (product (get_or values i 0)) (weight_at_other points i given at j inside (λ e. other (sym e))) ∙ product-zero_r (get_or values i 0))
      ∙ ap (product (get_or values j 0)) (weight_at_own points j given inside)
      ∙ product-one_r (get_or values j 0) (bytes j inside)

  interpolated : PassesThrough points values (partial points values (length points))
  interpolated = record {
    polynomial = record {
      degree_below = length-partial (length points) (omega arith);
      bytes = bytes-partial (length points) (omega arith);
    };
    at_points = λ i inside.
        value-partial (length points) (get_or points i 0) (omega arith) (given.bytes i 0 inside) ∙ weighted_sum_at i inside;
  }

-- ---- the laws

pub interpolation_exists : InterpolationExists
interpolation_exists points values given same bytes =
    (partial points values (length points), interpolated points values given (λ i inside. bytes i 0 (omega arith)))

pub interpolation_is_unique : InterpolationIsUnique
interpolation_is_unique points values cs ds given one two =
    let n = length points in
    let hc = one.polynomial in
    let hd = two.polynomial in
    let sum = length-plus cs ds (omega (arith, hc.degree_below, hd.degree_below)) in
    same_from_plus cs ds (hc.degree_below ∙ sym hd.degree_below)
    (roots_are_few n (plus cs ds) points
    (record { degree_below = sum ∙ hc.degree_below; bytes = bytes-plus cs ds hc.bytes hd.bytes })
    given (omega arith)
    (All-from_get_or (λ x. value (plus cs ds) x ≡ 0) points 0 (λ i inside.
    value-plus cs ds (get_or points i 0)
    ∙ ap (λ z. bit_xor z (value ds (get_or points i 0))) (one.at_points i inside)
    ∙ ap (bit_xor (get_or values i 0)) (two.at_points i inside)
    ∙ xor_self (get_or values i 0))))

pub interpolation_is_weighted_sum : InterpolationIsWeightedSum
interpolation_is_weighted_sum points values cs given through x hx =
    let n = length points in
    let bytes : (i : ℕ) → i < n → IsByte (get_or values i 0) = λ i inside.
    subst IsByte (through.at_points i inside) (IsByte-value cs (get_or points i 0) through.polynomial.bytes (given.bytes i 0 inside)) in
    let same = interpolation_is_unique points values cs (partial points values n) given through (interpolated points values given bytes) in
    ap (λ ds. value ds x) same ∙ value-partial points values given bytes n x (omega arith) hx
