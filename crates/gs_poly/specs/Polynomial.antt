-- Polynomials over GF(2^8), each as the list of its coefficients, lowest first. One of degree below D is a list of D
-- bytes.
use Rattle.std.specs.Prelude.{◌≡◌, ◌≢◌, ℕ, ◌<◌, List, [], ◌∷◌, length, All, AllPairs, remove, slice_index, bit_xor}
use Rattle.gs_gf256.specs.Field.{IsByte, product, quotient, field_sum}

-- the value at x: the lowest coefficient, and x times the value of the rest
unfoldable pub value : List ℕ → ℕ → ℕ
value [] x = 0
value (c ∷ cs) x = bit_xor c (product x (value cs x))

-- a polynomial of degree below d
pub record IsPolynomialBelow (d : ℕ) (cs : List ℕ) : Type 0 where
  pub degree_below : length cs ≡ d
  pub bytes : All IsByte cs

-- points at which polynomials are read: bytes, no two of them equal
pub record ArePoints (points : List ℕ) : Type 0 where
  pub bytes : All IsByte points
  pub distinct : AllPairs (λ p q. p ≢ q) points

-- the product over the points q in qs of (x - q) / (p - q)
unfoldable pub ratio_product : List ℕ → ℕ → ℕ → ℕ
ratio_product [] p x = 1
ratio_product (q ∷ qs) p x = product (quotient (bit_xor x q) (bit_xor p q)) (ratio_product qs p x)

-- the weight of point i at x: the product over the points other than it of (x - point) / (point i - point)
abbrev pub weight : List ℕ → ℕ → ℕ → ℕ
weight points i x = ratio_product (remove points i) (slice_index points i) x

-- the sum over i of value i times the weight of point i at x
abbrev pub weighted_sum : List ℕ → List ℕ → ℕ → ℕ
weighted_sum points values x = field_sum (λ i. product (slice_index values i) (weight points i x)) (length points)

-- the polynomial, of degree below the number of points, has value i at point i for each i
pub record PassesThrough (points values cs : List ℕ) : Type 0 where
  pub polynomial : IsPolynomialBelow (length points) cs
  pub at_points : (i : ℕ) → i < length points → value cs (slice_index points i) ≡ slice_index values i

-- the product over the points q in qs of (x - q): the polynomial whose roots they are
unfoldable pub difference_product : List ℕ → ℕ → ℕ
difference_product [] x = 1
difference_product (q ∷ qs) x = product (bit_xor x q) (difference_product qs x)
