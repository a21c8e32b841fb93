-- How many roots a polynomial has, and that distinct points with values fix one polynomial.
use Rattle.std.specs.Prelude.{◌≡◌, ℕ, ◌≤◌, List, length, All}
use Rattle.gs_gf256.specs.Field.{IsByte}
use Rattle.gs_poly.specs.Polynomial.{value, weighted_sum, IsPolynomialBelow, ArePoints, PassesThrough}

-- a polynomial of degree below d that is 0 at d points or more is 0
abbrev pub RootsAreFew : Type 0
RootsAreFew = (d : ℕ) (cs points : List ℕ) → IsPolynomialBelow d cs → ArePoints points → d ≤ length points
    → All (λ x. value cs x ≡ 0) points → All (λ c. c ≡ 0) cs

-- some polynomial of degree below their number goes through given points with given values
abbrev pub InterpolationExists : Type 0
InterpolationExists = (points values : List ℕ) → ArePoints points → length values ≡ length points → All IsByte values
    → (cs : List ℕ) × PassesThrough points values cs

-- and no other does
abbrev pub InterpolationIsUnique : Type 0
InterpolationIsUnique = (points values cs ds : List ℕ) → ArePoints points
    → PassesThrough points values cs → PassesThrough points values ds → cs ≡ ds

-- its value at each byte is the sum of the values, each times the weight of its point
abbrev pub InterpolationIsWeightedSum : Type 0
InterpolationIsWeightedSum = (points values cs : List ℕ) → ArePoints points → PassesThrough points values cs
    → (x : ℕ) → IsByte x → value cs x ≡ weighted_sum points values x
