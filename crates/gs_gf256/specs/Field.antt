-- GF(2^8), the field with 256 elements. A byte is a polynomial over GF(2) of degree below 8: bit i is the coefficient
-- of x^i. The sum is xor, and the product is the product of polynomials modulo x^8 + x^4 + x^3 + x^2 + 1.
use Rattle.std.specs.Prelude.{◌≡◌, ℕ, zero, suc, ◌+◌, ◌*◌, ◌^◌, ◌<◌, if◌then◌else◌, ◌==◌, bit_xor}
use Rattle.std.specs.Int.{bit_at}

-- an element of the field
abbrev pub IsByte : ℕ → Type 0
IsByte a = a < 256

-- the product of two polynomials over GF(2), the second of degree below n: the sum of a * x^i over the terms x^i of b
unfoldable pub polynomial_product : ℕ → ℕ → ℕ → ℕ
polynomial_product zero a b = 0
polynomial_product (suc n) a b = bit_xor (polynomial_product n a b) (bit_at b n * (a * 2 ^ n))

-- x^8 + x^4 + x^3 + x^2 + 1
abbrev pub modulus : ℕ
modulus = 0x11D

-- the remainder of a polynomial of degree below n + 8 modulo the modulus, by long division: where the term x^(n + 7) is
-- there, modulus * x^(n - 1) is taken away, and so on down to x^8
unfoldable pub remainder : ℕ → ℕ → ℕ
remainder zero p = p
remainder (suc n) p = remainder n (bit_xor p (bit_at p (n + 8) * (modulus * 2 ^ n)))

-- the product of two bytes: that of their polynomials has 15 bits
unfoldable pub product : ℕ → ℕ → ℕ
product a b = remainder 7 (polynomial_product 8 a b)

-- b is the inverse of a
abbrev pub IsInverse : ℕ → ℕ → Type 0
IsInverse a b = IsByte b × (product a b ≡ 1)

-- the number below n whose product with a is 1, or 0
unfoldable pub inverse_below : ℕ → ℕ → ℕ
inverse_below zero a = 0
inverse_below (suc n) a = if product a n == 1 then n else inverse_below n a

-- the inverse of a byte that is not 0
unfoldable pub inverse : ℕ → ℕ
inverse a = inverse_below 256 a

-- a divided by b
abbrev pub quotient : ℕ → ℕ → ℕ
quotient a b = product a (inverse b)

-- 2 to the power i
unfoldable pub power : ℕ → ℕ
power zero = 1
power (suc i) = product (power i) 2

-- the sum of f 0, f 1, .. f (n - 1)
unfoldable pub field_sum : (ℕ → ℕ) → ℕ → ℕ
field_sum f zero = 0
field_sum f (suc n) = bit_xor (field_sum f n) (f n)
