-- The laws of a field, of the sum and the product of bytes.
use Rattle.std.specs.Prelude.{◌≡◌, ◌≢◌, ◌⊎◌, ℕ, bit_xor}
use Rattle.gs_gf256.specs.Field.{IsByte, product, inverse, IsInverse}

abbrev pub SumIsClosed : Type 0
SumIsClosed = (a b : ℕ) → IsByte a → IsByte b → IsByte (bit_xor a b)

abbrev pub SumIsAssociative : Type 0
SumIsAssociative = (a b c : ℕ) → bit_xor (bit_xor a b) c ≡ bit_xor a (bit_xor b c)

abbrev pub SumIsCommutative : Type 0
SumIsCommutative = (a b : ℕ) → bit_xor a b ≡ bit_xor b a

abbrev pub ZeroIsNeutral : Type 0
ZeroIsNeutral = (a : ℕ) → bit_xor a 0 ≡ a

-- each element is its own negative
abbrev pub SumWithSelfIsZero : Type 0
SumWithSelfIsZero = (a : ℕ) → bit_xor a a ≡ 0

abbrev pub ProductIsClosed : Type 0
ProductIsClosed = (a b : ℕ) → IsByte a → IsByte b → IsByte (product a b)

abbrev pub ProductIsAssociative : Type 0
ProductIsAssociative = (a b c : ℕ) → IsByte a → IsByte b → IsByte c → product (product a b) c ≡ product a (product b c)

abbrev pub ProductIsCommutative : Type 0
ProductIsCommutative = (a b : ℕ) → IsByte a → IsByte b → product a b ≡ product b a

abbrev pub ProductDistributes : Type 0
ProductDistributes = (a b c : ℕ) → IsByte a → IsByte b → IsByte c
    → product a (bit_xor b c) ≡ bit_xor (product a b) (product a c)

abbrev pub OneIsNeutral : Type 0
OneIsNeutral = (a : ℕ) → IsByte a → product a 1 ≡ a

-- a byte that is not 0 has an inverse, and no other
abbrev pub InverseExists : Type 0
InverseExists = (a : ℕ) → IsByte a → a ≢ 0 → IsInverse a (inverse a)

abbrev pub InverseIsUnique : Type 0
InverseIsUnique = (a b : ℕ) → IsByte a → IsInverse a b → b ≡ inverse a

abbrev pub NoZeroDivisors : Type 0
NoZeroDivisors = (a b : ℕ) → IsByte a → IsByte b → product a b ≡ 0 → (a ≡ 0) ⊎ (b ≡ 0)
