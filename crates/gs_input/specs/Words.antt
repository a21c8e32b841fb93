-- Cited by private contracts alone: the first of the words that are left spells a number.
use Rattle.std.specs.Prelude.{◌≡◌, ℕ, ℤ, ◌<◌, List, ◌∷◌, FitsSigned}
use Rattle.std.specs.Int.{w16}
use Rattle.std.specs.Fmt.{decimal, signed_decimal}

-- the first of the words spells a number below the limit, and the rest are left
abbrev pub TakesNumber : ℕ → List (List ℕ) → ℕ → List (List ℕ) → Type 0
TakesNumber limit words number rest = (number < limit) × (words ≡ decimal number ∷ rest)

-- the same of a signed number
abbrev pub TakesSigned : List (List ℕ) → ℤ → List (List ℕ) → Type 0
TakesSigned words number rest = FitsSigned w16 number × (words ≡ signed_decimal number ∷ rest)
