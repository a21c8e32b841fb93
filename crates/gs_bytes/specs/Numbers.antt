-- Decimal numbers in text: digits without a sign or a leading zero, and signed ones, which have a
-- leading '-' where they are below 0.
use Rattle.std.specs.Prelude.{◌≡◌, ℕ, ℤ, ◌+◌, ◌-◌, ◌*◌, ◌<◌, Bool, false, ◌&&◌, nat_le, nat_lt, List, [], ◌∷◌, Option}
use Rattle.std.specs.Prelude.{Some, None, if◌then◌else◌, FitsSigned}
use Rattle.std.specs.Fmt.{decimal, signed_decimal}
use Rattle.std.specs.Int.{w16}
use Rattle.std.specs.List.{list_all}

-- a word spells a number below the limit
abbrev pub SpellsNumber : ℕ → List ℕ → ℕ → Type 0
SpellsNumber limit word number = (number < limit) × (word ≡ decimal number)

-- a word spells a number of 16 bits, which is signed
abbrev pub SpellsSigned : List ℕ → ℤ → Type 0
SpellsSigned word number = FitsSigned w16 number × (word ≡ signed_decimal number)

abbrev pub is_digit : ℕ → Bool
is_digit b = nat_le 48 b && nat_le b 57

-- a number, with further digits behind it
abbrev pub number_from : ℕ → List ℕ → ℕ
number_from n [] = n
number_from n (d ∷ ds) = number_from (10 * n + (d - 48)) ds

-- the number that digits stand for
abbrev pub number_of : List ℕ → ℕ
number_of digits = number_from 0 digits

-- decimal digits without a leading zero
abbrev pub is_decimal : List ℕ → Bool
is_decimal [] = false
is_decimal (d ∷ []) = is_digit d
is_decimal (d ∷ e ∷ ds) = nat_lt 48 d && list_all is_digit (d ∷ e ∷ ds)

-- the number that a word spells, where it spells one that is no greater than this
abbrev pub decimal_up_to : ℕ → List ℕ → Option ℕ
decimal_up_to most word = if is_decimal word && nat_le (number_of word) most then Some (number_of word) else None
