-- Cited by private contracts alone: what a number's reader tests on its way.
use Rattle.std.specs.Prelude.{◌≡◌, ℕ, suc, ℤ, pos, negsuc, ◌<◌, ◌^◌, ◌==◌, ◌&&◌, ◌||◌, not, nat_le, Bool, List, length}
use Rattle.std.specs.Prelude.{slice_index}

-- the first byte is a digit, and the only one if it is '0'
abbrev pub begins_plainly : List ℕ → Bool
begins_plainly word =
    nat_le 48 (slice_index word 0) && nat_le (slice_index word 0) 57
    && (not (slice_index word 0 == 48) || length word == 1)

-- the number of 16 bits that is below 0 by the size
abbrev pub IsBelowZero : ℕ → ℤ → Type 0
IsBelowZero size (pos number) = ⊥
IsBelowZero size (negsuc below) = (size ≡ suc below) × (below < 2 ^ 15)
