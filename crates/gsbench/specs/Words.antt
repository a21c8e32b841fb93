-- The words of a command.
use Rattle.std.specs.Prelude.{ℕ, ◌+◌, List, [], ◌∷◌, length, Option, Some, None, String, string_bytes, if◌then◌else◌}
use Rattle.std.specs.Prelude.{is_some, nat_le, option_and_then, unwrap_or}
use Rattle.std.specs.List.{slice_get}
use Rattle.std.specs.declared.alloc.Global.{Global}
use Rattle.gs_bytes.specs.Numbers.{decimal_up_to}

-- the number that a word spells, where it is within two limits
abbrev pub at_least : ℕ → ℕ → Option ℕ
at_least least n = if nat_le least n then Some n else None

abbrev pub number_within : ℕ → ℕ → String Global → Option ℕ
number_within least most word = option_and_then (at_least least) (decimal_up_to most (string_bytes word))

-- that of the word at a place, from 0
abbrev pub number_word : List (String Global) → ℕ → ℕ → ℕ → Option ℕ
number_word words place least most = option_and_then (number_within least most) (slice_get words place)

-- the number of the word at a place, 0 where it is none
abbrev pub word_value : List (String Global) → ℕ → ℕ → ℕ → ℕ
word_value words place least most = unwrap_or (number_word words place least most) 0

-- the least and the greatest number that a word may be
pub record Limits : Type 0 where
  pub least : ℕ
  pub most : ℕ

abbrev pub from_to : ℕ → ℕ → Limits
from_to least most = record { least = least; most = most }

-- The number, from 1, of the first word that doesn't fit or is missing, where from this place on there are to be
-- numbers within these limits and no more; none where all fit.
abbrev pub word_misfit_from : ℕ → List Limits → List (String Global) → Option ℕ
word_misfit_from place [] words = if nat_le (length words) place then None else Some (place + 1)
word_misfit_from place (l ∷ ls) words =
    if is_some (number_word words place l.least l.most) then word_misfit_from (place + 1) ls words else Some (place + 1)
