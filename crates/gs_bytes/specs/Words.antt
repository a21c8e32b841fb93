-- Words of a line, which one space parts, and the spaces at the ends of a text.
use Rattle.std.specs.Prelude.{◌≡◌, ℕ, ◌==◌, Bool, List, [], ◌∷◌, ◌++◌, drop, reverse, replicate}
use Rattle.std.specs.List.{prefix_len, slice_split, join_with_byte}

abbrev pub is_space : ℕ → Bool
is_space byte = byte == 32

-- the parts of a line between its spaces, each of which may be empty
abbrev pub words_of : List ℕ → List (List ℕ)
words_of line = slice_split is_space line

-- words parted by one space
abbrev pub line_of : List (List ℕ) → List ℕ
line_of words = join_with_byte 32 words

abbrev pub spaces : ℕ → List ℕ
spaces n = replicate n 32

-- the bytes without the spaces at their front, at their end, and at both
abbrev pub without_first_spaces : List ℕ → List ℕ
without_first_spaces s = drop (prefix_len is_space s) s

abbrev pub without_last_spaces : List ℕ → List ℕ
without_last_spaces s = reverse (without_first_spaces (reverse s))

abbrev pub trimmed : List ℕ → List ℕ
trimmed s = without_last_spaces (without_first_spaces s)

-- no space at either end
pub record HasNoOuterSpace (value : List ℕ) : Type 0 where
  pub first : (rest : List ℕ) → value ≡ 32 ∷ rest → ⊥
  pub last : (front : List ℕ) → value ≡ front ++ 32 ∷ [] → ⊥
