-- Attribute lines (RFC 4566, section 5.13): `a=NAME:VALUE`.
use Rattle.std.specs.Prelude.{ℕ, ◌==◌, nat_eq, List, [], ◌∷◌, ◌++◌, length, drop, reverse, codes, Option, Some, None}
use Rattle.std.specs.Prelude.{option_and_then, if◌then◌else◌}
use Rattle.std.specs.List.{starts_with}
use Rattle.gs_bytes.specs.Words.{without_last_spaces}

-- the lines of a body, each without the LF that ends it; what stands behind the last LF is no line
abbrev pub with_byte : ℕ → List (List ℕ) → List (List ℕ)
with_byte b [] = []
with_byte b (line ∷ lines) = (b ∷ line) ∷ lines

abbrev pub crlf_lines : List ℕ → List (List ℕ)
crlf_lines [] = []
crlf_lines (b ∷ bs) = if b == 10 then [] ∷ crlf_lines bs else with_byte b (crlf_lines bs)

-- a line may end with CR before its LF
abbrev pub without_first_cr : List ℕ → List ℕ
without_first_cr [] = []
without_first_cr (b ∷ bs) = if b == 13 then bs else b ∷ bs

abbrev pub without_cr : List ℕ → List ℕ
without_cr line = reverse (without_first_cr (reverse line))

-- what stands behind a prefix, where it is one
abbrev pub behind_prefix : List ℕ → List ℕ → Option (List ℕ)
behind_prefix prefix bs = if starts_with nat_eq bs prefix then Some (drop (length prefix) bs) else None

-- the value of a line `a=NAME:VALUE` of this name, without the spaces at its end
abbrev pub value_in : List ℕ → List ℕ → Option (List ℕ)
value_in name line =
    option_and_then (λ bs. Some (without_last_spaces bs))
    (option_and_then (behind_prefix (codes ":"))
    (option_and_then (behind_prefix name) (behind_prefix (codes "a=") (without_cr line))))

-- the later of two
abbrev pub later : Option (List ℕ) → Option (List ℕ) → Option (List ℕ)
later earlier None = earlier
later earlier (Some value) = Some value

-- the last value of a name: lines of other names and of other forms are passed over
abbrev pub last_among : List ℕ → List (List ℕ) → Option (List ℕ)
last_among name [] = None
last_among name (line ∷ lines) = later (value_in name line) (last_among name lines)

abbrev pub last_value : List ℕ → List ℕ → Option (List ℕ)
last_value name body = last_among name (crlf_lines body)

-- a line as it is written
abbrev pub line_text : List ℕ → List ℕ → List ℕ
line_text name value = codes "a=" ++ name ++ codes ":" ++ value ++ codes "\r\n"
