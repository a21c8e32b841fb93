-- The bytes of RTSP text.
use Rattle.std.specs.Prelude.{◌≡◌, ℕ, ◌^◌, Bool, ◌&&◌, ◌||◌, ◌==◌, nat_le, nat_lt, IsTrue, List, [], ◌∷◌}
use Rattle.std.specs.List.{list_all}
use Rattle.gs_bytes.specs.Numbers.{is_decimal, is_digit, number_of}
use Rattle.gs_bytes.specs.Words.{is_space}
use Rattle.gs_rtsp_text.specs.declared.scan.ByteClass.{ByteClass}
use Rattle.gs_rtsp_text.specs.declared.scan.ByteClass.TheVariants.{Target, Name, Value, Space}

-- CR LF, which ends a line
abbrev pub crlf : List ℕ
crlf = 13 ∷ 10 ∷ []

abbrev pub is_letter : ℕ → Bool
is_letter b = (nat_le 65 b && nat_le b 90) || (nat_le 97 b && nat_le b 122)

-- a letter, a digit or '-'
abbrev pub is_name_byte : ℕ → Bool
is_name_byte b = is_letter b || is_digit b || b == 45

-- a printable byte of ASCII, the space among them
abbrev pub is_value_byte : ℕ → Bool
is_value_byte b = nat_le 32 b && nat_le b 126

-- a printable byte of ASCII, but for the space
abbrev pub is_target_byte : ℕ → Bool
is_target_byte b = nat_le 33 b && nat_le b 126

abbrev pub class_test : ByteClass → ℕ → Bool
class_test Target = is_target_byte
class_test Name = is_name_byte
class_test Value = is_value_byte
class_test Space = is_space

-- one byte or more, and each of them passes
abbrev pub IsRunOfBytes : (ℕ → Bool) → List ℕ → Type 0
IsRunOfBytes passes bytes = (bytes ≡ [] → ⊥) × IsTrue (list_all passes bytes)

-- the number of a CSeq: decimal, below 2 ^ 31
abbrev pub is_sequence_number : List ℕ → Bool
is_sequence_number digits = is_decimal digits && nat_lt (number_of digits) (2 ^ 31)
