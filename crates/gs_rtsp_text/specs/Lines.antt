-- The lines of a message (RFC 2326, sections 4 to 7): request lines, status lines and header lines.
use Rattle.std.specs.Prelude.{◌≡◌, ℕ, ◌+◌, ◌/◌, ◌%◌, ◌<◌, Bool, IsTrue, List, [], ◌∷◌, ◌++◌, map, filter, codes, Option}
use Rattle.std.specs.Prelude.{Some, None, if◌then◌else◌, count_by}
use Rattle.std.specs.List.{list_all}
use Rattle.std.specs.Char.{to_ascii_lowercase}
use Rattle.std.specs.Str.{bytes_eq}
use Rattle.gs_rtsp_text.specs.declared.limits.TheConstants.{MOST_BODY}
use Rattle.gs_rtsp_text.specs.declared.header.Header.{Header}
use Rattle.gs_rtsp_text.specs.declared.message.Method.{Method}
use Rattle.gs_rtsp_text.specs.declared.message.Method.TheVariants.{Options, Describe, Setup, Announce, Play}
use Rattle.gs_rtsp_text.specs.Bytes.{crlf, is_name_byte, is_value_byte, is_target_byte, IsRunOfBytes}
use Rattle.gs_rtsp_text.specs.Bytes.{is_sequence_number}
use Rattle.gs_bytes.specs.Words.{HasNoOuterSpace, spaces}
use Rattle.gs_bytes.specs.Numbers.{decimal_up_to}

-- ---- header lines

-- names that differ in the case of ASCII letters alone are the same
abbrev pub is_same_name : List ℕ → List ℕ → Bool
is_same_name a b = bytes_eq (map to_ascii_lowercase a) (map to_ascii_lowercase b)

abbrev pub is_cseq : List ℕ → Bool
is_cseq name = is_same_name name (codes "CSeq")

abbrev pub is_content_length : List ℕ → Bool
is_content_length name = is_same_name name (codes "Content-length")

-- what a header of a message is; the value of a CSeq is a number below 2 ^ 31
pub record IsHeader (h : Header) : Type 0 where
  pub name : IsRunOfBytes is_name_byte h.name
  pub value : IsTrue (list_all is_value_byte h.value)
  pub outer : HasNoOuterSpace h.value
  pub sequence : IsTrue (is_cseq h.name) → IsTrue (is_sequence_number h.value)

-- the line of a header: any number of spaces may stand before and behind its value
abbrev pub IsHeaderLine : List ℕ → Header → Type 0
IsHeaderLine line h = IsHeader h × (before after : ℕ)
    × (line ≡ h.name ++ 58 ∷ (spaces before ++ h.value ++ spaces after ++ crlf))

-- the lines of headers, one after the other
abbrev pub AreHeaderLines : List ℕ → List Header → Type 0
AreHeaderLines lines [] = lines ≡ []
AreHeaderLines lines (h ∷ hs) = (line rest : List ℕ) × IsHeaderLine line h × AreHeaderLines rest hs
    × (lines ≡ line ++ rest)

-- ---- what the headers of a message say

-- the value of the first header of a name
abbrev pub value_by : List ℕ → List Header → Option (List ℕ)
value_by name [] = None
value_by name (h ∷ hs) = if is_same_name h.name name then Some h.value else value_by name hs

-- how many CSeq headers there are
abbrev pub cseq_count : List Header → ℕ
cseq_count hs = count_by (λ h. is_cseq h.name) hs

-- the headers that give the length of the body
abbrev pub content_lengths : List Header → List Header
content_lengths hs = filter (λ h. is_content_length h.name) hs

-- the most bytes of a body
abbrev pub most_body : ℕ
most_body = MOST_BODY

-- the length of the body by these headers: 0 where there is none, and nothing where there are two, or one
-- that is no number or exceeds the limit
abbrev pub length_by : List Header → Option ℕ
length_by [] = Some 0
length_by (h ∷ []) = decimal_up_to most_body h.value
length_by (h ∷ i ∷ hs) = None

abbrev pub body_length : List Header → Option ℕ
body_length hs = length_by (content_lengths hs)

-- ---- first lines

abbrev pub method_name : Method → List ℕ
method_name Options = codes "OPTIONS"
method_name Describe = codes "DESCRIBE"
method_name Setup = codes "SETUP"
method_name Announce = codes "ANNOUNCE"
method_name Play = codes "PLAY"

-- the first line of a request: its method and its target
abbrev pub IsRequestLine : List ℕ → Method × List ℕ → Type 0
IsRequestLine line start = IsRunOfBytes is_target_byte start.1
    × (line ≡ method_name start.0 ++ 32 ∷ (start.1 ++ codes " RTSP/1.0" ++ crlf))

abbrev pub three_digits : ℕ → List ℕ
three_digits code = (48 + code / 100) ∷ (48 + code / 10 % 10) ∷ (48 + code % 10) ∷ []

-- the first line of a response: its code, and any printable text
abbrev pub IsStatusLine : List ℕ → ℕ → Type 0
IsStatusLine line code = (code < 1000) × (reason : List ℕ) × IsTrue (list_all is_value_byte reason)
    × (line ≡ codes "RTSP/1.0 " ++ three_digits code ++ 32 ∷ (reason ++ crlf))
