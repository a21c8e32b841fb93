-- The numbers that the headers of the set-up carry: how they are spelled and read, and what they stand for.
use Rattle.std.specs.Prelude.{ℕ, ◌+◌, ◌-◌, ◌^◌, Bool, true, false, ◌==◌, nat_lt, List, [], ◌∷◌, ◌++◌, length, replicate}
use Rattle.std.specs.Prelude.{codes, decimal, Option, Some, None, option_and_then, if◌then◌else◌}
use Rattle.std.specs.List.{before_first}
use Rattle.gs_rtsp_text.specs.declared.header.Header.{Header}
use Rattle.gs_bytes.specs.Words.{trimmed}
use Rattle.gs_bytes.specs.Numbers.{decimal_up_to}
use Rattle.gs_rtsp_text.specs.Lines.{value_by}
use Rattle.gs_sdp.specs.Lines.{behind_prefix}
use Rattle.gs_rtsp.specs.declared.field.Field.{Field}
use Rattle.gs_rtsp.specs.declared.field.Field.TheVariants.{Sequence, ClientVersion, Session, Port, PingPayload}
use Rattle.gs_rtsp.specs.declared.field.Field.TheVariants.{ConnectData, ContentLength}
use Rattle.gs_rtsp.specs.declared.stream.Stream.{Stream}
use Rattle.gs_rtsp.specs.declared.stream.Stream.TheVariants.{Audio, Video, Control}

-- ---- a header whose value is a number

abbrev pub field_name : Field → List ℕ
field_name Sequence = codes "CSeq"
field_name ClientVersion = codes "X-GS-ClientVersion"
field_name Session = codes "Session"
field_name Port = codes "Transport"
field_name PingPayload = codes "X-SS-Ping-Payload"
field_name ConnectData = codes "X-SS-Connect-Data"
field_name ContentLength = codes "Content-length"

-- what stands before the number
abbrev pub field_prefix : Field → List ℕ
field_prefix Sequence = []
field_prefix ClientVersion = []
field_prefix Session = codes "DEADBEEF"
field_prefix Port = codes "server_port="
field_prefix PingPayload = []
field_prefix ConnectData = []
field_prefix ContentLength = []

-- how many digits the number has at least
abbrev pub least_digits : Field → ℕ
least_digits Sequence = 1
least_digits ClientVersion = 1
least_digits Session = 4
least_digits Port = 1
least_digits PingPayload = 16
least_digits ConnectData = 1
least_digits ContentLength = 1

-- decimal digits, with zeros before them up to a number of digits
unfoldable pub padded : ℕ → ℕ → List ℕ
padded least n = replicate (least - length (decimal n)) 48 ++ decimal n

-- the value of the header
abbrev pub field_text : Field → ℕ → List ℕ
field_text f n = field_prefix f ++ padded (least_digits f) n

abbrev pub field_header : Field → ℕ → Header
field_header f n = record { name = field_name f; value = field_text f n }

-- ---- reading it

-- digits without the zeros before the others; the last digit stays
abbrev pub without_zeros : List ℕ → List ℕ
without_zeros [] = []
without_zeros (d ∷ []) = d ∷ []
without_zeros (d ∷ e ∷ ds) = if d == 48 then without_zeros (e ∷ ds) else d ∷ e ∷ ds

-- digits without padding; fewer than the least number are none
abbrev pub unpadded : ℕ → List ℕ → Option (List ℕ)
unpadded least ds =
    if nat_lt (length ds) least then None else (if length ds == least then Some (without_zeros ds) else Some ds)

-- the number below 2 ^ 32 with this text
unfoldable pub padded_number : ℕ → List ℕ → Option ℕ
padded_number least ds = option_and_then (decimal_up_to (2 ^ 32 - 1)) (unpadded least ds)

abbrev pub field_number : Field → List ℕ → Option ℕ
field_number f value = option_and_then (padded_number (least_digits f)) (behind_prefix (field_prefix f) value)

abbrev pub is_semicolon : ℕ → Bool
is_semicolon b = b == 59

-- A session counts up to the first ';', without spaces at its ends. Every other value counts whole.
abbrev pub counted_part : Field → List ℕ → List ℕ
counted_part Session value = trimmed (before_first is_semicolon value)
counted_part Sequence value = value
counted_part ClientVersion value = value
counted_part Port value = value
counted_part PingPayload value = value
counted_part ConnectData value = value
counted_part ContentLength value = value

-- the number of the first header of this name, where it is one
abbrev pub header_number : Field → List Header → Option ℕ
header_number f hs = option_and_then (λ value. field_number f (counted_part f value)) (value_by (field_name f) hs)

abbrev pub is_number : ℕ → Option ℕ → Bool
is_number n None = false
is_number n (Some m) = m == n

-- ---- the streams

abbrev pub is_same_stream : Stream → Stream → Bool
is_same_stream Audio Audio = true
is_same_stream Video Video = true
is_same_stream Control Control = true
is_same_stream _ _ = false

-- the port of a stream above the host's base
abbrev pub port_of : ℕ → Stream → ℕ
port_of base Video = base + 9
port_of base Control = base + 10
port_of base Audio = base + 11

-- the RTSP port above the base
abbrev pub rtsp_port : ℕ
rtsp_port = 21

-- the header that tells a stream's client what to name its session by
abbrev pub data_field : Stream → Field
data_field Audio = PingPayload
data_field Video = PingPayload
data_field Control = ConnectData
