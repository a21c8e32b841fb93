-- The image of a frame: eight bytes of header, the unit, and zeros up to a whole number of payloads.
use Rattle.std.specs.Prelude.{ℕ, ◌≡◌, ◌+◌, ◌-◌, ◌*◌, ◌/◌, ◌%◌, Bool, ◌&&◌, ◌||◌, not, List, [], ◌∷◌, ◌++◌, length, take}
use Rattle.std.specs.Prelude.{drop, replicate, slice_index, Option, Some, None, nat_le, ◌==◌, if◌then◌else◌}
use Rattle.byteorder.specs.Endian.{little_bytes, little_number}
use Rattle.gs_rtp.specs.Limits.{most_blocks, most_shards_of_block}

-- division that rounds up, by a number that isn't 0
abbrev pub ceil_div : ℕ → ℕ → ℕ
ceil_div n d = (n + (d - 1)) / d

abbrev pub header_length : ℕ
header_length = 8

-- how many payloads a unit of this length takes with its header
abbrev pub packets : ℕ → ℕ → ℕ
packets length payload = ceil_div (header_length + length) payload

-- how much of the last of them it takes
abbrev pub last_length : ℕ → ℕ → ℕ
last_length length payload =
    if (header_length + length) % payload == 0 then payload else (header_length + length) % payload

-- a mark, the latency in two bytes, the kind, the length of the last payload in two bytes, two bytes more
abbrev pub image_header : ℕ → ℕ → List ℕ
image_header kind last = 1 ∷ 0 ∷ 0 ∷ kind ∷ little_bytes 2 last ++ 0 ∷ 0 ∷ []

unfoldable pub frame_image : ℕ → List ℕ → ℕ → List ℕ
frame_image kind unit payload =
    image_header kind (last_length (length unit) payload) ++ unit
    ++ replicate (packets (length unit) payload * payload - (header_length + length unit)) 0

-- what an image holds: 1 a unit against the frame before, 2 an IDR unit, 5 a unit against an older frame
pub record Frame : Type 0 where
  pub kind : ℕ
  pub unit : List ℕ

-- a kind that may be read: 4 is another spelling of 1
abbrev pub is_kind : ℕ → Bool
is_kind kind = kind == 1 || kind == 2 || kind == 4 || kind == 5

abbrev pub kind_of : ℕ → ℕ
kind_of kind = if kind == 4 then 1 else kind

-- the length of the last payload, as an image's header says
abbrev pub last_read : List ℕ → ℕ
last_read image = little_number 2 (drop 4 image)

-- the most packets of a frame: each block with the most data shards
abbrev pub most_packets : ℕ
most_packets = most_blocks * most_shards_of_block

-- Whole payloads of eight bytes or more behind a header in order: the mark, a known kind, and a last
-- payload that isn't empty, fits, and has room for the header where it is the only one.
abbrev pub holds_frame : ℕ → List ℕ → Bool
holds_frame payload image =
    nat_le header_length payload && length image % payload == 0
    && nat_le 1 (length image / payload) && nat_le (length image / payload) most_packets
    && slice_index image 0 == 1 && is_kind (slice_index image 3)
    && nat_le 1 (last_read image) && nat_le (last_read image) payload
    && (not (length image / payload == 1) || nat_le header_length (last_read image))

-- all payloads but the last are full
abbrev pub unit_length : ℕ → List ℕ → ℕ
unit_length payload image = (length image / payload - 1) * payload + last_read image - header_length

-- the frame that an image of these payloads holds; what follows the unit has no meaning
unfoldable pub frame_of : ℕ → List ℕ → Option Frame
frame_of payload image =
    if holds_frame payload image
    then Some (record {
      kind = kind_of (slice_index image 3);
      unit = take (unit_length payload image) (drop header_length image);
    })
    else None

abbrev pub IsFrameImage : ℕ → List ℕ → Frame → Type 0
IsFrameImage payload image frame = frame_of payload image ≡ Some frame
