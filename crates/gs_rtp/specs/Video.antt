-- The header of a video datagram: 16 bytes of RTP (the fixed header of RFC 3550, section 5.1, and four
-- reserved bytes), and 16 bytes that place the datagram's shard in its frame.
use Rattle.std.specs.Prelude.{◌≡◌, ◌↔◌, ◌==◌, ◌&&◌, ◌||◌, ◌≤◌, ◌<◌, ℕ, ◌+◌, ◌*◌, ◌/◌, ◌%◌, ◌^◌, nat_lt, nat_le}
use Rattle.std.specs.Prelude.{if◌then◌else◌, Bool, IsTrue, List, [], ◌∷◌, ◌++◌, length, take, drop, slice_index, Option}
use Rattle.std.specs.Prelude.{Some, None}
use Rattle.byteorder.specs.Endian.{big_from, little_from, big_bytes, little_bytes}
use Rattle.gs_rtp.specs.Limits.{most_frame, most_last_block, most_shards_of_block, most_shards_of_code}
use Rattle.gs_rtp.specs.declared.video.VideoHead.{VideoHead}

-- how many parity shards a block of so many data shards has at a percentage, rounded up
abbrev pub parity_count : ℕ → ℕ → ℕ
parity_count data_shards percentage = (data_shards * percentage + 99) / 100

-- a head in the grammar
pub record IsVideoHead (h : VideoHead) : Type 0 where
  pub frame_least : 1 ≤ h.frame
  pub frame_greatest : h.frame ≤ most_frame
  pub block : h.block ≤ h.last_block
  pub last_block : h.last_block ≤ most_last_block
  pub shards_least : 1 ≤ h.shards
  pub shards_greatest : h.shards ≤ most_shards_of_block
  pub index : h.index < h.shards + parity_count h.shards h.percentage
  pub codable : 0 < h.percentage → h.shards + parity_count h.shards h.percentage ≤ most_shards_of_code

-- each field is a value of its type
pub record FitsHeadTypes (h : VideoHead) : Type 0 where
  pub sequence : h.sequence < 2 ^ 16
  pub timestamp : h.timestamp < 2 ^ 32
  pub ssrc : h.ssrc < 2 ^ 32
  pub stream_index : h.stream_index < 2 ^ 32
  pub frame : h.frame < 2 ^ 32
  pub flags : h.flags < 2 ^ 8
  pub extra : h.extra < 2 ^ 8
  pub multi_flags : h.multi_flags < 2 ^ 8
  pub block : h.block < 2 ^ 8
  pub last_block : h.last_block < 2 ^ 8
  pub shards : h.shards < 2 ^ 16
  pub index : h.index < 2 ^ 16
  pub percentage : h.percentage < 2 ^ 8

-- the test of `IsVideoHead`
abbrev pub is_video_head : VideoHead → Bool
is_video_head h =
    nat_le 1 h.frame && nat_le h.frame most_frame
    && nat_le h.block h.last_block && nat_le h.last_block most_last_block
    && nat_le 1 h.shards && nat_le h.shards most_shards_of_block
    && nat_lt h.index (h.shards + parity_count h.shards h.percentage)
    && (h.percentage == 0 || nat_le (h.shards + parity_count h.shards h.percentage) most_shards_of_code)

-- the block and the frame's last block in one byte, bits 4 and 5, and 6 and 7
abbrev pub block_byte : VideoHead → ℕ
block_byte h = h.block * 2 ^ 4 + h.last_block * 2 ^ 6

-- the data shards, the shard's number and the percentage in 32 bits, from bits 22, 12 and 4 on
abbrev pub fec_info : VideoHead → ℕ
fec_info h = h.shards * 2 ^ 22 + h.index * 2 ^ 12 + h.percentage * 2 ^ 4

-- the 32 bytes that are written
abbrev pub video_header : VideoHead → List ℕ
video_header h =
    0x90 ∷ 0 ∷ big_bytes 2 h.sequence ++ big_bytes 4 h.timestamp ++ big_bytes 4 h.ssrc
    ++ 0 ∷ 0 ∷ 0 ∷ 0 ∷ []
    ++ little_bytes 4 h.stream_index ++ little_bytes 4 h.frame
    ++ h.flags ∷ h.extra ∷ h.multi_flags ∷ block_byte h ∷ []
    ++ little_bytes 4 (fec_info h)

-- the length of the RTP part: bit 0x10 of the first byte says that four reserved bytes follow the 12 of
-- the fixed header
abbrev pub rtp_length_after : ℕ → ℕ
rtp_length_after first = if first / 0x10 % 2 == 1 then 16 else 12

abbrev pub rtp_length : List ℕ → ℕ
rtp_length bytes = rtp_length_after (slice_index bytes 0)

-- the fields at their places, where the RTP part has this length
abbrev pub fields_after : ℕ → List ℕ → VideoHead
fields_after start bytes =
    record {
      sequence = big_from 2 2 bytes;
      timestamp = big_from 4 4 bytes;
      ssrc = big_from 8 4 bytes;
      stream_index = little_from start 4 bytes;
      frame = little_from (start + 4) 4 bytes;
      flags = slice_index bytes (start + 8);
      extra = slice_index bytes (start + 9);
      multi_flags = slice_index bytes (start + 10);
      block = slice_index bytes (start + 11) / 2 ^ 4 % 2 ^ 2;
      last_block = slice_index bytes (start + 11) / 2 ^ 6;
      shards = little_from (start + 12) 4 bytes / 2 ^ 22;
      index = little_from (start + 12) 4 bytes / 2 ^ 12 % 2 ^ 10;
      percentage = little_from (start + 12) 4 bytes / 2 ^ 4 % 2 ^ 8;
    }

-- the fields that a datagram's bytes have
abbrev pub video_fields : List ℕ → VideoHead
video_fields bytes = fields_after (rtp_length bytes) bytes

-- bytes in the grammar, at a packet size: RTP version 2, their length, and a head in the grammar
pub record IsVideoBytes (packet : ℕ) (bytes : List ℕ) : Type 0 where
  pub version : slice_index bytes 0 / 2 ^ 6 ≡ 2
  pub whole : length bytes ≡ rtp_length bytes + packet
  pub head : IsVideoHead (video_fields bytes)

-- the test of `IsVideoBytes`
abbrev pub is_video : ℕ → List ℕ → Bool
is_video packet bytes =
    slice_index bytes 0 / 2 ^ 6 == 2
    && length bytes == rtp_length bytes + packet
    && is_video_head (video_fields bytes)

-- the head of a datagram, where its bytes are in the grammar
abbrev pub video_head : ℕ → List ℕ → Option VideoHead
video_head packet bytes =
    if is_video packet bytes then Some (video_fields bytes) else None

-- the bytes are a video datagram with this head
abbrev pub IsVideoDatagram : ℕ → List ℕ → VideoHead → Type 0
IsVideoDatagram packet bytes head = video_head packet bytes ≡ Some head

-- the same header with neither bit 0x10 nor the four reserved bytes, which a reader takes too
abbrev pub short_video_header : VideoHead → List ℕ
short_video_header h = 0x80 ∷ take 11 (drop 1 (video_header h)) ++ drop 16 (video_header h)

-- The laws.

-- the test is that of the grammar
abbrev pub TestsVideoHead : Type 0
TestsVideoHead = (h : VideoHead) → IsTrue (is_video_head h) ↔ IsVideoHead h

-- a datagram's bytes are in the grammar, and its head has their fields
abbrev pub ReadsVideoExactly : Type 0
ReadsVideoExactly =
    (packet : ℕ) (bytes : List ℕ) (h : VideoHead)
    → IsVideoDatagram packet bytes h ↔ (IsVideoBytes packet bytes × (video_fields bytes ≡ h))

-- the header of a head in the grammar, followed by any payload of the packet size less 16, is a datagram
-- with that head
abbrev pub ReadsBackVideo : Type 0
ReadsBackVideo =
    (packet : ℕ) (h : VideoHead) (payload : List ℕ)
    → FitsHeadTypes h → IsVideoHead h → length payload + 16 ≡ packet
    → IsVideoDatagram packet (video_header h ++ payload) h

-- so does the short header
abbrev pub ReadsShortVideo : Type 0
ReadsShortVideo =
    (packet : ℕ) (h : VideoHead) (payload : List ℕ)
    → FitsHeadTypes h → IsVideoHead h → length payload + 16 ≡ packet
    → IsVideoDatagram packet (short_video_header h ++ payload) h
