-- The header of an audio datagram: the fixed header of RTP (RFC 3550, section 5.1), and behind it, for
-- parity, twelve bytes that name the shard and the block.
use Rattle.std.specs.Prelude.{ℕ, ◌≡◌, ◌+◌, ◌*◌, ◌/◌, ◌%◌, ◌^◌, ◌<◌, ◌≢◌, List, ◌∷◌, ◌++◌, length, slice_index, Bool}
use Rattle.std.specs.Prelude.{true, false, ◌&&◌, not, nat_lt, ◌==◌, if◌then◌else◌, Option, Some, None}
use Rattle.byteorder.specs.Endian.{big_bytes, big_from}
use Rattle.gs_rtp.specs.declared.audio.AudioHead.{AudioHead}
use Rattle.gs_rtp.specs.declared.limits.TheConstants.{AUDIO_BLOCK_UNITS, AUDIO_BLOCK_PARITY, AUDIO_UNITS_END}
use Rattle.gs_rtp.specs.Stream.{StreamSettings, AreSettingsWithinLimits}

-- units of a block, and shards of parity of it
abbrev pub block_units : ℕ
block_units = AUDIO_BLOCK_UNITS

abbrev pub block_parity : ℕ
block_parity = AUDIO_BLOCK_PARITY

-- the payload types of a unit and of parity
abbrev pub unit_type : ℕ
unit_type = 97

abbrev pub parity_type : ℕ
parity_type = 127

-- the units of a session are fewer than this, the blocks a fourth of it
abbrev pub units_end : ℕ
units_end = AUDIO_UNITS_END

abbrev pub fixed_length : ℕ
fixed_length = 12

abbrev pub parity_length : ℕ
parity_length = 24

-- a head in the grammar
pub record IsAudioHead (h : AudioHead) : Type 0 where
  pub shard : h.shard < (if h.parity then block_parity else block_units)
  pub block : h.block * block_units < units_end

-- What is written.

abbrev pub fixed_header : ℕ → ℕ → ℕ → ℕ → List ℕ
fixed_header kind sequence timestamp ssrc =
    0x80 ∷ kind ∷ big_bytes 2 (sequence % 2 ^ 16) ++ big_bytes 4 timestamp ++ big_bytes 4 ssrc

-- the first unit of the head's block, and for a unit's own datagram that unit
abbrev pub base_of : AudioHead → ℕ
base_of h = h.block * block_units

abbrev pub unit_header : StreamSettings → AudioHead → List ℕ
unit_header settings h =
    fixed_header unit_type (base_of h + h.shard) ((base_of h + h.shard) * settings.duration) h.ssrc

-- the twelve bytes: the shard, the payload type of a unit, and the sequence number and time of the block's first unit
abbrev pub parity_block : StreamSettings → AudioHead → List ℕ
parity_block settings h =
    h.shard ∷ unit_type ∷ big_bytes 2 (base_of h % 2 ^ 16) ++ big_bytes 4 (base_of h * settings.duration)
    ++ big_bytes 4 h.ssrc

abbrev pub parity_header : StreamSettings → AudioHead → List ℕ
parity_header settings h =
    fixed_header parity_type (base_of h + block_units + h.shard) (base_of h * settings.duration) h.ssrc
    ++ parity_block settings h

-- 12 bytes for a unit, 24 for parity
abbrev pub audio_header : StreamSettings → AudioHead → List ℕ
audio_header settings h = if h.parity then parity_header settings h else unit_header settings h

-- What is read.

-- the time is that of a unit of the session, the first of so many
abbrev pub is_time : StreamSettings → ℕ → ℕ → Bool
is_time settings units time = time % (settings.duration * units) == 0 && nat_lt (time / settings.duration) units_end

abbrev pub is_unit_datagram : StreamSettings → List ℕ → Bool
is_unit_datagram settings bytes =
    slice_index bytes 1 == unit_type && length bytes == fixed_length + settings.audio
    && is_time settings 1 (big_from 4 4 bytes)

abbrev pub is_parity_datagram : StreamSettings → List ℕ → Bool
is_parity_datagram settings bytes =
    slice_index bytes 1 == parity_type && length bytes == parity_length + settings.audio
    && nat_lt (slice_index bytes 12) block_parity && is_time settings block_units (big_from 16 4 bytes)

abbrev pub unit_head : StreamSettings → List ℕ → AudioHead
unit_head settings bytes = record {
  parity = false;
  shard = big_from 4 4 bytes / settings.duration % block_units;
  block = big_from 4 4 bytes / settings.duration / block_units;
  ssrc = big_from 8 4 bytes;
}

abbrev pub parity_head : StreamSettings → List ℕ → AudioHead
parity_head settings bytes = record {
  parity = true;
  shard = slice_index bytes 12;
  block = big_from 16 4 bytes / settings.duration / block_units;
  ssrc = big_from 8 4 bytes;
}

-- The head of a datagram, where its bytes are in the grammar: RTP version 2, a known payload type with its length, and
-- a time of the session. A stream without audio has no audio datagram.
abbrev pub audio_head : StreamSettings → List ℕ → Option AudioHead
audio_head settings bytes =
    if not (settings.audio == 0) && slice_index bytes 0 / 2 ^ 6 == 2
    then (if is_unit_datagram settings bytes then Some (unit_head settings bytes)
    else (if is_parity_datagram settings bytes then Some (parity_head settings bytes) else None))
    else None

-- the bytes are an audio datagram with this head
abbrev pub IsAudioDatagram : StreamSettings → List ℕ → AudioHead → Type 0
IsAudioDatagram settings bytes head = audio_head settings bytes ≡ Some head

-- the header of a head in the grammar, followed by a unit or a parity shard, is a datagram with that head
abbrev pub ReadsBackAudio : Type 0
ReadsBackAudio =
    (settings : StreamSettings) (h : AudioHead) (shard : List ℕ)
    → AreSettingsWithinLimits settings → settings.audio ≢ 0 → IsAudioHead h → h.ssrc < 2 ^ 32
    → length shard ≡ settings.audio
    → IsAudioDatagram settings (audio_header settings h ++ shard) h
