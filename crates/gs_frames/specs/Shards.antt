-- The shards of a block of a frame, cut from the frame's image: its data shards, and its parity shards behind them.
use Rattle.std.specs.Prelude.{ℕ, zero, suc, ◌+◌, ◌-◌, ◌*◌, ◌%◌, ◌^◌, List, [], ◌∷◌, ◌++◌, take, drop, slice_index, ◌==◌}
use Rattle.std.specs.Prelude.{if◌then◌else◌}
use Rattle.byteorder.specs.Endian.{little_bytes, little_number}
use Rattle.gs_rs.specs.Shape.{video_code}
use Rattle.gs_rs.specs.Shards.{with_parity_shards}
use Rattle.gs_rtp.specs.Limits.{least_packet, most_packet}
use Rattle.gs_rtp.specs.Stream.{StreamSettings}
use Rattle.gs_frames.specs.Plan.{BlockPlan}

-- how much of a packet isn't payload
abbrev pub packet_header : ℕ
packet_header = 16

-- the least and the most bytes of a payload
abbrev pub least_payload : ℕ
least_payload = least_packet - packet_header

abbrev pub most_payload : ℕ
most_payload = most_packet - packet_header

abbrev pub payload_of : StreamSettings → ℕ
payload_of settings = settings.packet - packet_header

-- What parity covers of a packet's header: the running number of the packet, and two bytes of flags.
pub record CoveredHeader : Type 0 where
  pub stream_index : ℕ
  pub flags : ℕ
  pub extra : ℕ

-- The sixteen bytes with which a shard begins: the other fields of the packet's header are 0 there.
abbrev pub covered_header : CoveredHeader → List ℕ
covered_header h =
    little_bytes 4 h.stream_index ++ 0 ∷ 0 ∷ 0 ∷ 0 ∷ h.flags ∷ h.extra ∷ 0 ∷ 0 ∷ 0 ∷ 0 ∷ 0 ∷ 0 ∷ []

-- read from a shard
abbrev pub read_covered : List ℕ → CoveredHeader
read_covered shard = record {
  stream_index = little_number 4 shard;
  flags = slice_index shard 8;
  extra = slice_index shard 9;
}

-- the n shares of `size` bytes at the front
abbrev pub shares : ℕ → ℕ → List ℕ → List (List ℕ)
shares zero size bytes = []
shares (suc n) size bytes = take size bytes ∷ shares n size (drop size bytes)

-- picture data, the end of a block's data, the start of it
abbrev pub flags : ℕ → ℕ → ℕ
flags d i = 1 + (if i + 1 == d then 2 else 0) + (if i == 0 then 4 else 0)

-- a data shard: what parity covers of its packet's header, and the payload; `count` is the number of packets before it
abbrev pub data_shard : ℕ → ℕ → List ℕ → List ℕ
data_shard count flags payload =
    covered_header (record { stream_index = count % 2 ^ 24 * 256; flags = flags; extra = 0 }) ++ payload

-- of each payload, from the i-th of d data shards on
abbrev pub data_shards_from : ℕ → ℕ → ℕ → List (List ℕ) → List (List ℕ)
data_shards_from d i count [] = []
data_shards_from d i count (payload ∷ payloads) =
    data_shard count (flags d i) payload ∷ data_shards_from d (i + 1) (count + 1) payloads

-- the shards of a block whose payloads stand at the front of the image
abbrev pub block_shards : StreamSettings → BlockPlan → ℕ → List ℕ → List (List ℕ)
block_shards settings plan count image =
    with_parity_shards (video_code plan.data_shards plan.parity_shards) settings.packet
    (data_shards_from plan.data_shards 0 count (shares plan.data_shards (payload_of settings) image))
