-- Cited by private contracts alone: a loaded frame, and what its datagrams are made of.
use Rattle.std.specs.Prelude.{ℕ, ◌≡◌, ◌≤◌, ◌<◌, ◌+◌, ◌-◌, ◌*◌, ◌%◌, ◌^◌, ◌++◌, List, take, drop, Some, true}
use Rattle.std.specs.Prelude.{if◌then◌else◌}
use Rattle.std.specs.List.{slice_get}
use Rattle.gs_bytes.specs.Limits.{most_unit}
use Rattle.gs_rtp.specs.Limits.{most_blocks, most_frame, most_shards_of_code}
use Rattle.gs_rtp.specs.Stream.{StreamSettings}
use Rattle.gs_frames.specs.Image.{frame_image, packets}
use Rattle.gs_frames.specs.ImageLaws.{IsWrittenKind}
use Rattle.gs_frames.specs.Plan.{BlockPlan, fec_plan}
use Rattle.gs_frames.specs.Shards.{CoveredHeader, covered_header, read_covered, packet_header, payload_of, flags}
use Rattle.gs_frames.specs.Shards.{shares, data_shards_from, block_shards}
use Rattle.gs_frames.specs.Datagrams.{OutgoingFrame, Place}
use Rattle.gs_split.specs.declared.shard.Covered.{Covered}
use Rattle.gs_split.specs.declared.placed.PlacedBlock.{PlacedBlock}
use Rattle.gs_split.specs.declared.frame.LoadedFrame.{LoadedFrame}
use Rattle.gs_split.specs.Plans.{blocks_of}
use Rattle.gs_split.specs.Places.{datagrams_before, placed_plan}
use Rattle.gs_split.specs.Splitting.{has_parity_at}

abbrev pub header_of : Covered → CoveredHeader
header_of c = record { stream_index = c.stream_index; flags = c.flags; extra = c.extra }

-- the frame with its unit
abbrev pub loaded_outgoing : LoadedFrame → List ℕ → OutgoingFrame
loaded_outgoing f unit = record { count = f.count; frame = f.frame; kind = f.kind; time = f.time; unit = unit }

-- the most datagrams of a frame that has parity
abbrev pub most_datagrams : ℕ
most_datagrams = most_blocks * most_shards_of_code

-- the blocks of a unit of this length
abbrev pub plans_at : StreamSettings → ℕ → List BlockPlan
plans_at s unit_length = fec_plan (packets unit_length (payload_of s)) s.percentage s.minimum

-- a frame that goes out at these settings, with its plan
pub record IsPlanned (s : StreamSettings) (f : LoadedFrame) : Type 0 where
  pub frame_least : 1 ≤ f.frame
  pub frame_greatest : f.frame ≤ most_frame
  pub written : IsWrittenKind f.kind
  pub limit : f.unit_length ≤ most_unit
  pub blocks : blocks_of f.plan ≡ plans_at s f.unit_length
  pub percentage : f.plan.percentage ≡ (if has_parity_at s f.unit_length then s.percentage else 0)
  pub datagrams : f.datagrams ≡ datagrams_before f.plan.blocks (blocks_of f.plan)

-- the image of a frame, from the first payload of a block on
abbrev pub block_image : StreamSettings → LoadedFrame → PlacedBlock → List ℕ → List ℕ
block_image s f b unit = drop (b.first_packet * payload_of s) (frame_image f.kind unit (payload_of s))

-- its data shards
abbrev pub block_data : StreamSettings → LoadedFrame → PlacedBlock → List ℕ → List (List ℕ)
block_data s f b unit =
    data_shards_from b.shards 0 (f.count + b.first_datagram) (shares b.shards (payload_of s) (block_image s f b unit))

-- its shards
abbrev pub placed_shards : StreamSettings → LoadedFrame → PlacedBlock → List ℕ → List (List ℕ)
placed_shards s f b unit = block_shards s (placed_plan b) (f.count + b.first_datagram) (block_image s f b unit)

-- a payload of the image, by its number behind the first ones
abbrev pub payload_at : ℕ → ℕ → ℕ → List ℕ → ℕ → List ℕ
payload_at size kind first unit index =
    take size (drop (index * size) (drop (first * size) (frame_image kind unit size)))

-- what parity covers of a data shard's header
abbrev pub covered_at : LoadedFrame → PlacedBlock → ℕ → CoveredHeader
covered_at f b index =
    record {
      stream_index = (f.count + b.first_datagram + index) % 2 ^ 24 * 256;
      flags = flags b.shards index;
      extra = 0;
    }

-- one of its data shards
abbrev pub data_shard_at : StreamSettings → LoadedFrame → PlacedBlock → List ℕ → ℕ → List ℕ
data_shard_at s f b unit index =
    covered_header (covered_at f b index) ++ payload_at (payload_of s) f.kind b.first_packet unit index

-- the place of a block of the frame
abbrev pub place_of : LoadedFrame → PlacedBlock → Place
place_of f b = record { frame = f.frame; time = f.time; block = b.number; last_block = f.plan.blocks - 1 }

-- the payload, and what parity covers of the packet's header, of a block's shard
pub record IsCarried (s : StreamSettings) (f : LoadedFrame) (b : PlacedBlock) (unit : List ℕ) (index : ℕ)
    (covered : Covered) (payload : List ℕ) : Type 0 where
  pub shard : List ℕ
  pub shard_is : slice_get (placed_shards s f b unit) index ≡ Some shard
  pub covered_is : header_of covered ≡ read_covered shard
  pub payload_is : payload ≡ drop packet_header shard

-- what a splitter's fields have: room for the shards of any frame with parity, and, of a frame that is loaded, its plan
-- and as many kept bytes as its shards take
pub record IsFrameSound (s : StreamSettings) (f : LoadedFrame) (kept capacity : ℕ) : Type 0 where
  pub room : 0 < s.percentage → most_datagrams * s.packet ≤ capacity
  pub planned : 0 < f.datagrams → IsPlanned s f
  pub enough : 0 < f.datagrams → has_parity_at s f.unit_length ≡ true → f.datagrams * s.packet ≤ kept
