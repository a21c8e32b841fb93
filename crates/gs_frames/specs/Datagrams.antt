-- The datagrams of a frame. A frame is a list of shards, each with the head of its datagram: its datagrams are the
-- bytes of that list, and what a client receives of them is the list itself.
use Rattle.std.specs.Prelude.{ℕ, ◌+◌, ◌-◌, ◌*◌, ◌%◌, ◌^◌, List, [], ◌∷◌, ◌++◌, length, drop, map}
use Rattle.gs_rtp.specs.Stream.{StreamSettings}
use Rattle.gs_rtp.specs.declared.video.VideoHead.{VideoHead}
use Rattle.gs_rtp.specs.Video.{video_header}
use Rattle.gs_frames.specs.Image.{frame_image, packets}
use Rattle.gs_frames.specs.Plan.{fec_plan, BlockPlan}
use Rattle.gs_frames.specs.Shards.{packet_header, payload_of, read_covered, block_shards}
use Rattle.gs_frames.specs.Received.{Received}

-- the datagram with this head that carries this shard: the head's bytes, in which what the shard begins with stands at
-- its places, and the payload
abbrev pub datagram_of : Received → List ℕ
datagram_of r = video_header r.head ++ drop packet_header r.shard

-- which block of a frame, from a tick of this time in ms, and which is the last one
pub record Place : Type 0 where
  pub frame : ℕ
  pub time : ℕ
  pub block : ℕ
  pub last_block : ℕ

abbrev pub next_block : Place → Place
next_block place = record place { block = place.block + 1 }

-- the head of the datagram of a block's shard, by its index in the block and the number of datagrams before it
abbrev pub shard_head : StreamSettings → Place → BlockPlan → ℕ → ℕ → List ℕ → VideoHead
shard_head settings place plan count index shard = record {
  sequence = count % 2 ^ 16;
  timestamp = place.time * 90 % 2 ^ 32;
  ssrc = settings.ssrc;
  stream_index = (read_covered shard).stream_index;
  frame = place.frame;
  flags = (read_covered shard).flags;
  extra = (read_covered shard).extra;
  multi_flags = 0x10;
  block = place.block;
  last_block = place.last_block;
  shards = plan.data_shards;
  index = index;
  percentage = plan.percentage;
}

-- a shard with that head
abbrev pub headed_shard : StreamSettings → Place → BlockPlan → ℕ → ℕ → List ℕ → Received
headed_shard settings place plan count index shard =
    record { head = shard_head settings place plan count index shard; shard = shard }

-- the shards of a block, from this index on
abbrev pub headed_shards : StreamSettings → Place → BlockPlan → ℕ → ℕ → List (List ℕ) → List Received
headed_shards settings place plan count index [] = []
headed_shards settings place plan count index (shard ∷ shards) =
    headed_shard settings place plan count index shard
    ∷ headed_shards settings place plan (count + 1) (index + 1) shards

-- block after block, each with the next payloads of the image
abbrev pub headed_blocks : StreamSettings → Place → ℕ → List BlockPlan → List ℕ → List Received
headed_blocks settings place count [] image = []
headed_blocks settings place count (plan ∷ plans) image =
    headed_shards settings place plan count 0 (block_shards settings plan count image)
    ++ headed_blocks settings (next_block place) (count + plan.data_shards + plan.parity_shards) plans
    (drop (plan.data_shards * payload_of settings) image)

abbrev pub unit_plan : StreamSettings → List ℕ → List BlockPlan
unit_plan settings unit = fec_plan (packets (length unit) (payload_of settings)) settings.percentage settings.minimum

-- a frame that goes out: how many datagrams of its session went out before it, its number, its kind, the time of its
-- tick in ms, and its unit
pub record OutgoingFrame : Type 0 where
  pub count : ℕ
  pub frame : ℕ
  pub kind : ℕ
  pub time : ℕ
  pub unit : List ℕ

-- its first block, of as many as the plan has
abbrev pub first_place : OutgoingFrame → List BlockPlan → Place
first_place out plans = record { frame = out.frame; time = out.time; block = 0; last_block = length plans - 1 }

-- its shards, each with the head of its datagram
unfoldable pub frame_shards : StreamSettings → OutgoingFrame → List Received
frame_shards settings out =
    headed_blocks settings (first_place out (unit_plan settings out.unit)) out.count (unit_plan settings out.unit)
    (frame_image out.kind out.unit (payload_of settings))

-- Its datagrams.
unfoldable pub frame_datagrams : StreamSettings → OutgoingFrame → List (List ℕ)
frame_datagrams settings out = map datagram_of (frame_shards settings out)
