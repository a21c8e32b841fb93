-- What a block's room holds of the shards that count of its block, the newest first.
use Rattle.std.specs.Prelude.{ℕ, ◌≡◌, ◌*◌, ◌<◌, ◌≤◌, false, List, [], length, take, slice_index_or, Option, Some, None}
use Rattle.gs_rtp.specs.Stream.{StreamSettings}
use Rattle.gs_rtp.specs.declared.video.VideoHead.{VideoHead}
use Rattle.gs_frames.specs.Shards.{payload_of}
use Rattle.gs_frames.specs.Received.{Received}
use Rattle.gs_frames.specs.Complete.{joined_payloads}
use Rattle.gs_fecqueue.specs.declared.block.Block.{Block}
use Rattle.gs_fecqueue.specs.Places.{shard_total, kept_payload, is_shard_held, AreShards, HasPlaced}

-- what stands at the places of the data shards
abbrev pub data_of_block : ℕ → Block → List ℕ
data_of_block size block = take (block.shards * size) block.bytes.items

-- the room of the block that they are of: its counts, and a flag for each shard that is held
pub record IsRoomOf (block : Block) (held : List Received) (first : Received) : Type 0 where
  pub shards : block.shards ≡ first.head.shards
  pub percentage : block.percentage ≡ first.head.percentage
  pub total : block.total ≡ shard_total first.head
  pub count : block.held ≡ length held
  pub flags : (i : ℕ) → i < shard_total first.head → slice_index_or block.present.items i false ≡ is_shard_held held i

-- each of them stands at its place
abbrev pub ArePlaced : StreamSettings → Block → List Received → Type 0
ArePlaced s block held = HasPlaced (payload_of s) block.bytes.items held

-- it isn't whole, and each shard that is held stands at its place
pub record IsBlockReady (s : StreamSettings) (block : Block) (held : List Received) (first : Received) : Type 0 where
  pub are : AreShards held first
  pub room : IsRoomOf block held first
  pub few : length held < first.head.shards
  pub placed : ArePlaced s block held

-- one more shard joins them, with this number and this payload
pub record IsJoined (s : StreamSettings) (held : List Received) (first r : Received) (index : ℕ) (payload : List ℕ)
    : Type 0 where
  pub index_is : r.head.index ≡ index
  pub within : index < shard_total first.head
  pub missing : is_shard_held held index ≡ false
  pub payload_is : kept_payload r ≡ payload
  pub size : length payload ≡ payload_of s

-- They are held: each at its place or, where the block is whole, all its data.
pub record HoldsShards (s : StreamSettings) (block : Block) (held : List Received) (first : Received) : Type 0 where
  pub some : 1 ≤ length held
  pub are : AreShards held first
  pub room : IsRoomOf block held first
  pub placed : length held < first.head.shards → ArePlaced s block held
  pub whole : length held ≡ first.head.shards → data_of_block (payload_of s) block ≡ joined_payloads s held first

-- What counts of a block is held, by the first that counted, where something did.
abbrev pub HoldsBlock : StreamSettings → Block → List Received → Option Received → Type 0
HoldsBlock s block held None = (held ≡ []) × (block.held ≡ 0)
HoldsBlock s block held (Some first) = HoldsShards s block held first

-- A datagram of the stream brings r: with this head and this payload.
pub record Brings (s : StreamSettings) (head : VideoHead) (payload : List ℕ) (r : Received) : Type 0 where
  pub head_is : r.head ≡ head
  pub payload_is : kept_payload r ≡ payload
  pub size : length payload ≡ payload_of s
