-- The shards of a block that are held, the newest first, and how they stand in a room.
use Rattle.std.specs.Prelude.{ℕ, ◌≡◌, ◌≢◌, ◌+◌, ◌<◌, ◌≤◌, Bool, false, List, length, drop, slice_index_or, All}
use Rattle.std.specs.Prelude.{AllPairs, ◌==◌}
use Rattle.std.specs.List.{list_any}
use Rattle.gs_rs.specs.Codeword.{shard_of}
use Rattle.gs_rtp.specs.declared.video.VideoHead.{VideoHead}
use Rattle.gs_rtp.specs.Video.{IsVideoHead, parity_count}
use Rattle.gs_frames.specs.Shards.{packet_header}
use Rattle.gs_frames.specs.Received.{Received}

-- how many shards a block has whose datagrams have this head
abbrev pub shard_total : VideoHead → ℕ
shard_total head = head.shards + parity_count head.shards head.percentage

-- what is kept of a shard
abbrev pub kept_payload : Received → List ℕ
kept_payload r = drop packet_header r.shard

-- one of them has this number
abbrev pub is_shard_held : List Received → ℕ → Bool
is_shard_held held index = list_any (λ r. r.head.index == index) held

-- shards of one block, as many as it has data shards at most, no two of one number; a head that is in the grammar says
-- the block's counts
pub record AreShards (held : List Received) (first : Received) : Type 0 where
  pub grammar : IsVideoHead first.head
  pub enough : length held ≤ first.head.shards
  pub indices : All (λ r. r.head.index < shard_total first.head) held
  pub distinct : AllPairs (λ r t. r.head.index ≢ t.head.index) held

-- a flag for each shard of the block, set where it is held
pub record HasFlagsOf (flags : List Bool) (held : List Received) (first : Received) : Type 0 where
  pub count : length flags ≡ shard_total first.head
  pub each : (i : ℕ) → i < shard_total first.head → slice_index_or flags i false ≡ is_shard_held held i

-- each of them stands at its place, where payloads have this size
abbrev pub HasPlaced : ℕ → List ℕ → List Received → Type 0
HasPlaced size bytes held = All (λ r. shard_of size bytes r.head.index ≡ kept_payload r) held
