-- Cited by private contracts alone: what the steps of a block's room do to it.
use Rattle.std.specs.Prelude.{ℕ, ◌≡◌, ◌≢◌, ◌+◌, ◌<◌, true, false, List, length, slice_set, slice_index_or}
use Rattle.gs_rs.specs.Codeword.{shard_of}
use Rattle.gs_rtp.specs.declared.video.VideoHead.{VideoHead}
use Rattle.gs_fecqueue.specs.declared.block.Block.{Block}
use Rattle.gs_fecqueue.specs.Places.{shard_total}

-- it has the counts of another block, of which nothing is held
pub record IsStarted (after : Block) (head : VideoHead) : Type 0 where
  pub shards : after.shards ≡ head.shards
  pub percentage : after.percentage ≡ head.percentage
  pub total : after.total ≡ shard_total head
  pub count : after.held ≡ 0
  pub flags : (i : ℕ) → i < shard_total head → slice_index_or after.present.items i false ≡ false

-- its counts are as before
pub record HasCountsOf (before after : Block) : Type 0 where
  pub shards : after.shards ≡ before.shards
  pub percentage : after.percentage ≡ before.percentage
  pub total : after.total ≡ before.total

-- one more shard is held, at its place, and the others stay
pub record IsPut (before after : Block) (index : ℕ) (payload : List ℕ) : Type 0 where
  pub counts : HasCountsOf before after
  pub count : after.held ≡ before.held + 1
  pub flags : after.present.items ≡ slice_set before.present.items index true
  pub itself : shard_of (length payload) after.bytes.items index ≡ payload
  pub others :
      (i : ℕ) → i ≢ index
      → shard_of (length payload) after.bytes.items i ≡ shard_of (length payload) before.bytes.items i

-- its bytes alone may have changed
pub record KeepsHeld (before after : Block) : Type 0 where
  pub counts : HasCountsOf before after
  pub count : after.held ≡ before.held
  pub flags : after.present.items ≡ before.present.items
