-- Cited by private contracts alone: what the steps of a room and of a queue do.
use Rattle.std.specs.Prelude.{ℕ, ◌≡◌, ◌≢◌, ◌+◌, Bool, true, List, ◌∷◌, slice_set, Option, Some, None, ◌==◌}
use Rattle.std.specs.Prelude.{if◌then◌else◌, nat_lt}
use Rattle.gs_rtp.specs.Stream.{StreamSettings}
use Rattle.gs_rtp.specs.declared.audio.AudioHead.{AudioHead}
use Rattle.gs_audio.specs.declared.room.Room.{Room}
use Rattle.gs_audio.specs.declared.queue.AudioQueue.{AudioQueue}
use Rattle.gs_audio.specs.declared.queue.Plays.{Plays}
use Rattle.gs_audio.specs.Received.{AudioShard}
use Rattle.gs_audio.specs.Played.{greatest_block, counting_shards, played_behind, newly_played}
use Rattle.gs_audio.specs.Holding.{shard_in}
use Rattle.gs_audio.specs.Standing.{IsAudioStanding, IsAudioQueueOf, PlaysUnits}

-- one more shard is held, at its place, and the others stay
pub record IsAudioPut (before after : Room) (index : ℕ) (shard : List ℕ) : Type 0 where
  pub size : after.size ≡ before.size
  pub count : after.held ≡ before.held + 1
  pub marks : after.present ≡ slice_set before.present index true
  pub itself : shard_in after index ≡ shard
  pub others : (i : ℕ) → i ≢ index → shard_in after i ≡ shard_in before i

-- the head of a datagram of the session
abbrev pub session_head : ℕ → Option AudioHead → Option AudioHead
session_head ssrc None = None
session_head ssrc (Some head) = if head.ssrc == ssrc then Some head else None

-- a shard of a block
abbrev pub shard_of_number : ℕ → ℕ → List ℕ → AudioShard
shard_of_number block index bytes = record { block = block; shard = record { index = index; bytes = bytes } }

-- the shard's block is greater than each of which something was taken
abbrev pub is_above : ℕ → Option ℕ → Bool
is_above block None = true
is_above block (Some greatest) = nat_lt greatest block

-- A shard is taken behind those that the queue stands for: what it plays is played, and the queue stands for it too.
abbrev pub TakesShard : AudioQueue → Plays → AudioShard → StreamSettings → List AudioShard → Type 0
TakesShard after plays r settings rs =
    PlaysUnits after plays (played_behind settings r (greatest_block rs) (counting_shards rs))
    × IsAudioStanding after settings (r ∷ rs)

-- so is a datagram
abbrev pub TakesAudioDatagram : AudioQueue → Plays → List ℕ → StreamSettings → List (List ℕ) → Type 0
TakesAudioDatagram after plays bytes settings came =
    PlaysUnits after plays (newly_played settings bytes came) × IsAudioQueueOf after settings (bytes ∷ came)
