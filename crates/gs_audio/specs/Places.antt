-- The shards of a block that are held, the newest first, and how they stand in a room.
use Rattle.std.specs.Prelude.{ℕ, ◌≡◌, ◌≢◌, ◌<◌, ◌≤◌, Bool, false, List, length, slice_index_or, All, AllPairs}
use Rattle.gs_rs.specs.Shape.{audio_code}
use Rattle.gs_rs.specs.Codeword.{shard_of}
use Rattle.gs_rs.specs.Shards.{HeldShard, block_shard}
use Rattle.gs_rtp.specs.Audio.{block_units}
use Rattle.gs_audio.specs.Played.{is_audio_held}

-- how many shards a block has
abbrev pub shards_end : ℕ
shards_end = 6

-- shards of one block, no two of one number, at most as many as fix it
pub record AreAudioShards (held : List HeldShard) : Type 0 where
  pub few : length held ≤ block_units
  pub indices : All (λ s. s.index < shards_end) held
  pub distinct : AllPairs (λ s t. s.index ≢ t.index) held

-- the numbers of those that are held are marked
abbrev pub HasMarks : List Bool → List HeldShard → Type 0
HasMarks marks held = (i : ℕ) → i < shards_end → slice_index_or marks i false ≡ is_audio_held i held

-- each of them stands at the place of its number
abbrev pub HasPlacedAudio : ℕ → List ℕ → List HeldShard → Type 0
HasPlacedAudio size bytes held = All (λ s. shard_of size bytes s.index ≡ s.bytes) held

-- the units of the block that they fix stand at their places
abbrev pub HasRestored : ℕ → List ℕ → List HeldShard → Type 0
HasRestored size bytes held =
    (i : ℕ) → i < block_units → shard_of size bytes i ≡ block_shard audio_code size held i
