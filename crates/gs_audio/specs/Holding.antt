-- What a room holds of the shards that count of its block.
use Rattle.std.specs.Prelude.{ℕ, ◌≡◌, ◌<◌, Bool, true, false, ◌||◌, List, length, slice_index_or, Option, Some, None}
use Rattle.std.specs.Prelude.{◌==◌, if◌then◌else◌}
use Rattle.gs_rs.specs.Codeword.{shard_of}
use Rattle.gs_rs.specs.Shards.{HeldShard}
use Rattle.gs_rtp.specs.Audio.{block_units}
use Rattle.gs_audio.specs.declared.room.Room.{Room}
use Rattle.gs_audio.specs.Played.{PlayedUnit, whole_units, held_units}
use Rattle.gs_audio.specs.Places.{AreAudioShards, HasMarks, HasPlacedAudio, HasRestored}

-- what stands at a place of the room
abbrev pub shard_in : Room → ℕ → List ℕ
shard_in room place = shard_of room.size room.bytes.items place

-- each of them stands at the place of its number, which is marked
pub record AreInRoom (room : Room) (held : List HeldShard) : Type 0 where
  pub marks : HasMarks room.present held
  pub places : HasPlacedAudio room.size room.bytes.items held

-- the units of the block that they fix stand at their places, which are marked
pub record HasUnits (room : Room) (held : List HeldShard) : Type 0 where
  pub marks : (i : ℕ) → i < block_units → slice_index_or room.present i false ≡ true
  pub units : HasRestored room.size room.bytes.items held

-- They are held: each at its place or, where they fix the block, all its units.
pub record HoldsAudioShards (room : Room) (held : List HeldShard) : Type 0 where
  pub count : room.held ≡ length held
  pub are : AreAudioShards held
  pub placed : length held < block_units → AreInRoom room held
  pub whole : length held ≡ block_units → HasUnits room held

-- the units that stand in a room: all of a block that is fixed, else those that are held
abbrev pub room_units : ℕ → ℕ → List HeldShard → List PlayedUnit
room_units size block held =
    if length held == block_units then whole_units size block held else held_units block held

-- the unit in a place of a room, where it is marked
abbrev pub marked_unit : Room → ℕ → Option (List ℕ)
marked_unit room place = if slice_index_or room.present place false then Some (shard_in room place) else None

-- a unit's place is marked
abbrev pub any_marked : List Bool → Bool
any_marked marks =
    slice_index_or marks 0 false || slice_index_or marks 1 false || slice_index_or marks 2 false
    || slice_index_or marks 3 false
