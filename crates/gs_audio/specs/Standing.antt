-- What a queue stands for: all the datagrams that came.
use Rattle.std.specs.Prelude.{ℕ, ◌≡◌, ◌*◌, ◌%◌, List, [], Option, Some, None, ◌==◌, if◌then◌else◌}
use Rattle.gs_rs.specs.Shards.{HeldShard}
use Rattle.gs_rtp.specs.Stream.{StreamSettings, numbers_of}
use Rattle.gs_rtp.specs.Audio.{block_units}
use Rattle.gs_audio.specs.declared.queue.AudioQueue.{AudioQueue}
use Rattle.gs_audio.specs.declared.queue.Plays.{Plays}
use Rattle.gs_audio.specs.declared.queue.Plays.TheVariants.{Nothing, Left, Whole}
use Rattle.gs_audio.specs.declared.room.Room.{Room}
use Rattle.gs_audio.specs.Received.{AudioShard, shards_of_block, taken_audio}
use Rattle.gs_audio.specs.Played.{PlayedUnit, greatest_block, counting_shards}
use Rattle.gs_audio.specs.Holding.{HoldsAudioShards, room_units}

-- Of what was taken, the shards that count of the greatest block are held.
pub record IsAudioStanding (q : AudioQueue) (settings : StreamSettings) (rs : List AudioShard) : Type 0 where
  pub settings_are : numbers_of q.settings ≡ settings
  pub greatest : q.block ≡ greatest_block rs
  pub holds :
      (block : ℕ) → greatest_block rs ≡ Some block
      → HoldsAudioShards q.current (shards_of_block block (counting_shards rs))

-- It stands for all the datagrams that came, the newest first.
abbrev pub IsAudioQueueOf : AudioQueue → StreamSettings → List (List ℕ) → Type 0
IsAudioQueueOf q settings came = IsAudioStanding q settings (taken_audio settings came)

-- the units are those that stand in a room, as those of a block whose first unit has this number
pub record AreUnitsIn (room : Room) (first : ℕ) (units : List PlayedUnit) : Type 0 where
  pub held : List HeldShard
  pub holds : HoldsAudioShards room held
  pub block : ℕ
  pub first_is : first ≡ block * block_units
  pub are : units ≡ room_units room.size block held

-- what is played is these units
abbrev pub PlaysUnits : AudioQueue → Plays → List PlayedUnit → Type 0
PlaysUnits q Nothing units = units ≡ []
PlaysUnits q (Left first) units = AreUnitsIn q.left first units
PlaysUnits q (Whole first) units = AreUnitsIn q.current first units

-- what a block plays that was left, where so many of its shards are held
abbrev pub left_plays : Option ℕ → ℕ → Plays
left_plays None held = Nothing
left_plays (Some block) held = if held == block_units then Nothing else Left (block * block_units)

-- it is the number of a block's first unit
abbrev pub FirstIsOfBlock : Plays → Type 0
FirstIsOfBlock Nothing = Unit {0}
FirstIsOfBlock (Left first) = first % block_units ≡ 0
FirstIsOfBlock (Whole first) = first % block_units ≡ 0
