-- Which audio units a client plays, of all the datagrams that came. Every list of what came has the newest member
-- first; what is played stands in its order.
use Rattle.std.specs.Prelude.{ℕ, ◌+◌, ◌*◌, Bool, false, ◌&&◌, not, List, [], ◌∷◌, ◌++◌, length, map, Option, Some, None}
use Rattle.std.specs.Prelude.{nat_lt, ◌==◌, if◌then◌else◌}
use Rattle.std.specs.List.{filter_map, find, list_any, range_with_len}
use Rattle.gs_rs.specs.Shape.{audio_code}
use Rattle.gs_rs.specs.Shards.{HeldShard, block_shard}
use Rattle.gs_rtp.specs.Stream.{StreamSettings}
use Rattle.gs_rtp.specs.Audio.{block_units}
use Rattle.gs_audio.specs.Received.{AudioShard, shards_of_block, received_audio, taken_audio}

abbrev pub greater_block : ℕ → Option ℕ → ℕ
greater_block block None = block
greater_block block (Some greatest) = if nat_lt greatest block then block else greatest

-- the greatest block of which something was taken
abbrev pub greatest_block : List AudioShard → Option ℕ
greatest_block [] = None
greatest_block (r ∷ rs) = Some (greater_block r.block (greatest_block rs))

-- A block is left once something of a greater block was taken.
abbrev pub is_block_left : ℕ → Option ℕ → Bool
is_block_left block None = false
is_block_left block (Some greatest) = nat_lt block greatest

-- the shard is among those that are held of its block
abbrev pub is_audio_held : ℕ → List HeldShard → Bool
is_audio_held index held = list_any (λ s. s.index == index) held

-- A shard counts, behind those taken before it and those of its block that are held: its block isn't left, it isn't
-- held, and fewer shards are held than a block has units.
abbrev pub is_shard_counted : AudioShard → Option ℕ → List HeldShard → Bool
is_shard_counted r greatest held =
    not (is_block_left r.block greatest) && not (is_audio_held r.shard.index held) && nat_lt (length held) block_units

-- those that count, of what was taken
unfoldable pub counting_shards : List AudioShard → List AudioShard
counting_shards [] = []
counting_shards (r ∷ rs) =
    if is_shard_counted r (greatest_block rs)
    (shards_of_block r.block (counting_shards rs)) then r ∷ counting_shards rs else counting_shards rs

-- a unit that is played: its number in the session, from 0, and its bytes
pub record PlayedUnit : Type 0 where
  pub number : ℕ
  pub bytes : List ℕ

-- the number of the unit in a place of a block
abbrev pub unit_number : ℕ → ℕ → ℕ
unit_number block place = block * block_units + place

-- of a block of which four shards are held, its four units: those of the one block that has these shards
abbrev pub whole_units : ℕ → ℕ → List HeldShard → List PlayedUnit
whole_units size block held =
    map (λ i. record { number = unit_number block i; bytes = block_shard audio_code size held i })
    (range_with_len 0 block_units)

abbrev pub audio_unit_at : ℕ → ℕ → Option HeldShard → Option PlayedUnit
audio_unit_at block place None = None
audio_unit_at block place (Some s) = Some (record { number = unit_number block place; bytes = s.bytes })

-- the units among the shards that are held of a block
abbrev pub held_units : ℕ → List HeldShard → List PlayedUnit
held_units block held =
    filter_map (λ i. audio_unit_at block i (find (λ s. s.index == i) held)) (range_with_len 0 block_units)

-- what a block plays when it is left: the units that are held, where fewer than four shards are
abbrev pub played_of_left : ℕ → List HeldShard → List PlayedUnit
played_of_left block held = if nat_lt (length held) block_units then held_units block held else []

-- what a shard plays that joins those held of its block: all four units, where it counts as the fourth
abbrev pub played_of_joined : StreamSettings → AudioShard → Option ℕ → List HeldShard → List PlayedUnit
played_of_joined settings r greatest held =
    if is_shard_counted r greatest held && length (r.shard ∷ held) == block_units
    then whole_units settings.audio r.block (r.shard ∷ held)
    else []

-- what one more shard plays, by the greatest block before it and by what counted
abbrev pub played_behind : StreamSettings → AudioShard → Option ℕ → List AudioShard → List PlayedUnit
played_behind settings r None counted = []
played_behind settings r (Some greatest) counted =
    if nat_lt greatest r.block
    then played_of_left greatest (shards_of_block greatest counted)
    else played_of_joined settings r (Some greatest) (shards_of_block r.block counted)

abbrev pub played_by_taken : StreamSettings → List AudioShard → Option AudioShard → List PlayedUnit
played_by_taken settings before None = []
played_by_taken settings before (Some r) = played_behind settings r (greatest_block before) (counting_shards before)

-- What one more datagram plays, of any bytes, behind all that came before it.
unfoldable pub newly_played : StreamSettings → List ℕ → List (List ℕ) → List PlayedUnit
newly_played settings bytes came =
    played_by_taken settings (taken_audio settings came) (received_audio settings bytes)

-- The units that are played, of all the datagrams that came, in their order.
unfoldable pub played : StreamSettings → List (List ℕ) → List PlayedUnit
played settings [] = []
played settings (bytes ∷ came) = played settings came ++ newly_played settings bytes came
