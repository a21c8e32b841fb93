-- The bytes of a capture file that is in order: a head, the ticks, the end mark. Numbers are
-- little-endian.
use Rattle.std.specs.Prelude.{ℕ, List, [], ◌∷◌, ◌++◌, length, codes}
use Rattle.std.specs.List.{flat_map, concat}
use Rattle.byteorder.specs.Endian.{little_bytes}
use Rattle.gs_tape.specs.Tick.{Tick, Delta}

-- the magic, the length of an audio unit, the duration of one in ms, a zero
abbrev pub head : ℕ → ℕ → List ℕ
head audio duration = codes "GSTAPE01" ++ little_bytes 2 audio ++ duration ∷ 0 ∷ []

-- a unit behind its length
abbrev pub unit : List ℕ → List ℕ
unit bytes = little_bytes 4 (length bytes) ++ bytes

abbrev pub delta : Delta → List ℕ
delta d = little_bytes 4 d.named ++ unit d.unit

-- a tag, the time, two counts, the units; audio units have the head's length and no length of their own
abbrev pub tick : Tick → List ℕ
tick t =
    0x54 ∷ little_bytes 4 t.time ++ length t.audio ∷ length t.deltas ∷ unit t.idr
    ++ flat_map delta t.deltas ++ concat t.audio

abbrev pub file : ℕ → ℕ → List Tick → List ℕ
file audio duration ticks = head audio duration ++ flat_map tick ticks ++ 0x45 ∷ []
