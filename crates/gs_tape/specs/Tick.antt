-- What a capture file holds: ticks, each with the unit of a picture coded by itself, units coded
-- against earlier ticks, and audio units. A unit is a list of bytes.
use Rattle.std.specs.Prelude.{ℕ, zero, suc, ◌+◌, List, length, Option, None, slice_get}
use Rattle.std.specs.List.{sum_by}

-- a unit that is decoded with the picture of an earlier tick, which it names
pub record Delta : Type 0 where
  pub named : ℕ
  pub unit : List ℕ

-- one moment of the capture; times are milliseconds, numbers count from 1
pub record Tick : Type 0 where
  pub number : ℕ
  pub time : ℕ
  pub idr : List ℕ
  pub deltas : List Delta
  pub audio : List (List ℕ)

-- the tick of a number, from 1, of a capture
abbrev pub tick_numbered : List Tick → ℕ → Option Tick
tick_numbered ticks zero = None
tick_numbered ticks (suc before) = slice_get ticks before

-- the bytes of all units of a tick
abbrev pub unit_bytes : Tick → ℕ
unit_bytes t = length t.idr + sum_by (λ d. length d.unit) t.deltas + sum_by (λ unit. length unit) t.audio
