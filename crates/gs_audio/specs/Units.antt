-- Units as a call answers them.
use Rattle.std.specs.Prelude.{ℕ, suc, List, [], ◌∷◌, Option, Some, None}
use Rattle.std.specs.Borrow.{Bor}
use Rattle.gs_audio.specs.declared.played.Played.{Played}
use Rattle.gs_audio.specs.Played.{PlayedUnit}

-- those that are there, numbered by their places, the first of which has this number
abbrev pub units_from : ℕ → List (Option (Bor (List ℕ))) → List PlayedUnit
units_from number [] = []
units_from number (None ∷ units) = units_from (suc number) units
units_from number (Some unit ∷ units) = record { number = number; bytes = unit.now } ∷ units_from (suc number) units

-- the units that an answer plays
abbrev pub played_units : Played → List PlayedUnit
played_units played = units_from played.first played.units
