-- What an object that is read tells of itself, in one record.
use Rattle.std.specs.Prelude.{ℕ, ◌≤◌, Bool, List, Option, length}
use Rattle.std.specs.Io.KnownBytes.{Appends, Consumes}
use Rattle.gs_bytes.specs.declared.outside.Outside.{Ghosts as OutsideOf}

-- the bytes left, those read, and whether a read met the end
pub record Told : Type 0 where
  pub left : Option (List ℕ)
  pub taken : Option (List ℕ)
  pub met_end : Option Bool

-- what an object tells, by the members that its type has
abbrev pub outside_told : {X : Type 0} → OutsideOf X → X → Told
outside_told members object = record {
  left = members.left object;
  taken = members.taken object;
  met_end = members.met_end object;
}

-- at most so many bytes were read, which are gone from what was left
abbrev pub TakesUpTo : ℕ → Told → Told → Type 0
TakesUpTo most before now =
    (bytes : List ℕ) × (length bytes ≤ most)
    × Consumes before.left now.left bytes × Appends before.taken now.taken bytes
