-- What the calls of an object of the outside do to its count of faults and to its end. What was
-- read, written and is left is said by std's words on bytes that may be unknown.
use Rattle.std.specs.Prelude.{◌≡◌, ◌<◌, List, length, take, ℕ, zero, suc, ◌+◌, ◌-◌, ◌^◌, ◌≤◌, min, Bool, true, Option}
use Rattle.std.specs.Prelude.{None, Some, Result, Ok, Err, ⊤}
use Rattle.std.specs.Io.KnownBytes.{Appends}
use Rattle.gs_bytes.specs.declared.failed.Failed.{Failed}
use Rattle.gs_bytes.specs.declared.failed.Failed.TheVariants.{Fault, NoMemory}

-- a count rose, or stood at its last value
abbrev pub Rose : ℕ → ℕ → Type 0
Rose before now = min (before + 1) (2 ^ 64 - 1) ≤ now

-- a read counts a fault that it answers, and nothing else
abbrev pub IsCounted : ℕ → ℕ → Result ℕ Failed → Type 0
IsCounted before now (Ok n) = now ≡ before
IsCounted before now (Err Fault) = Rose before now
IsCounted before now (Err NoMemory) = now ≡ before

-- a write counts a fault that it answers and one where it takes nothing, and nothing else
abbrev pub IsCountedWrite : ℕ → ℕ → Result ℕ Failed → Type 0
IsCountedWrite before now (Ok zero) = Rose before now
IsCountedWrite before now (Ok (suc n)) = now ≡ before
IsCountedWrite before now (Err Fault) = Rose before now
IsCountedWrite before now (Err NoMemory) = now ≡ before

-- a flag that is told stays as it was
abbrev pub KeepsFlag : Option Bool → Option Bool → Type 0
KeepsFlag None now = ⊤
KeepsFlag (Some b) None = ⊥
KeepsFlag (Some b) (Some c) = c ≡ b

-- a flag that is told is set
abbrev pub SetsFlag : Option Bool → Option Bool → Type 0
SetsFlag None now = ⊤
SetsFlag (Some b) None = ⊥
SetsFlag (Some b) (Some c) = c ≡ true

-- a read that gives nothing meets the end, and any other leaves whether a read did
abbrev pub MeetsEnd : Option Bool → Option Bool → Result ℕ Failed → Type 0
MeetsEnd before now (Ok zero) = SetsFlag before now
MeetsEnd before now (Ok (suc n)) = KeepsFlag before now
MeetsEnd before now (Err e) = KeepsFlag before now

-- some of the bytes were appended from their front, and not all of them
abbrev pub AppendsPart : Option (List ℕ) → Option (List ℕ) → List ℕ → Type 0
AppendsPart old new bytes = (n : ℕ) × (n < length bytes) × Appends old new (take n bytes)
