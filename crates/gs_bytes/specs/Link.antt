-- What the calls of a link do to the list of what happened on it, where that is told, to the datagrams that wait, and
-- to the count of faults.
use Rattle.std.specs.Prelude.{◌≡◌, ◌≤◌, ℕ, Bool, true, false, if◌then◌else◌, List, [], ◌∷◌, ◌++◌, ◌-◌, length}
use Rattle.std.specs.Prelude.{slice_get, take, Option, None, Some, Result, Ok, Err, ⊤}
use Rattle.gs_bytes.specs.declared.failed.Failed.{Failed}
use Rattle.gs_bytes.specs.declared.failed.Failed.TheVariants.{Fault, NoMemory}
use Rattle.gs_bytes.specs.declared.addr.Addr.{Addr}
use Rattle.gs_bytes.specs.declared.link.LinkEntry.{LinkEntry}
use Rattle.gs_bytes.specs.declared.link.LinkEntry.TheVariants.{Put, Took, Nothing}
use Rattle.gs_bytes.specs.declared.link.Waiting.{Waiting}
use Rattle.gs_bytes.specs.declared.link.Arrived.{Arrived}
use Rattle.gs_bytes.specs.declared.link.Arrived.TheVariants as arrived
use Rattle.gs_bytes.specs.Limits.{most_on_link}
use Rattle.gs_bytes.specs.Outside.{Rose}
use Rattle.gs_bytes.specs.Memory.{Calls, no_calls}

-- a list that is told is now this one
abbrev pub Tells : {A : Type 0} → Option (List A) → List A → Type 0
Tells None now = ⊥
Tells (Some told) now = told ≡ now

-- a list that is told stays as it was
abbrev pub KeepsEntries : Option (List LinkEntry) → Option (List LinkEntry) → Type 0
KeepsEntries None now = ⊤
KeepsEntries (Some before) now = Tells now before

abbrev pub KeepsWaiting : Option (List Waiting) → Option (List Waiting) → Type 0
KeepsWaiting None now = ⊤
KeepsWaiting (Some before) now = Tells now before

-- a datagram that is put is the last entry, and a call that fails adds none
abbrev pub Puts : Option (List LinkEntry) → Option (List LinkEntry) → Result (Unit {0}) Failed → Addr → List ℕ → Type 0
Puts None now result to bytes = ⊤
Puts (Some before) now (Ok done) to bytes = Tells now (before ++ Put to bytes ∷ [])
Puts (Some before) now (Err e) to bytes = Tells now before

abbrev pub is_nothing : Option LinkEntry → Bool
is_nothing (Some Nothing) = true
is_nothing entry = false

-- whether the last entry is that nothing waited
abbrev pub ends_with_nothing : List LinkEntry → Bool
ends_with_nothing entries = is_nothing (slice_get entries (length entries - 1))

-- that nothing waited is noted, unless it is what was noted last
abbrev pub with_nothing : List LinkEntry → List LinkEntry
with_nothing entries = if ends_with_nothing entries then entries else entries ++ Nothing ∷ []

-- the datagram is the last entry
abbrev pub TakesDatagram : Option (List LinkEntry) → Option (List LinkEntry) → Addr → List ℕ → Type 0
TakesDatagram None now from bytes = ⊤
TakesDatagram (Some before) now from bytes = Tells now (before ++ Took from bytes ∷ [])

-- what was taken is the last entry
abbrev pub Takes : Option (List LinkEntry) → Option (List LinkEntry) → Result Arrived Failed → List ℕ → Type 0
Takes before now (Ok (arrived.Datagram from size)) into = (size ≤ length into)
    × TakesDatagram before now from (take size into)
Takes None now (Ok arrived.Nothing) into = ⊤
Takes (Some before) now (Ok arrived.Nothing) into = Tells now (with_nothing before)
Takes before now (Err e) into = KeepsEntries before now

-- The first of the datagrams that wait is taken, and the others still wait. None is taken exactly where none waits.
abbrev pub HasCome : Option (List Waiting) → Option (List Waiting) → Result Arrived Failed → List ℕ → Type 0
HasCome None now result into = ⊤
HasCome (Some before) None result into = ⊥
HasCome (Some before) (Some now) (Ok (arrived.Datagram from size)) into =
    before ≡ record { from = from; bytes = take size into } ∷ now
HasCome (Some before) (Some now) (Ok arrived.Nothing) into = (before ≡ []) × (now ≡ [])
HasCome (Some before) (Some now) (Err e) into = now ≡ before

-- a call counts a fault that it answers, and nothing else
abbrev pub IsCountedLink : {A : Type 0} → ℕ → ℕ → Result A Failed → Type 0
IsCountedLink before now (Ok done) = now ≡ before
IsCountedLink before now (Err Fault) = Rose before now
IsCountedLink before now (Err NoMemory) = now ≡ before

-- the datagrams that were put, in order
abbrev pub puts : List LinkEntry → List (Addr × List ℕ)
puts [] = []
puts (Put to bytes ∷ entries) = (to, bytes) ∷ puts entries
puts (entry ∷ entries) = puts entries

-- the datagrams that were taken, in order
abbrev pub takes : List LinkEntry → List (Addr × List ℕ)
takes [] = []
takes (Took from bytes ∷ entries) = (from, bytes) ∷ takes entries
takes (entry ∷ entries) = takes entries

-- a link in memory: what happened on it and what waits
pub record LinkState : Type 0 where
  pub entries : List LinkEntry
  pub waiting : List Waiting

-- a link in memory with calls that are to fail
pub record FailingLink : Type 0 where
  pub state : LinkState
  pub calls : Calls

-- nothing happened and nothing waits
abbrev pub unused : LinkState
unused = record { entries = []; waiting = [] }

-- a datagram waits behind the others
abbrev pub with_waiting : LinkState → Addr → List ℕ → LinkState
with_waiting link from bytes = record link { waiting = link.waiting ++ record { from = from; bytes = bytes } ∷ [] }

-- a datagram fits a link
abbrev pub IsWaiting : Waiting → Type 0
IsWaiting datagram = length datagram.bytes ≤ most_on_link

-- the first datagram that waits was taken, or nothing waits
abbrev pub AnswersTake : LinkState → LinkState → Arrived → List ℕ → Type 0
AnswersTake old new (arrived.Datagram from size) into =
    (size ≤ length into) × (new.entries ≡ old.entries ++ Took from (take size into) ∷ [])
    × (old.waiting ≡ record { from = from; bytes = take size into } ∷ new.waiting)
AnswersTake old new arrived.Nothing into = (old.waiting ≡ [])
    × (new ≡ record old { entries = with_nothing old.entries })
