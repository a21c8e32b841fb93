-- What a call puts on a link, on the link's own list.
use Rattle.std.specs.Prelude.{◌≡◌, List, ◌++◌, map, Option, None, Some, ⊤, ℕ}
use Rattle.gs_bytes.specs.declared.addr.Addr.{Addr}
use Rattle.gs_bytes.specs.declared.link.Link.{Ghosts as LinkOf}
use Rattle.gs_bytes.specs.declared.link.LinkEntry.{LinkEntry}
use Rattle.gs_bytes.specs.declared.link.LinkEntry.TheVariants.{Put}
use Rattle.gs_bytes.specs.declared.link.Waiting.{Waiting}
use Rattle.gs_bytes.specs.Link.{Tells, KeepsWaiting}
use Rattle.gs_bytes.specs.Prefix.{IsPrefixOf}

-- what a link tells of itself: what happened on it, and what waits to be taken
pub record LinkTold : Type 0 where
  pub entries : Option (List LinkEntry)
  pub waiting : Option (List Waiting)

-- by the members that its type has
abbrev pub link_told : {X : Type 0} → LinkOf X → X → LinkTold
link_told members link = record { entries = members.entries link; waiting = members.waiting link }

-- these datagrams were put to an address, in order, behind what was on the list
abbrev pub AddsPuts : Option (List LinkEntry) → Option (List LinkEntry) → Addr → List (List ℕ) → Type 0
AddsPuts None now to datagrams = ⊤
AddsPuts (Some before) now to datagrams = Tells now (before ++ map (λ bytes. Put to bytes) datagrams)

-- and what waits is as before
pub record PutsAll (before now : LinkTold) (to : Addr) (datagrams : List (List ℕ)) : Type 0 where
  pub entries : AddsPuts before.entries now.entries to datagrams
  pub waiting : KeepsWaiting before.waiting now.waiting

-- a front of them was put
pub record PutsFront (before now : LinkTold) (to : Addr) (datagrams : List (List ℕ)) : Type 0 where
  pub front : List (List ℕ)
  pub is_front : IsPrefixOf front datagrams
  pub put : PutsAll before now to front

-- What a link gained is what a stream gained: whole,
pub record Gains (before now : LinkTold) (to : Addr) (old new : List (List ℕ)) : Type 0 where
  pub gained : List (List ℕ)
  pub grows : new ≡ old ++ gained
  pub put : PutsAll before now to gained

-- or a front of it
pub record GainsFront (before now : LinkTold) (to : Addr) (old new : List (List ℕ)) : Type 0 where
  pub gained : List (List ℕ)
  pub grows : new ≡ old ++ gained
  pub put : PutsFront before now to gained
