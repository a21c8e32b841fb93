-- How what a depack stands for goes on where it isn't told of a datagram.
use Rattle.std.specs.Prelude.{ℕ, ◌≡◌, ◌≤◌, true, List, ◌∷◌, ◌++◌, Some, None, is_some}
use Rattle.gs_depack.specs.declared.depack.Depack.{Depack}
use Rattle.gs_depack.specs.Depack.{Handing, IsDepackOf, IsMove}
use Rattle.gs_fecqueue.specs.declared.moved.Moved.{Moved}
use Rattle.gs_fecqueue.specs.Moves.{moved_by}
use Rattle.gs_frames.specs.Client.{ClientSettings, Arrival, Datagram}
use Rattle.gs_frames.specs.Received.{Received, IsReceived, taken, greatest}
use Rattle.gs_frames.specs.Complete.{complete}
use Rattle.gs_frames.specs.Kept.{Kept, kept}
use Rattle.gs_frames.specs.Handed.{Handed, handed, newly_handed}

-- A datagram that isn't taken, or neither is of a greater frame nor completes one, changes nothing.
abbrev pub DatagramChangesNothing : Type 0
DatagramChangesNothing =
    (d : Depack) (c : ClientSettings) (came : List Arrival) (bytes : List ℕ) → IsDepackOf d c came
    → greatest (taken c (Datagram bytes ∷ came)) ≡ greatest (taken c came)
    → ((f : ℕ) → complete c (taken c (Datagram bytes ∷ came)) f ≡ complete c (taken c came) f)
    → IsDepackOf d c (Datagram bytes ∷ came)

-- A frame that a datagram completes, and that isn't greater than all before it, is to be noted.
abbrev pub DatagramCompletesFrame : Type 0
DatagramCompletesFrame =
    (d : Depack) (c : ClientSettings) (came : List Arrival) (bytes : List ℕ) (r : Received) → IsDepackOf d c came
    → IsReceived c.stream bytes r → 1 ≤ r.head.frame → r.head.frame ≤ greatest (taken c came)
    → complete c (taken c came) r.head.frame ≡ None
    → is_some (complete c (taken c (Datagram bytes ∷ came)) r.head.frame) ≡ true
    → Handing d c (Datagram bytes ∷ came) (Some r.head.frame) (handed c came)

-- Where the frame isn't complete, nothing is to be noted.
abbrev pub NothingToNote : Type 0
NothingToNote =
    (d : Depack) (c : ClientSettings) (came : List Arrival) (f : ℕ) (given : List Handed)
    → Handing d c came (Some f) given → complete c (taken c came) f ≡ None → Handing d c came None given

-- What was handed behind the frames handed before an arrival is what the arrival hands.
abbrev pub HandedSinceIsNewlyHanded : Type 0
HandedSinceIsNewlyHanded =
    (c : ClientSettings) (arrival : Arrival) (came : List Arrival) (hs : List Handed)
    → handed c came ++ hs ≡ handed c (arrival ∷ came) → hs ≡ newly_handed c arrival came

-- the numbers of what a client keeps are the depack's
pub record KeepsNumbers (d : Depack) (state : Kept) : Type 0 where
  pub is_greatest : d.greatest ≡ state.greatest
  pub is_settled : d.settled ≡ state.settled
  pub last : d.last_handed ≡ state.last_handed
  pub waits : d.waits_for_idr ≡ state.waits_for_idr

-- A depack keeps these numbers of what its client keeps.
abbrev pub StandingKeepsNumbers : Type 0
StandingKeepsNumbers =
    (d : Depack) (c : ClientSettings) (came : List Arrival) → IsDepackOf d c came → KeepsNumbers d (kept c came)

-- a datagram that moves the window on
pub record MovesOn (moved : Moved) (c : ClientSettings) (came : List Arrival) (bytes : List ℕ) : Type 0 where
  pub r : Received
  pub is_move : IsMove moved c came bytes r

-- What a queue tells of a datagram is what a depack is to be told.
abbrev pub QueueTellsMoves : Type 0
QueueTellsMoves =
    (moved : Moved) (c : ClientSettings) (came : List Arrival) (bytes : List ℕ) → moved_by c came bytes ≡ Some moved
    → MovesOn moved c came bytes
