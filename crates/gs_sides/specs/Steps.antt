-- Cited by private contracts alone: what becomes of a peer.
use Rattle.std.specs.Prelude.{◌≡◌, ◌+◌, ℕ, Bool, false, List, [], ◌∷◌, ◌++◌, length, Option, Some, None}
use Rattle.gs_enet_wire.specs.declared.datagram.Datagram.{Datagram}
use Rattle.gs_enet_wire.specs.Grammar.{SpellsDatagram, spelling}
use Rattle.gs_enet.specs.declared.event.PeerEvent.{PeerEvent}
use Rattle.gs_enet.specs.declared.peer.Peer.{Peer}
use Rattle.gs_enet.specs.Record.{PeerRecord, at_moment, is_shut}
use Rattle.gs_enet.specs.Standing.{IsPeerOf, held_by}
use Rattle.gs_enet.specs.Steps.{is_open}
use Rattle.gs_enet.specs.Write.{due_if, going_out, next_datagram, wrote_next}
use Rattle.gs_store.specs.declared.store.Store.{Store}
use Rattle.gs_store.specs.Standing.{IsStoreOf}
use Rattle.gs_sides.specs.Openness.{open_after_all}
use Rattle.gs_enet.specs.Sides.{all_told}

-- ---- writing

-- how many items the peer has to write
abbrev pub items_due : Peer → ℕ
items_due p =
    length p.pending.items + length (due_if (is_shut p.state) (held_by p))

-- the next datagram was written, and its bytes are read as it
pub record WritesBytes (r : PeerRecord) (now : ℕ) (bytes : List ℕ) (new : Peer) : Type 0 where
  pub datagram : Datagram
  pub is_next : next_datagram now r ≡ Some datagram
  pub stands : IsPeerOf new (wrote_next now r)
  pub bytes_are : bytes ≡ spelling datagram
  pub read_again : SpellsDatagram (spelling datagram) datagram

abbrev pub WritesSome : PeerRecord → ℕ → Option (List ℕ) → Peer → Type 0
WritesSome r now None new = (going_out (at_moment now r) ≡ []) × IsPeerOf new (wrote_next now r)
WritesSome r now (Some bytes) new = WritesBytes r now bytes new

-- the item stands behind all others
abbrev pub IsPutBehind : List ℕ → Store (List ℕ) → Store (List ℕ) → Type 0
IsPutBehind item old new = (all : List (List ℕ)) → IsStoreOf old all → IsStoreOf new (all ++ item ∷ [])

-- ---- telling

-- every event that waited was told, and whether messages can be given follows from them
pub record TellsEvents (r : PeerRecord) (was : Bool) (events : List PeerEvent) (is : Bool) (new : Peer) : Type 0 where
  pub events_are : events ≡ r.waiting
  pub up : is ≡ open_after_all was r.waiting
  pub stands : IsPeerOf new (all_told r)

-- ---- a new peer

-- nothing was given or happened
pub record IsNew (r : PeerRecord) : Type 0 where
  pub given : r.given ≡ []
  pub waiting : r.waiting ≡ []
  pub up : is_open r.state ≡ false
