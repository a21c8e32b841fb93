-- What a call of a peer did, over a record that the peer stood for.
use Rattle.std.specs.Prelude.{ℕ, ◌≡◌, ◌++◌, true, false, List, [], length, drop, Option, Some, None, Result, Ok, Err}
use Rattle.gs_enet.specs.declared.event.PeerEvent.{PeerEvent}
use Rattle.gs_enet.specs.declared.peer.Peer.{Peer}
use Rattle.gs_enet.specs.declared.send_error.SendError.{SendError}
use Rattle.gs_enet.specs.declared.send_error.SendError.TheVariants.{NotOpen, WindowFull, OutOfMemory}
use Rattle.gs_enet.specs.declared.take_error.TakeError.{TakeError}
use Rattle.gs_enet.specs.declared.take_error.TakeError.TheVariants as take_error
use Rattle.gs_enet_wire.specs.declared.datagram.Datagram.{Datagram}
use Rattle.gs_enet_wire.specs.Grammar.{SpellsDatagram, IsFaultAt, spelling}
use Rattle.gs_enet.specs.Write.{going_out, next_datagram, wrote_next}
use Rattle.gs_enet.specs.Receive.{datagram_taken}
use Rattle.gs_enet.specs.Record.{PeerRecord, at_moment}
use Rattle.gs_enet.specs.Steps.{is_open, is_full, can_send, next_number, with_message, next_event, told_next}
use Rattle.gs_enet.specs.Standing.{IsPeerOf}

abbrev pub Sends : PeerRecord → ℕ → List ℕ → Result ℕ SendError → Peer → Type 0
Sends r channel bytes (Ok number) new = (can_send r channel ≡ true) × (number ≡ next_number r channel)
    × IsPeerOf new (with_message channel bytes r)
Sends r channel bytes (Err NotOpen) new = (is_open r.state ≡ false) × IsPeerOf new r
Sends r channel bytes (Err WindowFull) new = (is_open r.state ≡ true) × (is_full r channel ≡ true) × IsPeerOf new r
Sends r channel bytes (Err OutOfMemory) new = (can_send r channel ≡ true) × IsPeerOf new r

pub record TellsNext (r : PeerRecord) (answer : Option PeerEvent) (new : Peer) : Type 0 where
  pub answer_is : answer ≡ next_event r
  pub stands : IsPeerOf new (told_next r)

-- the bytes are a datagram, and the peer did what its commands say
pub record PeerTakes (bytes : List ℕ) (now : ℕ) (old new : Peer) : Type 0 where
  pub datagram : Datagram
  pub spelled : SpellsDatagram bytes datagram
  pub stands : (r : PeerRecord) → IsPeerOf old r → IsPeerOf new (datagram_taken datagram now r)

-- why a datagram wasn't taken
abbrev pub IsTakeFault : List ℕ → TakeError → Type 0
IsTakeFault bytes (take_error.BadDatagram place) = IsFaultAt bytes place
IsTakeFault bytes take_error.OutOfMemory = Unit {0}

-- The next datagram at that moment was written, if anything is to be written. Its bytes are the datagram's one
-- spelling in which each ignored bit is 0, and are read again as that datagram.
pub record WritesDatagram (r : PeerRecord) (now size : ℕ) (new : Peer) (before after : List ℕ) : Type 0 where
  pub datagram : Datagram
  pub is_next : next_datagram now r ≡ Some datagram
  pub stands : IsPeerOf new (wrote_next now r)
  pub sized : size ≡ length (spelling datagram)
  pub written : after ≡ spelling datagram ++ drop size before
  pub spelled : SpellsDatagram (spelling datagram) datagram

abbrev pub WritesNext : PeerRecord → ℕ → Option ℕ → Peer → List ℕ → List ℕ → Type 0
WritesNext r now None new before after = (going_out (at_moment now r) ≡ []) × IsPeerOf new (wrote_next now r)
    × (after ≡ before)
WritesNext r now (Some size) new before after = WritesDatagram r now size new before after
