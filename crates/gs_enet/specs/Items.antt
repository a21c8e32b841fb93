-- Cited by private contracts alone: what the writer of one item did.
use Rattle.std.specs.Prelude.{ℕ, ◌≡◌, ◌≢◌, ◌⊎◌, ◌≤◌, ◌<◌, ◌+◌, ◌%◌, true, false, List, [], ◌∷◌, length, take, Option}
use Rattle.std.specs.Prelude.{Some, None, slice_index_or}
use Rattle.std.specs.List.{filter}
use Rattle.gs_enet_wire.specs.declared.command.Command.{Command}
use Rattle.gs_enet_wire.specs.declared.command.Command.TheVariants as command
use Rattle.gs_enet_wire.specs.Grammar.{command_spelling, all_fields, Fit}
use Rattle.gs_enet_wire.specs.Writing.{PutsText}
use Rattle.gs_enet.specs.Puts.{PutsIfFits}
use Rattle.gs_enet.specs.declared.channel.Channel.{Channel}
use Rattle.gs_enet.specs.declared.control.Control.{Control}
use Rattle.gs_enet.specs.declared.peer.Peer.{Peer}
use Rattle.gs_enet.specs.Record.{PeerRecord, Message, Order, Unacknowledged, channels, most_message, datagram_room}
use Rattle.gs_enet.specs.Record.{is_shut}
use Rattle.gs_enet.specs.Write.{Item, is_due, going_out, item_command, having_written}
use Rattle.gs_enet.specs.Channels.{channel_held, all_held, SameHeld, WritesFirst, HasDue}
use Rattle.gs_enet.specs.Controls.{control_held}
use Rattle.gs_enet.specs.Standing.{IsPeerOf}

-- ---- a message of a channel

-- the first message of the channel that is to be written
pub record IsFirstDue (c number : ℕ) (bytes : List ℕ) (ch : Channel) : Type 0 where
  pub u : Unacknowledged
  pub rest : List Unacknowledged
  pub front : filter is_due (channel_held c ch) ≡ u ∷ rest
  pub order : u.order ≡ record { content = Message bytes; channel = c; number = number }
  pub short : length bytes ≤ most_message

-- it was written, if it fits
abbrev pub MessageIf : ℕ → Command → ℕ → Option ℕ → Channel → Channel → List ℕ → List ℕ → Type 0
MessageIf now c place None old new before after = SameHeld old new × PutsIfFits c place None before after
MessageIf now c place (Some end) old new before after =
    WritesFirst now old new × PutsIfFits c place (Some end) before after

pub record WritesMessage (c now place : ℕ) (result : Option ℕ) (old new : Channel) (before after : List ℕ)
    : Type 0 where
  pub number : ℕ
  pub bytes : List ℕ
  pub first : IsFirstDue c number bytes old
  pub then : MessageIf now (command.Reliable c (number % 65536) true bytes) place result old new before after

-- ---- which item is the first

-- no answer is owed, the connection isn't over, and the control channel's command is to be written
pub record HasControlDue (k : Control) (p : Peer) : Type 0 where
  pub none : p.pending.items ≡ []
  pub up : is_shut p.state ≡ false
  pub held : p.control ≡ Some k
  pub due : k.due ≡ true

abbrev pub HasNoControlDue : Peer → Type 0
HasNoControlDue p = filter is_due (control_held p.control) ≡ []

-- no message of a channel before is to be written, and one of this channel is
pub record HasMessageDue (c : ℕ) (p : Peer) : Type 0 where
  pub below : c < channels
  pub before : filter is_due (all_held 0 (take c p.channels.items)) ≡ []
  pub there : (d : Channel) → HasDue (slice_index_or p.channels.items c d)

-- no message is to be written
abbrev pub HasNoneDue : Peer → Type 0
HasNoneDue p = filter is_due (all_held 0 p.channels.items) ≡ []

-- the peer is as before, but for what it noted of where messages are due
pub record IsPeerAsBefore (old new : Peer) : Type 0 where
  pub stands : (r : PeerRecord) → IsPeerOf old r → IsPeerOf new r
  pub state : new.state ≡ old.state
  pub pending : new.pending.items ≡ old.pending.items
  pub control : new.control ≡ old.control

-- ---- one item of a record

-- the first item doesn't fit; it is short, so that much stands before it
pub record IsTooLong (r : PeerRecord) (place : ℕ) : Type 0 where
  pub item : Item
  pub rest : List Item
  pub front : going_out r ≡ item ∷ rest
  pub long : datagram_room < place + length (command_spelling (item_command r item))
  pub short : length (command_spelling (item_command r item)) ≤ most_message + 6

-- the first item was written
pub record WritesItem (r : PeerRecord) (place end : ℕ) (new : Peer) (before after : List ℕ) : Type 0 where
  pub item : Item
  pub rest : List Item
  pub front : going_out r ≡ item ∷ rest
  pub fits : end ≤ datagram_room
  pub put : PutsText (command_spelling (item_command r item)) place end before after
  pub fit : Fit (all_fields (item_command r item))
  pub stands : IsPeerOf new (having_written 1 r)

-- the first item was written if it fits
abbrev pub WritesOne : PeerRecord → ℕ → Option ℕ → Peer → List ℕ → List ℕ → Type 0
WritesOne r place None new before after = ((going_out r ≡ []) ⊎ IsTooLong r place) × IsPeerOf new r × (after ≡ before)
WritesOne r place (Some end) new before after = WritesItem r place end new before after
