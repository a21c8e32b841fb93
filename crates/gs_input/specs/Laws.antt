-- The laws that the crate's public functions prove.
use Rattle.std.specs.Prelude.{◌≡◌, ℕ, ℤ, List}
use Rattle.std.specs.FinSet as set
use Rattle.gs_input.specs.declared.event.Event.{Event}
use Rattle.gs_input.specs.declared.event.Event.TheVariants.{Unknown}
use Rattle.gs_input.specs.Event.{IsEvent}
use Rattle.gs_input.specs.Packet.{IsPacket, packet_of}
use Rattle.gs_input.specs.Line.{IsLine, event_line}
use Rattle.gs_input.specs.Pressed.{down_after, was_last_down}

-- what is written for an event is a packet of that event
abbrev pub PacketIsRead : Type 0
PacketIsRead = (event : Event) → IsEvent event → IsPacket (packet_of event) event

-- the bytes are a packet of one event at most
abbrev pub PacketHasOneEvent : Type 0
PacketHasOneEvent = (bytes : List ℕ) (first second : Event) → IsPacket bytes first → IsPacket bytes second
    → first ≡ second

-- what is written for an event is a line of that event
abbrev pub LineIsRead : Type 0
LineIsRead = (event : Event) → IsEvent event → IsLine (event_line event) event

-- a line is one of one event at most
abbrev pub LineHasOneEvent : Type 0
LineHasOneEvent = (line : List ℕ) (first second : Event) → IsLine line first → IsLine line second → first ≡ second

-- what is written for an unknown event is no line of any event
abbrev pub UnknownIsNotRead : Type 0
UnknownIsNotRead = (magic : ℕ) (event : Event) → IsLine (event_line (Unknown magic)) event → ⊥

-- a code is among those that are down where the last key event of the code was a key down
abbrev pub LastKeyEventDecides : Type 0
LastKeyEventDecides = (events : List Event) (code : ℤ)
    → set.contains (down_after events) code ≡ was_last_down events code
