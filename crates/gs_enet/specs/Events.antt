-- Cited by private contracts alone: which events are messages.
use Rattle.gs_enet.specs.declared.event.PeerEvent.{PeerEvent}
use Rattle.gs_enet.specs.declared.event.PeerEvent.TheVariants as event

-- an event that is no message
abbrev pub IsQuiet : PeerEvent → Type 0
IsQuiet (event.Message c n bytes) = ⊥
IsQuiet event.Connected = Unit {0}
IsQuiet event.Closed = Unit {0}
IsQuiet event.PeerClosed = Unit {0}
IsQuiet (event.Lost c n) = Unit {0}
