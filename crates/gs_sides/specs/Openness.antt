-- Cited by private contracts alone: whether messages can be given, by the events that were told.
use Rattle.std.specs.Prelude.{Bool, true, false, List, [], ◌∷◌}
use Rattle.gs_enet.specs.declared.event.PeerEvent.{PeerEvent}
use Rattle.gs_enet.specs.declared.event.PeerEvent.TheVariants as event

abbrev pub open_after : Bool → PeerEvent → Bool
open_after was event.Connected = true
open_after was (event.Message channel number bytes) = was
open_after was event.Closed = false
open_after was event.PeerClosed = false
open_after was (event.Lost channel number) = false

abbrev pub open_after_all : Bool → List PeerEvent → Bool
open_after_all was [] = was
open_after_all was (e ∷ es) = open_after_all (open_after was e) es
