-- Two sides apart, computed: a client gives a message and closes, a host tells it.
use Rattle.std.proofs.Common.{◌≡◌, ℕ, List, [], ◌∷◌, ◌++◌, drop, refl, arith}
use Rattle.std.specs.Prelude.{Contains}
use Rattle.gs_enet_wire.specs.declared.datagram.Datagram.{Datagram}
use Rattle.gs_enet.specs.declared.event.PeerEvent.TheVariants as event
use Rattle.gs_enet.specs.Record.{told, given_on}
use Rattle.gs_enet.specs.Receive.{command_received}
use Rattle.gs_enet.specs.Steps.{with_message, closed, told_next, timed}
use Rattle.gs_enet.specs.Write.{next_items, wrote_next}
use Rattle.gs_enet.specs.World.{Client, Host}
use Rattle.gs_enet.specs.Apart.{SideCall, Sends, Takes, Tells, Times, Writes, Closes, Course, ended, put_by, TookFront}
use Rattle.gs_enet.proofs.ApartSides.{messages_in_order_apart_lem}

abbrev client : List SideCall → Course
client cs = record { opening = Client 0 1 1 0; now = 0; calls = cs }

abbrev host : List SideCall → Course
host cs = record { opening = Host 0 0 1 0; now = 0; calls = cs }

abbrev taking : List Datagram → List SideCall
taking [] = []
taking (d ∷ ds) = Takes d ∷ taking ds

-- the host writes its answer to the connect
abbrev host_first : List SideCall
host_first = Writes ∷ []

-- the client reads it, gives two messages, lets time be looked at, and closes
abbrev client_first : List SideCall
unfolding next_items wrote_next command_received with_message
client_first =
    Writes ∷ taking (put_by (ended (host host_first)))
    ++ Writes ∷ Sends 2 (7 ∷ 8 ∷ []) ∷ Writes ∷ Sends 2 (9 ∷ []) ∷ Times ∷ Writes ∷ Closes ∷ Writes ∷ []

-- the host reads all of that, tells and answers
abbrev host_second : List SideCall
unfolding client_first next_items wrote_next command_received with_message timed closed
host_second = host_first ++ taking (put_by (ended (client client_first))) ++ Tells ∷ Tells ∷ Tells ∷ Writes ∷ []

host_told : told (ended (host host_second)).peer 2 ≡ (7 ∷ 8 ∷ []) ∷ (9 ∷ []) ∷ []
unfolding host_second client_first next_items wrote_next command_received with_message timed closed told_next
host_told = refl

-- the client reads the answers and disconnects
abbrev client_second : List SideCall
unfolding host_second client_first next_items wrote_next command_received with_message timed closed told_next
client_second = client_first ++ taking (drop 1 (put_by (ended (host host_second)))) ++ Writes ∷ []

-- the host reads that
abbrev host_third : List SideCall
unfolding client_second host_second client_first next_items wrote_next command_received with_message timed closed told_next
host_third = host_second ++ taking (drop 4 (put_by (ended (client client_second)))) ++ Tells ∷ Writes ∷ []

abbrev client_end : Course
unfolding client_second host_second client_first next_items wrote_next command_received with_message timed closed told_next
client_end = client client_second

abbrev host_end : Course
unfolding host_third client_second host_second client_first next_items wrote_next command_received with_message timed closed told_next
host_end = host host_third

-- the host took all that the client put; the client all but the answer to its disconnect
host_took : TookFront host_end client_end
unfolding client_end host_end host_third client_second host_second client_first next_items wrote_next command_received with_message timed closed told_next
host_took = ([], refl)

client_took : TookFront client_end host_end
unfolding client_end host_end host_third client_second host_second client_first next_items wrote_next command_received with_message timed closed told_next
client_took = (drop 2 (put_by (ended host_end)), refl)

host_is_left : (ended host_end).peer.told ≡ event.Connected ∷ event.Message 2 1 (7 ∷ 8 ∷ []) ∷ event.Message 2 2 (9 ∷ []) ∷ event.PeerClosed ∷ []
unfolding host_end host_third client_second host_second client_first next_items wrote_next command_received with_message timed closed told_next
host_is_left = refl

closed_is_told : Contains (ended host_end).peer.told event.PeerClosed
unfolding host_end host_third client_second host_second client_first next_items wrote_next command_received with_message timed closed told_next
closed_is_told = (3, omega arith, refl)

-- so the law says that all was told, on every channel
all_told : (channel : ℕ) → told (ended host_end).peer channel ≡ given_on channel (ended client_end).peer.given
all_told = (messages_in_order_apart_lem client_end host_end client_took host_took).0.whole closed_is_told
