-- Records at work, computed.
use Rattle.std.proofs.Common.{ℕ, ◌≡◌, List, [], ◌∷◌, refl, Option, Some, None}
use Rattle.gs_enet_wire.specs.declared.datagram.Datagram.{Datagram}
use Rattle.gs_enet_wire.specs.Grammar.{spelling}
use Rattle.gs_enet.specs.declared.event.PeerEvent.TheVariants as event
use Rattle.gs_enet.specs.declared.state.PeerState.TheVariants as state
use Rattle.gs_enet.specs.Record.{PeerRecord, connecting, accepting, told, heard}
use Rattle.gs_enet.specs.Receive.{command_received, datagram_taken}
use Rattle.gs_enet.specs.Steps.{with_message, closed, told_next, timed}
use Rattle.gs_enet.specs.Write.{next_items, wrote_next, next_datagram}

-- a datagram's bytes, none where there is no datagram
abbrev bytes_of : Option Datagram → List ℕ
bytes_of None = []
bytes_of (Some d) = spelling d

-- a datagram is read at moment 0
abbrev reading : Option Datagram → PeerRecord → PeerRecord
reading None r = r
reading (Some d) r = datagram_taken d 0 r

-- ---- the handshake: connect, its answer, and the acknowledgement of that

abbrev client : PeerRecord
client = connecting 0 1 1 0

abbrev host : PeerRecord
host = accepting 0 0 1 0

connect : bytes_of (next_datagram 0 client) ≡
    0x8F ∷ 0xFF ∷ 0 ∷ 0 ∷ 0x82 ∷ 0xFF ∷ 0 ∷ 1 ∷ 0 ∷ 0 ∷ 0 ∷ 0 ∷ 0 ∷ 0 ∷ 5 ∷ 0x70 ∷ 0 ∷ 1 ∷ 0 ∷ 0 ∷ 0 ∷ 0 ∷ 0 ∷ 48 ∷ 0 ∷ 0 ∷ 0 ∷ 0 ∷ 0 ∷ 0 ∷ 0 ∷ 0
    ∷ 0 ∷ 0 ∷ 0x13 ∷ 0x88 ∷ 0 ∷ 0 ∷ 0 ∷ 2 ∷ 0 ∷ 0 ∷ 0 ∷ 2 ∷ 0 ∷ 0 ∷ 0 ∷ 1 ∷ 0 ∷ 0 ∷ 0 ∷ 1 ∷ []
unfolding next_items
connect = refl

abbrev client_up : PeerRecord
unfolding next_items wrote_next command_received
client_up = reading (next_datagram 0 host) (wrote_next 0 client)

is_up : client_up.waiting ≡ event.Connected ∷ []
unfolding client_up next_items wrote_next command_received
is_up = refl

acknowledged : bytes_of (next_datagram 0 client_up) ≡ 0x80 ∷ 0 ∷ 0 ∷ 0 ∷ 1 ∷ 0xFF ∷ 0 ∷ 1 ∷ 0 ∷ 1 ∷ 0 ∷ 0 ∷ []
unfolding client_up next_items wrote_next command_received
acknowledged = refl

abbrev host_up : PeerRecord
unfolding client_up next_items wrote_next command_received
host_up = told_next (reading (next_datagram 0 client_up) (wrote_next 0 host))

host_is_up : (host_up.state ≡ state.Connected) × (told host_up 2 ≡ []) × (host_up.unacknowledged ≡ [])
unfolding host_up client_up next_items wrote_next command_received told_next
host_is_up = (refl, refl, refl)

-- ---- a message and its acknowledgement, on channel 2

abbrev ready : PeerRecord
unfolding client_up next_items wrote_next told_next command_received
ready = told_next (wrote_next 0 client_up)

abbrev given_key : PeerRecord
unfolding ready client_up next_items wrote_next told_next command_received with_message
given_key = with_message 2 (6 ∷ 2 ∷ 0 ∷ 0 ∷ 0 ∷ 10 ∷ 3 ∷ 0 ∷ 0 ∷ 0 ∷ 0 ∷ 0x41 ∷ 0 ∷ 0 ∷ 0 ∷ 0 ∷ []) ready

key : bytes_of (next_datagram 0 given_key) ≡
    0x80 ∷ 0 ∷ 0 ∷ 0 ∷ 0x86 ∷ 2 ∷ 0 ∷ 1 ∷ 0 ∷ 0x10 ∷ 6 ∷ 2 ∷ 0 ∷ 0 ∷ 0 ∷ 10 ∷ 3 ∷ 0 ∷ 0 ∷ 0 ∷ 0 ∷ 0x41 ∷ 0 ∷ 0 ∷ 0 ∷ 0 ∷ []
unfolding given_key ready client_up next_items wrote_next told_next command_received with_message
key = refl

abbrev told_key : PeerRecord
unfolding given_key ready host_up client_up next_items wrote_next told_next command_received with_message
told_key = told_next (reading (next_datagram 0 given_key) host_up)

key_is_told : told told_key 2 ≡ (6 ∷ 2 ∷ 0 ∷ 0 ∷ 0 ∷ 10 ∷ 3 ∷ 0 ∷ 0 ∷ 0 ∷ 0 ∷ 0x41 ∷ 0 ∷ 0 ∷ 0 ∷ 0 ∷ []) ∷ []
unfolding told_key given_key ready host_up client_up next_items wrote_next told_next command_received with_message
key_is_told = refl

key_is_acknowledged : bytes_of (next_datagram 0 told_key) ≡ 0x80 ∷ 0 ∷ 0 ∷ 0 ∷ 1 ∷ 2 ∷ 0 ∷ 1 ∷ 0 ∷ 1 ∷ 0 ∷ 0 ∷ []
unfolding told_key given_key ready host_up client_up next_items wrote_next told_next command_received with_message
key_is_acknowledged = refl

-- a message that comes again is acknowledged again and not told again
key_again : heard (reading (next_datagram 0 given_key) told_key) ≡ heard told_key
unfolding told_key given_key ready host_up client_up next_items wrote_next told_next command_received with_message
key_again = refl

-- ---- resends: after 500 ms, and then after 1,000

abbrev in_wait : PeerRecord
unfolding given_key ready client_up next_items wrote_next told_next command_received with_message
in_wait = wrote_next 10 given_key

not_yet : next_datagram 509 (timed 509 in_wait) ≡ None
unfolding in_wait given_key ready client_up next_items wrote_next told_next command_received with_message timed
not_yet = refl

again : bytes_of (next_datagram 510 (timed 510 in_wait)) ≡
    0x80 ∷ 0 ∷ 1 ∷ 0xFE ∷ 0x86 ∷ 2 ∷ 0 ∷ 1 ∷ 0 ∷ 0x10 ∷ 6 ∷ 2 ∷ 0 ∷ 0 ∷ 0 ∷ 10 ∷ 3 ∷ 0 ∷ 0 ∷ 0 ∷ 0 ∷ 0x41 ∷ 0 ∷ 0 ∷ 0 ∷ 0 ∷ []
unfolding in_wait given_key ready client_up next_items wrote_next told_next command_received with_message timed
again = refl

second_wait : next_datagram 1509 (timed 1509 (wrote_next 510 (timed 510 in_wait))) ≡ None
unfolding in_wait given_key ready client_up next_items wrote_next told_next command_received with_message timed
second_wait = refl

-- ---- a close: the disconnect waits for the acknowledgement of the message

abbrev leaving_client : PeerRecord
unfolding in_wait given_key ready client_up next_items wrote_next told_next command_received with_message closed
leaving_client = closed in_wait

nothing_yet : next_datagram 10 leaving_client ≡ None
unfolding leaving_client in_wait given_key ready client_up next_items wrote_next told_next command_received with_message closed
nothing_yet = refl

abbrev gone : PeerRecord
unfolding leaving_client told_key in_wait given_key ready host_up client_up next_items wrote_next told_next command_received with_message closed
gone = reading (next_datagram 0 told_key) leaving_client

disconnect : bytes_of (next_datagram 10 gone) ≡ 0x80 ∷ 0 ∷ 0 ∷ 10 ∷ 0x84 ∷ 0xFF ∷ 0 ∷ 2 ∷ 0 ∷ 0 ∷ 0 ∷ 0 ∷ []
unfolding gone leaving_client told_key in_wait given_key ready host_up client_up next_items wrote_next told_next command_received with_message closed
disconnect = refl

abbrev left_host : PeerRecord
unfolding gone leaving_client told_key in_wait given_key ready host_up client_up next_items wrote_next told_next command_received with_message closed
left_host = reading (next_datagram 10 gone) (wrote_next 0 told_key)

host_is_left : (left_host.state ≡ state.Shut) × (left_host.waiting ≡ event.PeerClosed ∷ [])
unfolding left_host gone leaving_client told_key in_wait given_key ready host_up client_up next_items wrote_next told_next command_received with_message closed
host_is_left = (refl, refl)

client_is_gone : heard (reading (next_datagram 10 left_host) gone) ≡ event.Connected ∷ event.Closed ∷ []
unfolding left_host gone leaving_client told_key in_wait given_key ready host_up client_up next_items wrote_next told_next command_received with_message closed
client_is_gone = refl
