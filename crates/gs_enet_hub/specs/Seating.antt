-- Which connections there are: a key for each, at which its peer and the other side's name stand.
use Rattle.std.specs.Prelude.{ℕ, ◌≡◌, ◌≢◌, ◌==◌, ◌<◌, Bool, true, false, List, length, Option, Some, None, is_some}
use Rattle.std.specs.Prelude.{IsSome, slice_index_or}
use Rattle.slab.specs.Slab.{Slab, get, with_value}
use Rattle.gs_bytes.specs.declared.addr.Addr.{Addr}
use Rattle.gs_enet.specs.declared.peer.Peer.{Peer}
use Rattle.gs_enet_hub.specs.declared.seat.Seat.{Seat}
use Rattle.gs_enet_hub.specs.Seats.{most_peers}

-- the seat of each key, and the peers where the seats say that they stand
pub record Seating : Type 0 where
  pub seats : List (Option Seat)
  pub peers : Slab Peer

-- a connection: the other side's address, the connect id that it chose (`connectID`), and the peer
pub record Member : Type 0 where
  pub from : Addr
  pub connect_id : ℕ
  pub peer : Peer

abbrev pub member_at : Option Peer → Addr → ℕ → Option Member
member_at None from connect_id = None
member_at (Some p) from connect_id = Some (record { from = from; connect_id = connect_id; peer = p })

abbrev pub seated : Slab Peer → Option Seat → Option Member
seated peers None = None
seated peers (Some seat) = member_at (get peers seat.place) seat.from seat.connect_id

abbrev pub seat_of : List (Option Seat) → ℕ → Option Seat
seat_of seats key = slice_index_or seats key None

-- the connection of a key, if it is live
abbrev pub member : Seating → ℕ → Option Member
member s key = seated s.peers (seat_of s.seats key)

abbrev pub peer_of : Option Member → Option Peer
peer_of None = None
peer_of (Some m) = Some m.peer

-- every key has the connection that it had
abbrev pub SameMembers : Seating → Seating → Type 0
SameMembers old new = (key : ℕ) → member new key ≡ member old key

-- ---- what holds of every hub

abbrev pub is_seat_held : Slab Peer → Option Seat → Bool
is_seat_held peers None = true
is_seat_held peers (Some seat) = is_some (get peers seat.place)

abbrev pub is_shared : Option Seat → Option Seat → Bool
is_shared None other = false
is_shared (Some seat) None = false
is_shared (Some seat) (Some other) = seat.place == other.place

-- there is a seat for each key; each seat that is taken has its peer, which no other has
pub record IsSeating (seats : List (Option Seat)) (peers : Slab Peer) : Type 0 where
  pub all : length seats ≡ most_peers
  pub held : (key : ℕ) → is_seat_held peers (seat_of seats key) ≡ true
  pub apart : (key other : ℕ) → is_shared (seat_of seats key) (seat_of seats other) ≡ true → key ≡ other

-- ---- a peer that is lent

-- where the peer of a key stands, and a place without one where the key isn't live
abbrev pub place_if : ℕ → Option Seat → ℕ
place_if none None = none
place_if none (Some seat) = seat.place

abbrev pub with_peer : Seating → ℕ → Peer → Seating
with_peer s key p = record s { peers = with_value s.peers (place_if s.peers.capacity (seat_of s.seats key)) p }

abbrev pub with_own : Option Member → Peer → Option Member
with_own None p = None
with_own (Some m) p = Some (record m { peer = p })

-- the connection of the key has that peer, and every other key the connection that it had
pub record PutsPeer (old new : Seating) (key : ℕ) (p : Peer) : Type 0 where
  pub own : member new key ≡ with_own (member old key) p
  pub others : (k : ℕ) → k ≢ key → member new k ≡ member old k
