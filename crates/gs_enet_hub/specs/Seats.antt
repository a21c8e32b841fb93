-- Seats one by one.
use Rattle.std.specs.Prelude.{ℕ, ◌≡◌, Option, Some, None, IsSome}
use Rattle.gs_bytes.specs.declared.addr.Addr.{Addr}
use Rattle.gs_enet_hub.specs.declared.limits.TheConstants.{MOST_PEERS}
use Rattle.gs_enet_hub.specs.declared.seat.Seat.{Seat}

-- the most connections at one time
abbrev pub most_peers : ℕ
most_peers = MOST_PEERS

-- the seat is taken by the connection with that address and connect id
abbrev pub IsSeatOf : Addr → ℕ → Option Seat → Type 0
IsSeatOf from connect_id None = ⊥
IsSeatOf from connect_id (Some seat) = (seat.from ≡ from) × (seat.connect_id ≡ connect_id)

abbrev pub IsTaken : Option Seat → Type 0
IsTaken seat = IsSome seat
