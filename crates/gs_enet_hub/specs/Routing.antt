-- Which connection a datagram is for.
use Rattle.std.specs.Prelude.{ℕ, ◌≡◌, ◌≢◌, ◌⊎◌, ◌==◌, ◌<◌, Bool, true, false, List, [], ◌∷◌, Option, Some, None, IsSome}
use Rattle.std.specs.Prelude.{Result, Ok, Err}
use Rattle.gs_bytes.specs.declared.addr.Addr.{Addr}
use Rattle.gs_enet_wire.specs.declared.command.Command.{Command}
use Rattle.gs_enet_wire.specs.declared.command.Command.TheVariants as command
use Rattle.gs_enet_wire.specs.declared.command.Connect.{Connect}
use Rattle.gs_enet_wire.specs.declared.datagram.Datagram.{Datagram}
use Rattle.gs_enet_wire.specs.Grammar.{SpellsDatagram, IsFaultAt}
use Rattle.gs_enet.specs.declared.peer.Peer.{Peer}
use Rattle.gs_enet.specs.Record.{nobody, accepting}
use Rattle.gs_enet.specs.Standing.{IsPeerOf}
use Rattle.gs_enet_hub.specs.declared.route_error.RouteError.{RouteError}
use Rattle.gs_enet_hub.specs.declared.route_error.RouteError.TheVariants as route_error
use Rattle.gs_enet_hub.specs.Seating.{Seating, Member, member, SameMembers}
use Rattle.gs_enet_hub.specs.Seats.{most_peers}

-- ---- connect datagrams

abbrev pub connect_if : Bool → List Command → Option Connect
connect_if true (command.Connect c ∷ cs) = Some c
connect_if true (_ ∷ cs) = None
connect_if true [] = None
connect_if false cs = None

-- the request of a connect datagram, which is addressed to no peer and begins with a CONNECT
abbrev pub request_of : Datagram → Option Connect
request_of d = connect_if (d.peer == nobody) d.commands

-- ---- connections by name

abbrev pub HasAddress : Addr → Option Member → Type 0
HasAddress from None = ⊥
HasAddress from (Some m) = m.from ≡ from

abbrev pub HasName : Addr → ℕ → Option Member → Type 0
HasName from connect_id None = ⊥
HasName from connect_id (Some m) = (m.from ≡ from) × (m.connect_id ≡ connect_id)

-- no live key has that address and connect id
abbrev pub IsNewcomer : Seating → Addr → ℕ → Type 0
IsNewcomer s from connect_id = (key : ℕ) → HasName from connect_id (member s key) → ⊥

abbrev pub IsLive : Seating → ℕ → Type 0
IsLive s key = IsSome (member s key)

abbrev pub IsHubFull : Seating → Type 0
IsHubFull s = (key : ℕ) → key < most_peers → IsLive s key

-- the least key that isn't live
pub record IsLeastFree (s : Seating) (key : ℕ) : Type 0 where
  pub below : key < most_peers
  pub free : member s key ≡ None
  pub least : (k : ℕ) → k < key → IsLive s k

-- a peer was made for the request at the least key that wasn't live, which is the peer's own id
pub record Joins (c : Connect) (from : Addr) (now key : ℕ) (old new : Seating) : Type 0 where
  pub least : IsLeastFree old key
  pub peer : Peer
  pub made : member new key ≡ Some (record { from = from; connect_id = c.connect_id; peer = peer })
  pub stands : IsPeerOf peer (accepting key c.peer c.connect_id now)
  pub others : (k : ℕ) → k ≢ key → member new k ≡ member old k

-- ---- the answers

-- A request that came before goes to its connection. A new one makes a connection, unless there are as many as can be.
abbrev pub RoutesRequest : Connect → Addr → ℕ → Seating → Result ℕ RouteError → Seating → Type 0
RoutesRequest c from now old (Ok key) new =
    (HasName from c.connect_id (member old key) × SameMembers old new)
    ⊎ (IsNewcomer old from c.connect_id × Joins c from now key old new)
RoutesRequest c from now old (Err route_error.HubFull) new = IsNewcomer old from c.connect_id × IsHubFull old
    × SameMembers old new
RoutesRequest c from now old (Err route_error.OutOfMemory) new = SameMembers old new
RoutesRequest c from now old (Err route_error.NoPeer) new = ⊥
RoutesRequest c from now old (Err (route_error.BadDatagram place)) new = ⊥

-- Any other datagram goes to the key that it is addressed to, if its sender is that connection's.
abbrev pub RoutesOther : ℕ → Addr → Seating → Result ℕ RouteError → Seating → Type 0
RoutesOther id from old (Ok key) new = (key ≡ id) × HasAddress from (member old id) × SameMembers old new
RoutesOther id from old (Err route_error.NoPeer) new = (HasAddress from (member old id) → ⊥) × SameMembers old new
RoutesOther id from old (Err route_error.OutOfMemory) new = SameMembers old new
RoutesOther id from old (Err route_error.HubFull) new = ⊥
RoutesOther id from old (Err (route_error.BadDatagram place)) new = ⊥

abbrev pub RoutesIf : Option Connect → ℕ → Addr → ℕ → Seating → Result ℕ RouteError → Seating → Type 0
RoutesIf (Some c) id from now old answer new = RoutesRequest c from now old answer new
RoutesIf None id from now old answer new = RoutesOther id from old answer new

abbrev pub Routes : Datagram → Addr → ℕ → Seating → Result ℕ RouteError → Seating → Type 0
Routes d from now old answer new = RoutesIf (request_of d) d.peer from now old answer new

-- why bytes weren't routed, as far as they themselves say it
abbrev pub IsRouteFault : List ℕ → RouteError → Type 0
IsRouteFault bytes (route_error.BadDatagram place) = IsFaultAt bytes place
IsRouteFault bytes route_error.NoPeer = (d : Datagram) × SpellsDatagram bytes d
IsRouteFault bytes route_error.HubFull = (d : Datagram) × SpellsDatagram bytes d
IsRouteFault bytes route_error.OutOfMemory = Unit {0}
