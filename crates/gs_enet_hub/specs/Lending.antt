-- What a hub ends as where a peer was lent.
use Rattle.std.specs.Prelude.{ℕ, Option}
use Rattle.std.specs.Borrow.{LendsIf, Fml, MutBor}
use Rattle.gs_enet.specs.declared.peer.Peer.{Peer}
use Rattle.gs_enet.specs.contracts.peer.Peer.{the_row as peer_row}
use Rattle.gs_enet_hub.specs.Seating.{Seating, with_peer}
use Rattle.gs_enet_hub.specs.contracts.hub.Hub.{the_row}

-- the key has the last peer that was left behind the reference, and nothing else changes
abbrev pub LendsPeer : MutBor Seating → ℕ → Option (MutBor Peer) → Fml
LendsPeer s key r = LendsIf the_row peer_row s r (with_peer s.now key) s.now
