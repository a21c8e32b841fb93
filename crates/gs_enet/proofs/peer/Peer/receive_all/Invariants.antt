use Rattle.std.proofs.Common.{◌≡◌, length}
use Rattle.gs_enet.specs.Record.{PeerRecord}
use Rattle.gs_enet.specs.Receive.{all_received}
use Rattle.gs_enet.specs.Standing.{IsPeerOf}
use Rattle.gs_enet.specs.Rooms.{HasRooms}
use Rattle.gs_enet.proofs.peer.Peer.receive_all.Given as goal

abbrev pub invariant-commands : goal.invariant-commands
invariant-commands l = record {
  room : HasRooms (length l.rest.items) l.self;
  stands : (r : PeerRecord) → IsPeerOf l.initial.self r → (t : PeerRecord) × IsPeerOf l.self t
      × (all_received l.sent l.rest.items t ≡ all_received l.sent l.initial.rest.items r);
}

abbrev pub decreases-commands : goal.decreases-commands
decreases-commands l = length l.rest.items
