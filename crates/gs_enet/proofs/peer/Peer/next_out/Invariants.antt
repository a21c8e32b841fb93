use Rattle.std.proofs.Common.{◌≤◌, ◌-◌}
use Rattle.gs_enet.specs.Record.{PeerRecord, at_moment}
use Rattle.gs_enet.specs.Standing.{IsPeerOf}
use Rattle.gs_enet.proofs.Outgoing.{HasWritten}
use Rattle.gs_enet.proofs.peer.Peer.next_out.Given as goal

abbrev pub invariant-items : goal.invariant-items
invariant-items l = record {
  so_far : (r : PeerRecord) → IsPeerOf l.fn.self r → HasWritten (at_moment l.now r) l.place l.self l.fn.out l.out;
  room : l.place ≤ 1392;
}

abbrev pub decreases-items : goal.decreases-items
decreases-items l = 1392 - l.place
