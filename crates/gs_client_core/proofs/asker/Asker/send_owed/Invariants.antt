use Rattle.std.proofs.Common.{◌≡◌, drop}
use Rattle.gs_enet.specs.Record.{PeerRecord}
use Rattle.gs_enet.specs.Standing.{IsPeerOf}
use Rattle.gs_client_core.proofs.Gone.{HaveGoneOn}
use Rattle.gs_client_core.proofs.asker.Asker.send_owed.Given as goal

-- so many went so far
abbrev pub invariant-owed : goal.invariant-owed
invariant-owed l =
    (l.self ≡ drop l.gone l.fn.self) × ((r : PeerRecord) → IsPeerOf l.fn.peer r → HaveGoneOn r l.fn.self l.gone l.peer)
