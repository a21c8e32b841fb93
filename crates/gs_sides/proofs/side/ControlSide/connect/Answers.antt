use Rattle.std.proofs.Common.{refl}
use Rattle.std.proofs.lemmas.Result.{IfOk-weaker}
use Rattle.gs_enet.specs.Record.{PeerRecord, connecting}
use Rattle.gs_enet.specs.Standing.{IsPeerOf}
use Rattle.gs_sides.specs.Standing.{IsSideOf}
use Rattle.gs_enet.specs.Sides.{new_side}
use Rattle.gs_sides.specs.Steps.{IsNew}
use Rattle.gs_sides.proofs.side.ControlSide.connect.Goals as goal

pub of-requires : goal.of-requires
of-requires c = λ none. none _ c.in_ok-peer.ensures

pub returns : goal.returns
returns c =
    IfOk-weaker c.of.result (λ side. (r : PeerRecord) → IsPeerOf c.in_ok-peer.peer r → IsNew r → IsSideOf side (new_side r))
    (λ side. IsSideOf side (new_side (connecting c.args.own c.args.connect_id c.args.extra c.args.now)))
    (λ side begins. begins _ c.in_ok-peer.ensures (record { given = refl; waiting = refl; up = refl })) c.of.ensures
