use Rattle.std.proofs.Common.{ℕ, refl, subst}
use Rattle.std.proofs.lemmas.Result.{IfOk-weaker}
use Rattle.gs_enet.specs.Record.{PeerRecord, accepting}
use Rattle.gs_enet.specs.Standing.{IsPeerOf}
use Rattle.gs_sides.specs.Standing.{IsSideOf}
use Rattle.gs_enet.specs.Sides.{new_side}
use Rattle.gs_sides.specs.Steps.{IsNew}
use Rattle.gs_sides.proofs.side.ControlSide.accept.Goals as goal

pub of-requires : goal.of-requires
of-requires c = λ none. none _ c.in_ok-peer.ensures

pub returns : goal.returns
returns c =
    let stands : IsPeerOf c.in_ok-peer.peer (accepting c.args.own c.args.other c.args.connect_id c.args.now) =
    subst (λ (id : ℕ). IsPeerOf c.in_ok-peer.peer (accepting c.args.own c.args.other id c.args.now)) c.request.ensures.connect_id
    (subst (λ (own : ℕ). IsPeerOf c.in_ok-peer.peer (accepting c.args.own own c.request.result.connect_id c.args.now)) c.request.ensures.peer
    c.in_ok-peer.ensures) in
    IfOk-weaker c.of.result (λ side. (r : PeerRecord) → IsPeerOf c.in_ok-peer.peer r → IsNew r → IsSideOf side (new_side r))
    (λ side. IsSideOf side (new_side (accepting c.args.own c.args.other c.args.connect_id c.args.now)))
    (λ side begins. begins _ stands (record { given = refl; waiting = refl; up = refl })) c.of.ensures
