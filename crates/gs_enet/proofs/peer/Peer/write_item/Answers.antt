use Rattle.std.proofs.Common.{◌≡◌, [], length, refl, sym, subst, ap, ◌∙◌, arith, inl, inr}
use Rattle.std.specs.List.{filter}
use Rattle.std.proofs.lemmas.Bool.{eqb-true}
use Rattle.gs_enet.specs.declared.control.Control.{Control}
use Rattle.std.proofs.Common.{Option}
use Rattle.std.proofs.lemmas.List.{nil_from_length}
use Rattle.gs_enet.specs.declared.peer.Peer.{Peer}
use Rattle.gs_enet.specs.declared.state.PeerState.{PeerState}
use Rattle.gs_enet.specs.Record.{is_shut}
use Rattle.gs_enet.specs.Write.{is_due}
use Rattle.gs_enet.specs.Controls.{control_held}
use Rattle.gs_enet.proofs.Firsts.{none_first}
use Rattle.gs_enet.proofs.peer.Peer.write_item.Goals as goal

pub returns-in_default-find_busy-clause-written : goal.returns-in_default-find_busy-clause-written
returns-in_default-find_busy-clause-written c = λ r s.
    let p : Peer = c.args.self.now in
    let q : Peer = c.find_busy.new.self in
    let same = c.find_busy.ensures.same in
    let nil : p.pending.items ≡ [] =
    nil_from_length p.pending.items (let ok = p.pending.ok.0 in omega (arith, eqb-true p.pending.len 0 (sym c.if-not-is_empty.ensures), ok)) in
    let stands = same.stands r s in (
      inl (none_first q r stands (same.pending ∙ nil) (ap is_shut same.state ∙ sym c.if-is_shut.ensures)
          (ap (λ (k : Option Control). filter is_due (control_held k)) same.control ∙ c.in_default.ensures.none)
          c.in_default-find_busy.ensures.none),
      stands,
      refl,
    )

pub returns-clause-written : goal.returns-clause-written
returns-clause-written c = λ r s. c.write_message.ensures.written r (c.find_busy.ensures.same.stands r s)
