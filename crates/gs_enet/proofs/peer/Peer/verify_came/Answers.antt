use Rattle.std.proofs.Common.{◌≡◌, ◌++◌, List, Some, not, refl, sym, subst, ap, ◌∙◌}
use Rattle.std.specs.Prelude.{is_some}
use Rattle.std.specs.List.{filter}
use Rattle.gs_enet.specs.declared.state.PeerState.TheVariants as state
use Rattle.gs_enet.specs.Record.{Unacknowledged}
use Rattle.gs_enet.specs.Receive.{is_connect}
use Rattle.gs_enet.specs.Standing.{IsPeerOf}
use Rattle.gs_enet.proofs.Arrivals.{verify-is, held_without_connect}
use Rattle.gs_enet.proofs.peer.Peer.verify_came.Goals as goal

pub returns-in-Connecting-clause-stands : goal.returns-in-Connecting-clause-stands
returns-in-Connecting-clause-stands c = λ r s.
    let p = c.args.self.now in
    subst (IsPeerOf c.owe.new.self)
    (sym (verify-is state.Connecting c.args.peer c.args.connect_id c.args.answer r (ap is_some s.extra ∙ c.if-is_none.ensures)
    (c.if-connect_id-self.false ∙ sym s.connect_id) (s.state ∙ c.in-Connecting.is)))
    (c.owe.ensures.stands _ (c.happen.ensures.stands _ (record {
      state = refl;
      own = s.own;
      other = refl;
      connect_id = s.connect_id;
      extra = s.extra;
      now = s.now;
      disconnected = s.disconnected;
      last_control = s.last_control;
      counts = s.counts;
      waiting = s.waiting;
      pending = s.pending;
      unacknowledged = ap (filter (λ (u : Unacknowledged). not (is_connect u.order))) s.unacknowledged
          ∙ held_without_connect p c.drop_connect.new.held c.drop_connect.ensures;
    })))
