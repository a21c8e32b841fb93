use Rattle.std.proofs.Common.{refl, sym, subst, ◌∙◌}
use Rattle.gs_enet.specs.Standing.{IsPeerOf}
use Rattle.gs_enet.proofs.Arrivals.{disconnect-again, disconnect-first}
use Rattle.gs_enet.proofs.peer.Peer.disconnect_came.Goals as goal

pub returns-clause-stands : goal.returns-clause-stands
returns-clause-stands c = λ r s.
    subst (IsPeerOf c.owe-2.new.self) (sym (disconnect-first c.args.answer r (s.disconnected ∙ c.if-self.false)))
    (c.owe-2.ensures.stands _ (c.shut.ensures.stands _ (c.happen.ensures.stands _ (record {
      state = s.state;
      own = s.own;
      other = s.other;
      connect_id = s.connect_id;
      extra = s.extra;
      now = s.now;
      disconnected = refl;
      last_control = s.last_control;
      counts = s.counts;
      waiting = s.waiting;
      pending = s.pending;
      unacknowledged = s.unacknowledged;
    }))))
