use Rattle.std.proofs.Common.{refl, sym, subst}
use Rattle.gs_enet.specs.Standing.{IsPeerOf}
use Rattle.gs_enet.proofs.Acknowledging.{connected-accepting, connected-other}
use Rattle.gs_enet.proofs.peer.Peer.accepted.Goals as goal

pub returns-then-is_accepting-clause-stands : goal.returns-then-is_accepting-clause-stands
returns-then-is_accepting-clause-stands c = λ r s.
    subst (IsPeerOf c.happen.new.self) (sym (connected-accepting r c.args.self.now.state s.state (sym c.if-is_accepting.ensures)))
    (c.happen.ensures.stands _ (record {
      state = refl;
      own = s.own;
      other = s.other;
      connect_id = s.connect_id;
      extra = s.extra;
      now = s.now;
      disconnected = s.disconnected;
      last_control = s.last_control;
      counts = s.counts;
      waiting = s.waiting;
      pending = s.pending;
      unacknowledged = s.unacknowledged;
    }))

pub returns-else-is_accepting-clause-stands : goal.returns-else-is_accepting-clause-stands
returns-else-is_accepting-clause-stands c = λ r s.
    subst (IsPeerOf c.args.self.now) (sym (connected-other r c.args.self.now.state s.state (sym c.if-is_accepting.ensures))) s
