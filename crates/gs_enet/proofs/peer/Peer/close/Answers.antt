use Rattle.std.proofs.Common.{refl, sym, subst}
use Rattle.gs_enet.specs.Standing.{IsPeerOf}
use Rattle.gs_enet.proofs.Standings.{closed-open, closed-not}
use Rattle.gs_enet.proofs.peer.Peer.close.Goals as goal

pub returns-then-is_open : goal.returns-then-is_open
returns-then-is_open c = λ r s.
    subst (IsPeerOf c.leave.new.self) (sym (closed-open r c.args.self.now.state s.state (sym c.if-is_open.ensures)))
    (c.leave.ensures.stands _ (record {
      state = refl;
      own = s.own;
      other = s.other;
      connect_id = s.connect_id;
      extra = s.extra;
      now = s.now;
      disconnected = s.disconnected;
      last_control = s.last_control;
      counts = s.counts;
      waiting = s.waiting;
      pending = s.pending;
      unacknowledged = s.unacknowledged;
    }))

pub returns-else-is_open : goal.returns-else-is_open
returns-else-is_open c = λ r s. subst (IsPeerOf c.args.self.now) (sym (closed-not r c.args.self.now.state s.state (sym c.if-is_open.ensures))) s
