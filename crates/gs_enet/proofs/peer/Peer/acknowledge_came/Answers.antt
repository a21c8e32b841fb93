use Rattle.std.proofs.Common.{◌<◌, ◌≤◌, refl, sym, subst, arith}
use Rattle.gs_enet.specs.Standing.{IsPeerOf}
use Rattle.gs_enet.proofs.Acknowledging.{nowhere_named, channel_drops, channel_keeps}
use Rattle.gs_enet.proofs.peer.Peer.acknowledge_came.Goals as goal

pub returns-then-place-len-clause-stands : goal.returns-then-place-len-clause-stands
returns-then-place-len-clause-stands c = λ r s.
    let p = c.args.self.now in
    let all = p.all in
    let at = c.from-place.ensures in
    subst (IsPeerOf p) (sym (nowhere_named p r c.args.channel c.args.number s (omega (arith, all, at)) c.if-channel-eq-CONTROL.false)) s

pub returns-then-acknowledge-clause-stands : goal.returns-then-acknowledge-clause-stands
returns-then-acknowledge-clause-stands c = λ r s.
    let p = c.args.self.now in
    let all = p.all in
    let at = c.from-place.ensures in
    let below : c.args.channel < 48 = omega (arith, all, at) in
    let drop = channel_drops p r c.args.channel c.from-place.result c.args.number c.index_mut-acknowledged.result.now c.acknowledge.new.self s below at
    c.index_mut-acknowledged.ensures.value c.if-acknowledge.ensures.drops in
    subst (IsPeerOf c.leave.new.self) (sym drop.0)
    (c.leave.ensures.stands _ (record {
      state = s.state;
      own = s.own;
      other = s.other;
      connect_id = s.connect_id;
      extra = s.extra;
      now = s.now;
      disconnected = s.disconnected;
      last_control = s.last_control;
      counts = drop.1;
      waiting = s.waiting;
      pending = s.pending;
      unacknowledged = drop.2;
    }))

pub returns-else-acknowledge-clause-stands : goal.returns-else-acknowledge-clause-stands
returns-else-acknowledge-clause-stands c = λ r s.
    let p = c.args.self.now in
    let all = p.all in
    let at = c.from-place.ensures in
    let below : c.args.channel < 48 = omega (arith, all, at) in
    let keep = channel_keeps p r c.args.channel c.from-place.result c.args.number c.index_mut-acknowledged.result.now c.acknowledge.new.self s below at
    c.index_mut-acknowledged.ensures.value c.if-acknowledge.ensures.drops in
    rw keep.0
    (record {
      state = s.state;
      own = s.own;
      other = s.other;
      connect_id = s.connect_id;
      extra = s.extra;
      now = s.now;
      disconnected = s.disconnected;
      last_control = s.last_control;
      counts = keep.1;
      waiting = s.waiting;
      pending = s.pending;
      unacknowledged = keep.2;
    })
