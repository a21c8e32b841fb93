use Rattle.std.proofs.Common.{◌≡◌, ◌<◌, length, refl, sym, arith}
use Rattle.gs_enet.specs.declared.peer.Peer.{Peer}
use Rattle.gs_enet.proofs.Standings.{sends_none}
use Rattle.gs_enet.proofs.Firsts.{message_one, still_none}
use Rattle.gs_enet.proofs.peer.Peer.write_message.Goals as goal

pub returns-clause-written : goal.returns-clause-written
returns-clause-written c = λ r s.
    let p : Peer = c.args.self.now in
    let lt : c.args.channel < length p.channels.items =
    (let all = p.all in let ok = p.channels.ok.0 in let below = c.requires.due.below in omega (arith, all, ok, below)) in
    message_one p _ r c.args.channel c.args.place c.write.result c.index_mut.result.now c.write.new.self c.args.out.now c.write.new.out
    s c.requires.none c.requires.up c.requires.control c.requires.due lt c.index_mut.ensures.value c.write.ensures
    (λ same.
    let kept = sends_none p r c.args.channel c.args.channel c.index_mut.result.now c.write.new.self s c.requires.due.below refl c.index_mut.ensures.value same
    in
    record {
      state = s.state;
      own = s.own;
      other = s.other;
      connect_id = s.connect_id;
      extra = s.extra;
      now = s.now;
      disconnected = s.disconnected;
      last_control = s.last_control;
      counts = kept.0;
      waiting = s.waiting;
      pending = s.pending;
      unacknowledged = kept.1;
    })
    (λ counts held. record {
      state = s.state;
      own = s.own;
      other = s.other;
      connect_id = s.connect_id;
      extra = s.extra;
      now = s.now;
      disconnected = s.disconnected;
      last_control = s.last_control;
      counts = counts;
      waiting = s.waiting;
      pending = still_none p r s c.requires.none;
      unacknowledged = held;
    })
