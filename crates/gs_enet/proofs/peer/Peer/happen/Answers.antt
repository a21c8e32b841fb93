use Rattle.std.proofs.Common.{◌++◌, ◌∷◌, [], List, sym, ap, ◌∙◌}
use Rattle.gs_enet.specs.declared.event.PeerEvent.{PeerEvent}
use Rattle.gs_enet.proofs.Timings.{counts_quiet}
use Rattle.gs_enet.proofs.peer.Peer.happen.Goals as goal

pub returns-clause-stands : goal.returns-clause-stands
returns-clause-stands c = λ r s.
    record {
      state = s.state;
      own = s.own;
      other = s.other;
      connect_id = s.connect_id;
      extra = s.extra;
      now = s.now;
      disconnected = s.disconnected;
      last_control = s.last_control;
      counts = counts_quiet r c.args.event c.args.self.now.channels.items c.requires.quiet s.counts;
      waiting = ap (λ (es : List PeerEvent). es ++ c.args.event ∷ []) s.waiting ∙ sym c.in-Ok.ensures.items;
      pending = s.pending;
      unacknowledged = s.unacknowledged;
    }
