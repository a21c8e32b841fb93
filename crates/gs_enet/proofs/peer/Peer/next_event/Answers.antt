use Rattle.std.proofs.Common.{◌≡◌, List, [], ◌∷◌, ◌++◌, Option, Some, None, refl, sym, ap, ◌∙◌, arith}
use Rattle.std.specs.Option.{option_to_list}
use Rattle.gs_enet.specs.declared.event.PeerEvent.{PeerEvent}
use Rattle.gs_enet.specs.declared.peer.Peer.{Peer}
use Rattle.gs_enet.specs.Record.{PeerRecord}
use Rattle.gs_enet.specs.Steps.{first_event, telling, told_next}
use Rattle.gs_enet.specs.Standing.{IsPeerOf}
use Rattle.gs_enet.proofs.Standings.{telling-first, none_left}
use Rattle.gs_enet.proofs.peer.Peer.next_event.Goals as goal

pub returns : goal.returns
unfolding told_next
returns c = λ r s.
    let t = telling-first r c.pop_front.result c.pop_front.new.self.items (s.waiting ∙ c.pop_front.ensures.items)
    (none_left c.pop_front.result c.args.self.now.waiting.items c.pop_front.new.self.items c.pop_front.ensures.items
    (λ lt. c.pop_front.ensures.variant.1 (let ok = c.args.self.now.waiting.ok in omega (arith, lt, ok)))) in
    record {
      answer_is = t.0;
      stands = record {
        state = t.1.state ∙ s.state;
        own = t.1.own ∙ s.own;
        other = t.1.other ∙ s.other;
        connect_id = t.1.connect_id ∙ s.connect_id;
        extra = t.1.extra ∙ s.extra;
        now = t.1.now ∙ s.now;
        disconnected = t.1.disconnected ∙ s.disconnected;
        last_control = t.1.last_control ∙ s.last_control;
        counts = t.1.counts _ s.counts;
        waiting = t.1.waiting;
        pending = t.1.pending ∙ s.pending;
        unacknowledged = t.1.unacknowledged ∙ s.unacknowledged;
      };
    }
