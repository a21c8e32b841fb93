use Rattle.std.proofs.Common.{◌≡◌, ◌++◌, ◌∷◌, [], ℕ, List, refl, sym, ap, ◌∙◌}
use Rattle.gs_enet.specs.declared.event.PeerEvent.{PeerEvent}
use Rattle.gs_enet.specs.declared.event.PeerEvent.TheVariants as event
use Rattle.gs_enet.specs.Receive.{expected}
use Rattle.gs_enet.proofs.Arrivals.{tells_one}
use Rattle.gs_enet.proofs.peer.Peer.tell.Goals as goal

pub returns-clause-stands : goal.returns-clause-stands
returns-clause-stands c = λ r s.
    let one = tells_one c.args.self.now r c.args.channel c.from.result c.args.bytes c.index_mut-heard.result.now _ s c.requires.channel c.from.ensures
    c.index_mut-heard.ensures.value refl refl (λ k. refl) in
    record {
      state = s.state;
      own = s.own;
      other = s.other;
      connect_id = s.connect_id;
      extra = s.extra;
      now = s.now;
      disconnected = s.disconnected;
      last_control = s.last_control;
      counts = one.0;
      waiting = ap (λ (es : List PeerEvent). es ++ event.Message c.args.channel (expected r c.args.channel) c.args.bytes ∷ []) s.waiting
          ∙ ap (λ (n : ℕ). c.args.self.now.waiting.items ++ event.Message c.args.channel n c.args.bytes ∷ []) (sym one.2) ∙ sym c.in-Ok.ensures.items;
      pending = s.pending;
      unacknowledged = one.1;
    }
