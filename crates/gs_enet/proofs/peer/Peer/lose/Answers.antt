use Rattle.std.proofs.Common.{◌≡◌, ◌++◌, ◌∷◌, [], List, refl, sym, subst, ap, ◌∙◌}
use Rattle.std.specs.List.{filter}
use Rattle.gs_enet.specs.declared.answer.Answer.{Answer}
use Rattle.gs_enet.specs.declared.event.PeerEvent.{PeerEvent}
use Rattle.gs_enet.specs.declared.event.PeerEvent.TheVariants as event
use Rattle.gs_enet.proofs.Timings.{counts_event}
use Rattle.gs_enet.proofs.peer.Peer.lose.Goals as goal

pub returns : goal.returns
returns c = λ r s.
    let e : PeerEvent = event.Lost c.args.channel c.args.number in
    record {
      state = refl;
      own = s.own;
      other = s.other;
      connect_id = s.connect_id;
      extra = s.extra;
      now = s.now;
      disconnected = s.disconnected;
      last_control = s.last_control;
      counts = counts_event r e c.args.self.now.channels.items tt s.counts;
      waiting = ap (λ (es : List PeerEvent). es ++ e ∷ []) s.waiting ∙ sym c.in-Ok.ensures.items;
      pending = ap (filter (λ (a : Answer). a.to_disconnect)) s.pending ∙ sym c.keep_answers_to_disconnect.ensures.kept;
      unacknowledged = s.unacknowledged;
    }
