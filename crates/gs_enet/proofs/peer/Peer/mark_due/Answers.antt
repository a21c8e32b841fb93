use Rattle.std.proofs.Common.{◌≡◌, ◌++◌, ◌≤◌, ℕ, List, length, sym, subst, ap, ◌∙◌, map, arith}
use Rattle.std.specs.List.{AllZip}
use Rattle.std.proofs.lemmas.List.{map-append, with_items_is}
use Rattle.std.proofs.lemmas.List.Elements.{length_all_zip}
use Rattle.gs_enet.specs.declared.channel.Channel.{Channel}
use Rattle.gs_enet.specs.Record.{Unacknowledged}
use Rattle.gs_enet.specs.Steps.{had_last_wait, due_again}
use Rattle.gs_enet.specs.Channels.{all_held, MarksDue}
use Rattle.gs_enet.specs.Controls.{control_held}
use Rattle.gs_enet.specs.Standing.{HasCounts}
use Rattle.gs_enet.proofs.Flat.{named_none, find_none_parts, none_lost, marked}
use Rattle.gs_enet.proofs.Timings.{counts_marked}
use Rattle.gs_enet.proofs.peer.Peer.mark_due.Goals as goal

pub mark_control-requires : goal.mark_control-requires
mark_control-requires c =
    let p = c.args.self.now in
    (find_none_parts (had_last_wait p.moment) (control_held p.control) (all_held 0 p.channels.items) (named_none _ c.requires)).0

pub mark_due-requires : goal.mark_due-requires
mark_due-requires c =
    let p = c.args.self.now in
    rw c.deref_mut.ensures.value
    (none_lost p.moment p.channels.items (find_none_parts (had_last_wait p.moment) (control_held p.control) (all_held 0 p.channels.items)
    (named_none _ c.requires)).1)

pub returns : goal.returns
returns c = λ r s.
    let p = c.args.self.now in
    let zs : List Channel = c.mark_due.new.channels in
    let z : AllZip (MarksDue p.moment) p.channels.items zs = subst (λ (xs : List Channel). AllZip (MarksDue p.moment) xs zs) c.deref_mut.ensures.value
    c.mark_due.ensures in
    let size : length zs ≡ p.channels.len = sym (length_all_zip (MarksDue p.moment) p.channels.items zs z) ∙ sym p.channels.ok.0 in
    let same = with_items_is p.channels zs size in
    record {
      state = s.state;
      own = s.own;
      other = s.other;
      connect_id = s.connect_id;
      extra = s.extra;
      now = s.now;
      disconnected = s.disconnected;
      last_control = s.last_control;
      counts = subst (HasCounts r) (sym same) (counts_marked r p.moment p.channels.items zs z s.counts);
      waiting = s.waiting;
      pending = s.pending;
      unacknowledged =
          ap (λ (n : ℕ). map (due_again n) r.unacknowledged) s.now ∙ ap (map (due_again p.moment)) s.unacknowledged
          ∙ map-append (due_again p.moment) (control_held p.control) (all_held 0 p.channels.items)
          ∙ ap (λ (us : List Unacknowledged). us ++ map (due_again p.moment) (all_held 0 p.channels.items)) (sym c.mark_control.ensures)
          ∙ ap (λ (us : List Unacknowledged). control_held c.mark_control.new.held ++ us)
          (sym (marked p.moment p.channels.items zs z) ∙ ap (all_held 0) (sym same));
    }
