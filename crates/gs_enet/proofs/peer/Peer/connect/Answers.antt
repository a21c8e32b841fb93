use Rattle.std.proofs.Common.{◌++◌, ◌∷◌, [], refl, sym, ap, ◌∙◌}
use Rattle.gs_enet.proofs.Flat.{all_held-new, new_counts}
use Rattle.gs_enet.specs.Record.{Unacknowledged}
use Rattle.gs_enet.specs.Controls.{unacknowledged_control}
use Rattle.gs_enet.proofs.peer.Peer.connect.Goals as goal

pub returns : goal.returns
returns c =
    let chs = c.in_ok-new_channels.field-0.items in
    record {
      state = refl;
      own = refl;
      other = refl;
      connect_id = refl;
      extra = refl;
      now = refl;
      disconnected = refl;
      last_control = refl;
      counts = new_counts chs 48 c.in_ok-new_channels.ensures;
      waiting = sym c.in_ok-with_capacity.ensures.items;
      pending = sym c.new-2.ensures.items;
      unacknowledged = ap (λ (u : Unacknowledged). u ∷ []) (sym c.new.ensures)
          ∙ ap (λ us. (unacknowledged_control c.new.result ∷ []) ++ us) (sym (all_held-new chs 48 c.in_ok-new_channels.ensures));
    }
