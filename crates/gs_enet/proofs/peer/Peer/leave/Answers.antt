use Rattle.std.proofs.Common.{◌≡◌, ◌+◌, ℕ, List, [], ◌∷◌, ◌++◌, refl, sym, subst, ap, ◌∙◌}
use Rattle.gs_enet.specs.Record.{Unacknowledged, Disconnect, control, fresh}
use Rattle.gs_enet.specs.Channels.{all_held}
use Rattle.gs_enet.specs.Controls.{unacknowledged_control}
use Rattle.gs_enet.specs.Standing.{IsPeerOf, held_by}
use Rattle.gs_enet.proofs.Standings.{leaving-left, nothing_to, empty_held}
use Rattle.gs_enet.proofs.peer.Peer.leave.Goals as goal

pub returns-clause-stands : goal.returns-clause-stands
returns-clause-stands c = λ r s.
    let p = c.args.self.now in
    let none : held_by p ≡ [] = c.holds_nothing.ensures.0 c.if-not-holds_nothing.false in
    let empty : all_held 0 p.channels.items ≡ [] = empty_held 0 p.channels.items (nothing_to p.control p.channels.items none).1 in
    rw (leaving-left r p.state (held_by p) s.state (sym c.if-not-is_closing.ensures) s.unacknowledged none)
    (record {
      state = s.state;
      own = s.own;
      other = s.other;
      connect_id = s.connect_id;
      extra = s.extra;
      now = s.now;
      disconnected = s.disconnected;
      last_control = ap (λ (n : ℕ). n + 1) s.last_control;
      counts = s.counts;
      waiting = s.waiting;
      pending = s.pending;
      unacknowledged = ap (λ (n : ℕ). fresh Disconnect control (n + 1) ∷ []) s.last_control ∙ ap (λ (u : Unacknowledged). u ∷ []) (sym c.new.ensures)
          ∙ ap (λ (us : List Unacknowledged). unacknowledged_control c.new.result ∷ us) (sym empty);
    })
