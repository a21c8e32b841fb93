use Rattle.std.proofs.Common.{◌≡◌, None, Option, refl, sym, subst, ap}
use Rattle.std.specs.List.{find}
use Rattle.gs_enet.specs.declared.control.Control.{Control}
use Rattle.gs_enet.specs.declared.control.ControlKind.{ControlKind}
use Rattle.gs_enet.specs.declared.control.ControlKind.TheVariants as kind
use Rattle.gs_enet.specs.Receive.{is_named, acknowledged, connected}
use Rattle.gs_enet.specs.Controls.{content_of, control_held}
use Rattle.gs_enet.specs.Standing.{IsPeerOf}
use Rattle.gs_enet.proofs.Acknowledging.{control_kept, control_unnamed, control_dropped, control_hit}
use Rattle.gs_enet.proofs.peer.Peer.acknowledge_control.Goals as goal

pub returns-in_default-clause-stands : goal.returns-in_default-clause-stands
returns-in_default-clause-stands c = λ r s.
    subst (IsPeerOf c.args.self.now)
    (sym (control_kept c.args.self.now r c.args.number s (ap (λ (k : Option Control). find (is_named 255 c.args.number) (control_held k)) c.in_default.is))) s

pub returns-then-control-number-clause-stands : goal.returns-then-control-number-clause-stands
returns-then-control-number-clause-stands c = λ r s.
    subst (IsPeerOf c.args.self.now) (sym (control_unnamed c.args.self.now r c.args.number c.in-Some.control s c.in-Some.is c.if-control-number.true)) s

pub returns-in-Connect-clause-stands : goal.returns-in-Connect-clause-stands
returns-in-Connect-clause-stands c = λ r s.
    let drop = control_dropped c.args.self.now r c.args.number c.in-Some.control s c.in-Some.is
    (control_hit c.in-Some.control c.args.number c.if-control-number.false) in
    rw (drop.0, c.in-Connect.is)
    (record {
      state = s.state;
      own = s.own;
      other = s.other;
      connect_id = s.connect_id;
      extra = s.extra;
      now = s.now;
      disconnected = s.disconnected;
      last_control = s.last_control;
      counts = s.counts;
      waiting = s.waiting;
      pending = s.pending;
      unacknowledged = drop.1;
    })

pub returns-in-VerifyConnect-clause-stands : goal.returns-in-VerifyConnect-clause-stands
returns-in-VerifyConnect-clause-stands c = λ r s.
    let drop = control_dropped c.args.self.now r c.args.number c.in-Some.control s c.in-Some.is
    (control_hit c.in-Some.control c.args.number c.if-control-number.false) in
    rw (drop.0, c.in-VerifyConnect.is)
    (c.accepted.ensures.stands _ (record {
      state = s.state;
      own = s.own;
      other = s.other;
      connect_id = s.connect_id;
      extra = s.extra;
      now = s.now;
      disconnected = s.disconnected;
      last_control = s.last_control;
      counts = s.counts;
      waiting = s.waiting;
      pending = s.pending;
      unacknowledged = drop.1;
    }))

pub returns-in-Disconnect-clause-stands : goal.returns-in-Disconnect-clause-stands
returns-in-Disconnect-clause-stands c = λ r s.
    let drop = control_dropped c.args.self.now r c.args.number c.in-Some.control s c.in-Some.is
    (control_hit c.in-Some.control c.args.number c.if-control-number.false) in
    rw (drop.0, c.in-Disconnect.is)
    (c.shut.ensures.stands _ (c.happen.ensures.stands _ (record {
      state = refl;
      own = s.own;
      other = s.other;
      connect_id = s.connect_id;
      extra = s.extra;
      now = s.now;
      disconnected = s.disconnected;
      last_control = s.last_control;
      counts = s.counts;
      waiting = s.waiting;
      pending = s.pending;
      unacknowledged = drop.1;
    })))
