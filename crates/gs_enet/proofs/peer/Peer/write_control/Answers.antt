use Rattle.std.proofs.Common.{◌≡◌, ◌≤◌, ◌<◌, ◌+◌, ◌-◌, ◌∷◌, [], ℕ, List, Option, Some, None, length, map, drop, refl, sym, subst, ap, ◌∙◌, arith, inr}
use Rattle.gs_enet_wire.specs.declared.command.Command.{Command}
use Rattle.gs_enet.specs.declared.control.Control.{Control}
use Rattle.gs_enet.specs.declared.peer.Peer.{Peer}
use Rattle.gs_enet.specs.Record.{PeerRecord}
use Rattle.gs_enet.specs.Write.{Orders, item_command}
use Rattle.gs_enet.specs.Controls.{unacknowledged_control}
use Rattle.gs_enet.specs.Items.{IsTooLong}
use Rattle.gs_enet.specs.Puts.{PutsIfFits}
use Rattle.gs_enet.proofs.Firsts.{control_first, control_leaves, control_short, still_none}
use Rattle.gs_enet.proofs.peer.Peer.write_control.Goals as goal

pub returns-in_default-clause-written : goal.returns-in_default-clause-written
returns-in_default-clause-written c = λ r s.
    let k : Control = c.args.due in
    let is : c.control_command-command.result ≡ item_command r (Orders (unacknowledged_control k).order) = c.control_command-command.ensures.is r s in
    let no : PutsIfFits (item_command r (Orders (unacknowledged_control k).order)) c.args.place None c.args.out.now c.put_if_fits.new.out =
    subst (λ (cmd : Command). PutsIfFits cmd c.args.place None c.args.out.now c.put_if_fits.new.out) is c.in_default.ensures in (
      inr (record {
        item = Orders (unacknowledged_control k).order;
        rest = _;
        front = control_first c.args.self.now r k s c.requires.due;
        long = no.0;
        short = control_short k r;
      }),
      s,
      no.1,
    )

pub returns-clause-written : goal.returns-clause-written
returns-clause-written c = λ r s.
    let p : Peer = c.args.self.now in
    let k : Control = c.args.due in
    let is : c.control_command-command.result ≡ item_command r (Orders (unacknowledged_control k).order) = c.control_command-command.ensures.is r s in
    let put : PutsIfFits (item_command r (Orders (unacknowledged_control k).order)) c.args.place (Some c.in-Some.end) c.args.out.now c.put_if_fits.new.out =
    subst (λ (cmd : Command). PutsIfFits cmd c.args.place (Some c.in-Some.end) c.args.out.now c.put_if_fits.new.out) is c.in-Some.ensures in
    record {
      item = Orders (unacknowledged_control k).order;
      rest = _;
      front = control_first p r k s c.requires.due;
      fits = put.0;
      put = put.1;
      fit = put.2;
      stands = record {
        state = s.state;
        own = s.own;
        other = s.other;
        connect_id = s.connect_id;
        extra = s.extra;
        now = s.now;
        disconnected = s.disconnected;
        last_control = s.last_control;
        counts = s.counts;
        waiting = s.waiting;
        pending = still_none p r s c.requires.due.none;
        unacknowledged = control_leaves p r k c.write.new.self s c.requires.due c.write.ensures;
      };
    }
