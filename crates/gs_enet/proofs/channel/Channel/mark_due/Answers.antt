use Rattle.std.proofs.Common.{arith, refl}
use Rattle.gs_enet.proofs.Windows.{none_is_lost, in_window-marks}
use Rattle.gs_enet.proofs.channel.Channel.mark_due.Goals as goal

pub mark_due-requires : goal.mark_due-requires
mark_due-requires c = none_is_lost c.args.now 0 c.args.self.now.first c.args.self.now.window.items (c.requires 0)

pub returns : goal.returns
returns c =
    record {
      same = record { next = omega (arith, c.mark_due.ensures.len); heard = refl };
      held = λ k. in_window-marks c.args.now k c.args.self.now.first c.args.self.now.window.items c.mark_due.new.window.items c.mark_due.ensures.marks;
    }
