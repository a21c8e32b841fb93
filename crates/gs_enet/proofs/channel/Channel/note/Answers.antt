use Rattle.std.proofs.Common.{arith, refl, ap, ◌∙◌, length, length-set}
use Rattle.gs_enet.specs.Window.{in_window}
use Rattle.gs_enet.proofs.Windows.{in_window-writes}
use Rattle.gs_enet.proofs.channel.Channel.note.Goals as goal

pub returns : goal.returns
returns c =
    let ch = c.args.self.now in
    let w = c.write.ensures in
    record {
      same = record { next = omega (arith, ap length w.after, length-set ch.window.items ch.next_due w.slot); heard = refl };
      held = λ k. ap (in_window k ch.first) w.after ∙ in_window-writes c.args.now k ch.first ch.window.items ch.next_due w.slot c.requires.1 ch.none_due
          w.rewrites;
    }
