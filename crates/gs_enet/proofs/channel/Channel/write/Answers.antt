use Rattle.std.proofs.Common.{◌≡◌, ◌+◌, ◌%◌, ℕ, Option, Some, None, true, List, refl, sym, ap, subst, ◌∙◌, get_or}
use Rattle.std.proofs.lemmas.List.{get_or_default}
use Rattle.gs_enet_wire.specs.declared.command.Command.TheVariants as command
use Rattle.gs_enet.specs.declared.held.Held.{Held}
use Rattle.gs_enet.specs.declared.channel.Channel.{Channel}
use Rattle.gs_enet.specs.Window.{passes, held_due, unacknowledged}
use Rattle.gs_enet.specs.Channels.{HasDue}
use Rattle.gs_enet.specs.Puts.{PutsIfFits}
use Rattle.gs_enet.specs.Items.{IsFirstDue}
use Rattle.gs_enet.proofs.Windows.{due_first}
use Rattle.gs_enet.proofs.channel.Channel.write.Goals as goal

first_of : (i : ℕ) (ch : Channel) (read : Option Held) (h : Held) → HasDue ch → read ≡ get_or ch.window.items ch.next_due read
    → read ≡ Some h → IsFirstDue i (ch.first + ch.next_due) h.bytes ch
first_of i ch read h due is some =
    let there : get_or ch.window.items ch.next_due None ≡ Some h =
    get_or_default ch.window.items ch.next_due None read due.0 ∙ sym is ∙ some in
    let first = due_first i ch.first ch.window.items ch.next_due h ch.none_due there
    (sym (ap (passes held_due) there) ∙ due.1) in
    record {
      u = unacknowledged i (ch.first + ch.next_due) h;
      rest = first.0;
      front = first.1;
      order = refl;
      short = h.short;
    }

pub returns-in_default-put : goal.returns-in_default-put
returns-in_default-put c =
    let ch : Channel = c.args.self.now in
    let no : PutsIfFits (command.Reliable c.args.index c.number_due-number.result true c.in-Some.held.bytes) c.args.place None
    c.args.out.now c.put.new.out = c.in_default-put.ensures in
    record {
      number = ch.first + ch.next_due;
      bytes = c.in-Some.held.bytes;
      first = first_of c.args.index ch c.index.result.now c.in-Some.held c.requires.due c.index.ensures c.in-Some.is;
      then = (
        record { same = record { next = refl; heard = refl }; held = λ k. refl },
        subst (λ (n : ℕ). PutsIfFits (command.Reliable c.args.index n true c.in-Some.held.bytes) c.args.place None c.args.out.now c.put.new.out)
            c.number_due-number.ensures no,
      );
    }

pub returns : goal.returns
returns c =
    let ch : Channel = c.args.self.now in
    let put : PutsIfFits (command.Reliable c.args.index c.number_due-number.result true c.in-Some.held.bytes) c.args.place (Some c.in-Some-put.end)
    c.args.out.now c.put.new.out = c.in-Some-put.ensures in
    record {
      number = ch.first + ch.next_due;
      bytes = c.in-Some.held.bytes;
      first = first_of c.args.index ch c.index.result.now c.in-Some.held c.requires.due c.index.ensures c.in-Some.is;
      then = (
        record { same = record { next = c.note.ensures.same.next; heard = c.note.ensures.same.heard }; held = λ k. c.note.ensures.held k },
        subst (λ (n : ℕ). PutsIfFits (command.Reliable c.args.index n true c.in-Some.held.bytes) c.args.place (Some c.in-Some-put.end)
            c.args.out.now c.put.new.out) c.number_due-number.ensures put,
      );
    }
