use Rattle.std.proofs.Common.{◌≡◌, ◌∷◌, [], List, length, refl, sym, subst, ap, ◌∙◌, arith}
use Rattle.gs_enet_wire.specs.declared.command.Command.{Command}
use Rattle.gs_enet.specs.Record.{PeerRecord}
use Rattle.gs_enet.specs.Receive.{command_received, all_received}
use Rattle.gs_enet.specs.Standing.{IsPeerOf}
use Rattle.gs_enet.proofs.Commands.{rooms_less, length_front, all_done}
use Rattle.gs_enet.proofs.peer.Peer.receive_all.Goals as goal

pub commands-preserved : goal.commands-preserved
commands-preserved c =
    record {
      room = rooms_less _ _ c.commands.self c.receive.new.self (length_front c.commands.rest.items c.in-Some.command c.pop_front.new.self.items
          c.in-Some.ensures.items) c.commands.invariant.room c.receive.ensures.grows;
      stands = λ r s.
          let t = c.commands.invariant.stands r s in (
            command_received c.args.sent c.in-Some.command t.0,
            c.receive.ensures.stands t.0 t.1,
            ap (λ (cs : List Command). all_received c.args.sent cs t.0) (sym c.in-Some.ensures.items) ∙ t.2,
          );
    }

pub returns : goal.returns
returns c = λ r s.
    let t = c.commands.invariant.stands r s in
    let end : all_received c.args.sent c.commands.rest.items t.0 ≡ t.0 =
    all_done c.args.sent c.commands.rest.items t.0 (let ok = c.commands.rest.ok in let none = c.in_default.ensures.cases.0 in omega (arith, ok, none)) in
    let all : c.from_vec-rest.result.items ≡ c.args.commands.now.items = rw (← c.replace.ensures.value) c.from_vec-rest.ensures.items in
    subst (IsPeerOf c.commands.self) (sym end ∙ t.2 ∙ ap (λ (cs : List Command). all_received c.args.sent cs r) all) t.1
