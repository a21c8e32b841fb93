use Rattle.std.proofs.Common.{◌≡◌, sym, subst, ap, ◌∙◌}
use Rattle.gs_enet.specs.Standing.{IsPeerOf}
use Rattle.gs_enet.proofs.Commands.{command_received-message}
use Rattle.gs_enet.proofs.peer.Peer.receive.Goals as goal

pub returns-clause-stands : goal.returns-clause-stands
returns-clause-stands c = λ r s.
    let e = command_received-message c.args.sent c.args.command r c.in-Some.bytes (sym c.in-Some.ensures) in
    rw (e, ← c.channel.ensures, ← c.number.ensures) (c.message_came.ensures.stands r s)
