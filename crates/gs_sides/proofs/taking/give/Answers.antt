use Rattle.std.proofs.Common.{subst}
use Rattle.gs_enet_wire.proofs.Datagrams.{not_both}
use Rattle.gs_enet.specs.declared.take_error.TakeError.{TakeError}
use Rattle.gs_enet.specs.Outcomes.{IsTakeFault}
use Rattle.gs_enet.specs.Receive.{datagram_taken}
use Rattle.gs_sides.proofs.taking.give.Goals as goal

pub returns-in-Ok-clause-known : goal.returns-in-Ok-clause-known
returns-in-Ok-clause-known c =
    λ none. c.requires.known (λ r h. none (datagram_taken c.in-Ok.ensures.taken.datagram c.args.now r) (c.in-Ok.ensures.taken.stands r h))

pub returns-in-Err-OutOfMemory-clause-known : goal.returns-in-Err-OutOfMemory-clause-known
returns-in-Err-OutOfMemory-clause-known c = λ none. c.requires.known (λ r h. none r (c.in-Err-OutOfMemory.ensures.refused r h))

pub unreachable-requires : goal.unreachable-requires
unreachable-requires c = c.requires.readable (λ d s. not_both c.args.datagram.now d _ s
    (subst (λ (e : TakeError). IsTakeFault c.args.datagram.now e) c.in-Err-BadDatagram.field-0-is c.in-Err-BadDatagram.ensures.bad))
