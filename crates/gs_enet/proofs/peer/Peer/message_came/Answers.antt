use Rattle.std.proofs.Common.{◌≡◌, ◌<◌, ◌+◌, ℕ, true, sym, subst, ap, ◌∙◌, arith}
use Rattle.gs_enet.specs.Receive.{takes_messages, expected, is_next}
use Rattle.gs_enet.specs.Standing.{IsPeerOf}
use Rattle.gs_enet.proofs.Arrivals.{message-next, reads_expected}
use Rattle.gs_enet.proofs.peer.Peer.message_came.Goals as goal

pub returns-then-is_next-clause-stands : goal.returns-then-is_next-clause-stands
returns-then-is_next-clause-stands c = λ r s.
    let p = c.args.self.now in
    let all = p.all in
    let at = c.from-place.ensures in
    let below : c.args.channel < 48 = omega (arith, all, at) in
    let e : c.index-known.result.now.heard + 1 ≡ expected r c.args.channel =
    reads_expected p r c.args.channel c.from-place.result c.index-known.result.now s below at c.index-known.ensures in
    let next : is_next c.args.number (expected r c.args.channel) ≡ true = ap (is_next c.args.number) (sym e) ∙ sym c.if-is_next.ensures in
    subst (IsPeerOf c.owe.new.self)
    (sym (message-next c.args.channel c.args.number c.args.bytes c.args.answer r below
    (ap takes_messages s.state ∙ sym c.if-not-takes_messages.ensures) next))
    (c.owe.ensures.stands _ (c.tell.ensures.stands r s))
