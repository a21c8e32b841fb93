use Rattle.std.proofs.Common.{ℕ, List, map, refl, sym, subst, ◌∙◌}
use Rattle.gs_enet_wire.specs.Grammar.{SpellsDatagram}
use Rattle.gs_enet.specs.Receive.{datagram_taken}
use Rattle.gs_sides.specs.Known.{datagram_by, bytes_by}
use Rattle.gs_sides.proofs.Naming.{not_named, is_named}
use Rattle.gs_sides.proofs.Standings.{takes_named}
use Rattle.gs_sides.proofs.side.ControlSide.take.Goals as goal

pub returns-in_default : goal.returns-in_default
returns-in_default c = λ x y h other. (not_named y.wrote c.args.number (sym (c.in_default.ensures (map bytes_by y.wrote) other.wrote.bytes)), h)

pub give-requires-clause-readable : goal.give-requires-clause-readable
give-requires-clause-readable c = λ none. c.args.other.now.has_list (λ ws holds.
    let named = is_named ws c.args.number _ holds.read_again (sym (c.in-Some.ensures (map bytes_by ws) holds.bytes)) in
    none (datagram_by named.wrote) (subst (λ (b : List ℕ). SpellsDatagram b (datagram_by named.wrote)) (named.bytes_are ∙ sym c.as_bytes.ensures) named.again))

pub returns : goal.returns
returns c = λ x y h other.
    let named = is_named y.wrote c.args.number _ other.wrote.read_again (sym (c.in-Some.ensures (map bytes_by y.wrote) other.wrote.bytes)) in
    let given = c.in_ok-give.ensures.taken in
    takes_named _ _ x y c.args.number c.args.now _ given.datagram _ h named
    (subst (λ (b : List ℕ). SpellsDatagram b given.datagram) c.as_bytes.ensures given.spelled)
    (c.in_ok-self.ensures.told (datagram_taken given.datagram c.args.now x.peer) (given.stands x.peer h.peer)) refl refl
