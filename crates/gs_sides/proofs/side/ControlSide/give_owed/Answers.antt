use Rattle.std.proofs.Common.{◌≡◌, ◌<◌, length, refl, arith, rules}
use Rattle.gs_sides.proofs.Asked.{gives_owed}
use Rattle.gs_sides.proofs.side.ControlSide.give_owed.Goals as goal

pub returns : goal.returns
returns c = λ x h.
    let given = c.args.self.now.given in
    let long : length given ≡ 48 = search rules in
    let inside : 1 < length given = omega (arith, long) in
    gives_owed c.args.self.now _ x c.args.asker.now _ c.in_ok-count.count c.in-Some.given h (c.in_ok-count.ensures.sent x.peer h.peer) refl refl refl
    (omega (arith, c.in-Some.ensures, c.from.ensures)) inside
