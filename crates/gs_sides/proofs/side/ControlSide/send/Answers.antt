use Rattle.std.proofs.Common.{◌≡◌, ◌<◌, ℕ, length, set, refl, ap, arith, rules}
use Rattle.gs_sides.proofs.Standings.{sends, refuses}
use Rattle.gs_sides.proofs.side.ControlSide.send.Goals as goal

pub returns-in-Ok : goal.returns-in-Ok
returns-in-Ok c = λ x h.
    let given = c.args.self.now.given in
    let sent = c.in-Ok.ensures.sent x.peer h.peer in
    let long : length given ≡ 48 = search rules in
    let inside : c.args.channel < length given = omega (arith, long, c.requires.channel) in (
      sent.0,
      sent.1,
      sends _ _ x c.args.channel c.in-Ok.number c.args.bytes.now h c.requires.channel inside sent.0 sent.1 sent.2 refl refl
          (ap (λ (k : ℕ). set given k c.in-Ok.number) c.from.ensures),
    )

pub returns-in-Err : goal.returns-in-Err
returns-in-Err c = λ x h.
    refuses _ _ x c.args.channel c.args.bytes.now c.in-Err.error h (c.in-Err.ensures.sent x.peer h.peer) refl refl refl
