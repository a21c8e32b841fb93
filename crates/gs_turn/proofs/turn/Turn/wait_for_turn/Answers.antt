use Rattle.std.proofs.Common.{rules, ap, ◌∙◌}
use Rattle.gs_turn.proofs.Draws.{draws}
use Rattle.gs_turn.proofs.Looks.{looks}
use Rattle.gs_turn.proofs.turn.Turn.wait_for_turn.Goals as goal

pub fetch_add-ticket-requires : goal.fetch_add-ticket-requires
fetch_add-ticket-requires g c = (search rules, search rules, draws g.S.Turned.steps _ _ _ _ c.requires.outside.standing c.requires.seat.numbered)

pub load-requires : goal.load-requires
load-requires g c =
    let drawn = c.fetch_add-ticket.ensures.2 in (
      search rules,
      search rules,
      looks g.S.Turned.steps _ _ _ _ drawn.0 (ap (λ m. m.0.standing) (c.loop.invariant.2 ∙ drawn.2)),
    )
