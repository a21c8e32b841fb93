use Rattle.std.proofs.Common.{rules}
use Rattle.gs_turn.proofs.Counts.{counts}
use Rattle.gs_turn.proofs.turn.Turn.count.Goals as goal

pub fetch_add-requires : goal.fetch_add-requires
fetch_add-requires g c =
    let may = c.requires.may in (
      search rules,
      search rules,
      counts g.S.Turned.steps _ _ _ _ c.requires.turn.0 _ _ may.0 c.args.reply.now may.1 may.2 c.requires.turn.1 c.requires.seat.numbered
          may.3 c.requires.reply may.4 may.5,
    )

pub returns : goal.returns
returns g c call asked =
    let e = c.fetch_add.ensures in
    let told = e.2 call c.args.reply.now asked c.requires.reply in
    (record { cell = e.0; id = e.1; me = told.0 }, told.1)
