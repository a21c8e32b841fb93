use Rattle.std.proofs.Common.{Option, sym, subst}
use Rattle.atomic_table.specs.Table.{Me}
use Rattle.gs_turn.specs.declared.rule.PassView.{PassView}
use Rattle.gs_turn.specs.History.{Leaves}
use Rattle.gs_turn.specs.Cells.{opening_of}
use Rattle.gs_turn.proofs.turn.Turn.take_turn.Goals as goal

pub returns-clause-history : goal.returns-clause-history
returns-clause-history g c = (
  c.make_step-reply.result.1,
  subst (λ (me : Me (Option g.row.S.Denot) (PassView g.row.S.Denot g.row.S-Call.Denot g.row.S-Reply.Denot)). Leaves g.S.Turned.steps
      (opening_of c.args.self.now) me.0.front c.make_step-reply.result.1)
      (sym c.give_back.ensures.me) c.make_step-reply.ensures.state,
)
