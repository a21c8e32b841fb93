use Rattle.std.proofs.Common.{ap, ◌∙◌, Option}
use Rattle.atomic_table.specs.Table.{Me}
use Rattle.gs_turn.specs.declared.rule.PassView.{PassView}
use Rattle.gs_turn.specs.History.{has_number}
use Rattle.gs_turn.proofs.Own.{has_with_call}
use Rattle.gs_turn.proofs.turn.Turn.call.Goals as goal

pub returns-clause-numbers : goal.returns-clause-numbers
returns-clause-numbers g c number =
    ap (λ (m : Me (Option g.row.S.Denot)
    (PassView g.row.S.Denot g.row.S-Call.Denot g.row.S-Reply.Denot)). has_number number m.0.own) c.take_turn.ensures.called.me
    ∙ has_with_call number _ _
    ∙ ap (λ (m : Me (Option g.row.S.Denot)
    (PassView g.row.S.Denot g.row.S-Call.Denot g.row.S-Reply.Denot)). has_number number m.0.own) c.wait_for_turn.ensures.3.me
