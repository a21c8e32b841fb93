use Rattle.std.proofs.Common.{rules, ◌≤◌, length, Option, ap, sym, ◌∙◌, subst}
use Rattle.std.specs.List.{AllByRecursion}
use Rattle.std.proofs.lemmas.List.{nil_from_length}
use Rattle.atomic_table.specs.Table.{Me}
use Rattle.gs_turn.specs.declared.rule.PassView.{PassView}
use Rattle.gs_turn.specs.History.{has_number}
use Rattle.gs_turn.proofs.Keeping.{outside_is}
use Rattle.gs_turn.proofs.Joining.{joins, numbers_of_both}
use Rattle.gs_turn.proofs.Settling.{settles, short_left, short_right}
use Rattle.gs_turn.proofs.turn.Turn.join.Goals as goal

pub join_seat-requires : goal.join_seat-requires
join_seat-requires g c = (
  search rules,
  search rules,
  nil_from_length _ c.args.give.holds_nothing,
  search rules,
  joins g.S.Turned.steps c.args.self.now.table.shared.key _ _ _ _ (outside_is _ c.args.keep.now.outside)
      (outside_is _ c.args.give.outside) c.args.keep.now.numbered,
)

pub load-requires : goal.load-requires
load-requires g c =
    let is = c.join_seat.ensures.2 in (
      search rules,
      search rules,
      settles g.S.Turned.steps c.args.self.now.table.shared.key _ _ _ (ap (λ m. m.0.standing) is ∙ outside_is _ c.args.keep.now.outside)
          (subst (λ (m : Me (Option g.row.S.Denot) (PassView g.row.S.Denot g.row.S-Call.Denot g.row.S-Reply.Denot)). AllByRecursion
          (λ old. length old ≤ length m.0.front) m.0.olds) (sym is) (
            short_left c.args.keep.now.seat.me.0.front c.args.give.seat.me.0.front,
            (short_right c.args.keep.now.seat.me.0.front c.args.give.seat.me.0.front, tt),
          )),
    )

pub returns-clause-numbers : goal.returns-clause-numbers
returns-clause-numbers g c number =
    ap (λ (m : Me (Option g.row.S.Denot) (PassView g.row.S.Denot g.row.S-Call.Denot g.row.S-Reply.Denot)). has_number number m.0.own) c.load.ensures.2.1
    ∙ ap (λ (m : Me (Option g.row.S.Denot) (PassView g.row.S.Denot g.row.S-Call.Denot g.row.S-Reply.Denot)). has_number number m.0.own) c.join_seat.ensures.2
    ∙ numbers_of_both number c.args.keep.now.seat.me.0.own c.args.give.seat.me.0.own
