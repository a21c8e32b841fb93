use Rattle.std.proofs.Common.{rules, [], ◌^◌, ◌<◌, ◌≤◌, sym, ap, ◌∙◌, subst}
use Rattle.gs_turn.specs.declared.rule.Opening.{Opening}
use Rattle.gs_turn.specs.Rule.{arriving}
use Rattle.gs_turn.proofs.Arrives.{arrives}
use Rattle.gs_turn.proofs.turn.Turn.open.Goals as goal

pub load-requires : goal.load-requires
load-requires g c =
    let e = c.in_ok-table.ensures in
    let about = c.in_ok-table.table.shared.key in
    let some_pass : 1 ≤ about.passes = subst (λ (o : Opening g.row.S.Denot). 1 ≤ o.passes) (sym e.5) c.requires.0 in
    let fits : about.passes < 2 ^ 32 = subst (λ (o : Opening g.row.S.Denot). o.passes < 2 ^ 32) (sym e.5) c.requires.1 in (
      search rules,
      search rules,
      arrives g.S.Turned.steps about some_pass fits _ _ _ (e.4 ∙ ap (λ (o : Opening g.row.S.Denot). (arriving o.state, [])) (sym e.5)),
    )
