use Rattle.std.proofs.Common.{rules, List, ℕ, Option, ◌∷◌, Some, sym, ap, ◌∙◌, subst}
use Rattle.atomic_table.specs.Table.{rest}
use Rattle.gs_turn.specs.History.{Leaves}
use Rattle.gs_turn.proofs.Gives.{gives_back}
use Rattle.gs_turn.proofs.turn.Turn.give_back.Goals as goal

pub fetch_add-requires : goal.fetch_add-requires
fetch_add-requires g c =
    let put = c.exchange.ensures in
    let turn = c.requires.turn in
    let view = ap (λ m. m.0) put.3 in (
      search rules,
      search rules,
      gives_back g.S.Turned.steps _ _ _ _ turn.0 c.args.state (ap (λ v. v.standing) view ∙ turn.1)
          (ap (λ m. m.1) put.3 ∙ ap (λ (xs : List (ℕ × Option g.row.S.Denot)). (0, Some c.args.state) ∷ rest xs) turn.2)
          (subst (λ v. Leaves g.S.Turned.steps c.args.self.now.table.shared.key.state v.front c.args.state) (sym view) c.requires.state),
    )
