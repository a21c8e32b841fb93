use Rattle.std.proofs.Common.{◌≡◌, ℕ, ◌%◌, IfOk, subst}
use Rattle.gs_tape.specs.Generated.{pattern, drawn_unit}
use Rattle.gs_bytes.proofs.Cases.{on_ok}
use Rattle.gs_tape.proofs.draws.Draws.unit_of.Goals as goal

pub returns-clause-unit : goal.returns-clause-unit
unfolding drawn_unit
returns-clause-unit c =
    let Is : ℕ → Type 0 = λ n. IfOk c.pattern.result (λ unit. unit ≡ pattern c.args.length (n % 251)) in
    subst Is c.draw-base.ensures.number c.pattern.ensures

pub returns-clause-state : goal.returns-clause-state
unfolding drawn_unit
returns-clause-state c = on_ok c.pattern.result _ c.draw-base.ensures.state
