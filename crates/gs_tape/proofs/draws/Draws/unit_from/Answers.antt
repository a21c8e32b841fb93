use Rattle.std.proofs.Common.{◌≡◌, ℕ, ◌+◌, ◌%◌, IfOk, OnOk, subst}
use Rattle.gs_tape.specs.Generated.{drawn_unit, unit_from, draw}
use Rattle.gs_tape.proofs.draws.Draws.unit_from.Goals as goal

pub returns-clause-unit : goal.returns-clause-unit
unfolding unit_from
returns-clause-unit c =
    let At : ℕ → ℕ → Type 0 = λ n s. IfOk c.unit_of.result (λ unit. unit ≡ (drawn_unit (c.args.least + n % c.args.span) s).value) in
    subst (λ (s : ℕ). At (draw c.args.self.now.state) s) c.draw.ensures.state
    (subst (λ (n : ℕ). At n c.draw.new.self.state) c.draw.ensures.number c.unit_of.ensures.unit)

pub returns-clause-state : goal.returns-clause-state
unfolding unit_from
returns-clause-state c =
    let At : ℕ → ℕ → Type 0 = λ n s. OnOk c.unit_of.result (c.unit_of.new.self.state ≡ (drawn_unit (c.args.least + n % c.args.span) s).state) in
    subst (λ (s : ℕ). At (draw c.args.self.now.state) s) c.draw.ensures.state
    (subst (λ (n : ℕ). At n c.draw.new.self.state) c.draw.ensures.number c.unit_of.ensures.state)
