use Rattle.std.proofs.Common.{◌≡◌, [], ◌∷◌, ◌+◌, subst}
use Rattle.gs_tape.specs.Generated.{Generating, ticks_to_come}
use Rattle.gs_tape.proofs.Parts.{none_to_come, one_to_come}
use Rattle.gs_tape.proofs.generator.Generator.next.Goals as goal

pub returns-then-self-clause-none : goal.returns-then-self-clause-none
returns-then-self-clause-none c = subst (λ (g : Generating). ticks_to_come g ≡ []) c.self.view_is (none_to_come _ c.if-self.true)

pub returns-clause-tick : goal.returns-clause-tick
returns-clause-tick c =
    subst
    (λ (g : Generating). ticks_to_come g ≡ c.in_ok-tick.tick ∷ ticks_to_come
    (record { state = c.tick_of.new.draws.state; next = c.self.inside.next + 1; last = c.self.inside.last }))
    c.self.view_is
    (one_to_come c.self.inside.draws.state c.self.inside.next c.self.inside.last c.tick_of.new.draws.state c.in_ok-tick.tick c.if-self.false
    c.in_ok-tick.ensures.tick c.in_ok-tick.ensures.state)
