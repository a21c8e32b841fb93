use Rattle.std.proofs.Common.{ℕ, List, [], ◌∷◌, ◌++◌, ap, ◌∙◌}
use Rattle.gs_tape.specs.Generated.{with_sound}
use Rattle.gs_tape.proofs.draws.Draws.add_sound.Goals as goal

pub returns : goal.returns
unfolding with_sound
returns c = (
  c.in_ok-push.ensures.items ∙ ap (λ (unit : List ℕ). c.args.units.now.items ++ unit ∷ []) c.in_ok-unit.ensures.unit,
  c.in_ok-unit.ensures.state,
)
