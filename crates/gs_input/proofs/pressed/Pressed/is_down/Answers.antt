use Rattle.std.proofs.Common.{ap, sym, ◌∙◌}
use Rattle.std.proofs.lemmas.Int.{to_z-of_z}
use Rattle.std.specs.FinSet as set
use Rattle.gs_input.proofs.Keys.{has_code}
use Rattle.gs_input.proofs.pressed.Pressed.is_down.Goals as goal

pub returns : goal.returns
returns c =
    let f = c.ranges.code in
    simp to_z-of_z at c.contains.ensures ∙ sym (has_code c.self.inside.codes.keys c.args.code) ∙ ap (λ s. set.contains s c.args.code) c.self.view_is
