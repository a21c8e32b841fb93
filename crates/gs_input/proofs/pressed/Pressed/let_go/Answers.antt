use Rattle.std.proofs.Common.{ap, ◌∙◌}
use Rattle.std.proofs.lemmas.Int.{to_z-of_z}
use Rattle.std.specs.FinSet as set
use Rattle.gs_input.specs.Pressed.{Codes}
use Rattle.gs_input.proofs.Keys.{code_taken}
use Rattle.gs_input.proofs.pressed.Pressed.let_go.Goals as goal

pub returns : goal.returns
returns c =
    let fits = c.ranges.code in
    let taken = simp to_z-of_z at c.remove.ensures.updates.0 in
    code_taken c.self.inside.codes.keys c.remove.new.self.keys c.args.code taken ∙ ap (λ (s : Codes). set.remove s c.args.code) c.self.view_is
