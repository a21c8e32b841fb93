use Rattle.std.proofs.Common.{ap, ◌∙◌}
use Rattle.std.proofs.lemmas.Int.{to_z-of_z}
use Rattle.std.specs.FinSet as set
use Rattle.gs_input.specs.Pressed.{Codes}
use Rattle.gs_input.proofs.Keys.{code_put}
use Rattle.gs_input.proofs.pressed.Pressed.put_down.Goals as goal

pub returns-clause-ok : goal.returns-clause-ok
returns-clause-ok c =
    let fits = c.ranges.code in
    let put = simp to_z-of_z at c.in_ok-insert.ensures.updates.0 in
    code_put c.self.inside.codes.keys c.insert.new.self.keys c.args.code put ∙ ap (λ (s : Codes). set.insert s c.args.code) c.self.view_is
