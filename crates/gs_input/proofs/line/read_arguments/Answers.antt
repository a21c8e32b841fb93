use Rattle.std.proofs.Common.{◌≡◌, rules}
use Rattle.std.specs.Prelude.{codes}
use Rattle.gs_input.proofs.Lines.{move_named, place_named}
use Rattle.gs_input.proofs.line.read_arguments.Goals as goal

pub returns-in_err-dx-clause-none : goal.returns-in_err-dx-clause-none
returns-in_err-dx-clause-none c =
    let name : c.args.name.now ≡ codes "move" = search rules in
    rw c.from_residual-in_err-dx.ensures (λ event h. let m = move_named c.args.name.now c.args.words event name h in c.in_err-dx.ensures.none m.0 m.1 m.2)

pub returns-in_err-x-clause-none : goal.returns-in_err-x-clause-none
returns-in_err-x-clause-none c =
    let name : c.args.name.now ≡ codes "at" = search rules in
    rw c.from_residual-in_err-x.ensures (λ event h. let m = place_named c.args.name.now c.args.words event name h in c.in_err-x.ensures.none m.0 m.1 m.2 m.3
    m.4)
