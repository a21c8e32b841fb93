use Rattle.gs_trial.proofs.Copies.{tape_answers}
use Rattle.gs_trial.proofs.generating.write_tape.Goals as goal

pub returns-clause-answers : goal.returns-clause-answers
returns-clause-answers g c =
    tape_answers c.args.generated.number c.args.generated.ticks c.in-Ok.tape.left _ _ c.copy.result c.in-Ok.ensures c.copy.ensures.all
    c.copy.ensures.front c.copy.ensures.cause
