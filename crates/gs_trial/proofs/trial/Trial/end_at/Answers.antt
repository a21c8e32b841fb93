use Rattle.gs_trial.proofs.RunLines.{bad_line, unwritten_line}
use Rattle.gs_trial.proofs.trial.Trial.end_at.Goals as goal

pub returns-in-Ok-clause-ends : goal.returns-in-Ok-clause-ends
returns-in-Ok-clause-ends g c = λ state. bad_line c.args.self.now.reporter c.args.number state _ _ c.in-Ok.ensures.ok

pub returns-in-Err-clause-ends : goal.returns-in-Err-clause-ends
returns-in-Err-clause-ends g c = λ state.
    unwritten_line c.args.self.now.reporter c.args.number state _ _ c.in-Err.failed c.in-Err.ensures.cause c.in-Err.ensures.err
