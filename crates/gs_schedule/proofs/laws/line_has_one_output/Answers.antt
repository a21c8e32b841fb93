use Rattle.gs_schedule.proofs.OutputLines.{one_output}
use Rattle.gs_schedule.proofs.laws.line_has_one_output.Goals as goal

pub returns : goal.returns
returns c = λ first second h k e. one_output first second h k e
