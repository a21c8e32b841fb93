use Rattle.gs_schedule.proofs.Steps.{one_step}
use Rattle.gs_schedule.proofs.laws.line_spells_one_step.Goals as goal

pub returns : goal.returns
returns c = λ line first second h k. one_step line first second h k
