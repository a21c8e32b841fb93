use Rattle.gs_input.proofs.Lines.{one_event}
use Rattle.gs_input.proofs.laws.line_has_one_event.Goals as goal

pub returns : goal.returns
returns c = λ line first second h k. one_event line first second h k
