use Rattle.gs_input.proofs.Keys.{down_is_last_down}
use Rattle.gs_input.proofs.laws.last_key_event_decides.Goals as goal

pub returns : goal.returns
returns c = λ events code. down_is_last_down events code
