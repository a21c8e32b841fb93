use Rattle.gs_refs.proofs.Legal.{ticks_rise, frames_are_of_ticks}
use Rattle.gs_refs.proofs.laws.legal_histories.Goals as goal

pub returns-clause-rise : goal.returns-clause-rise
returns-clause-rise c = ticks_rise

pub returns-clause-there : goal.returns-clause-there
returns-clause-there c = frames_are_of_ticks
