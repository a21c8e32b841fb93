use Rattle.gs_frames.proofs.AsksGrow.{arrival_asks, arrival_asks_for_lost, arrival_asks_for_nothing}
use Rattle.gs_frames.proofs.laws.arrival_asks_for_lost.Goals as goal

pub returns-clause-new : goal.returns-clause-new
returns-clause-new c = arrival_asks

pub returns-clause-lost : goal.returns-clause-lost
returns-clause-lost c = arrival_asks_for_lost

pub returns-clause-nothing : goal.returns-clause-nothing
returns-clause-nothing c = arrival_asks_for_nothing
