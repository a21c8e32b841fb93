use Rattle.gs_frames.proofs.HandedGrows.{arrival_hands, arrival_hands_few, reset_hands_nothing}
use Rattle.gs_frames.proofs.laws.arrival_hands_new_frames.Goals as goal

pub returns-clause-new : goal.returns-clause-new
returns-clause-new c = arrival_hands

pub returns-clause-few : goal.returns-clause-few
returns-clause-few c = arrival_hands_few

pub returns-clause-reset : goal.returns-clause-reset
returns-clause-reset c = reset_hands_nothing
