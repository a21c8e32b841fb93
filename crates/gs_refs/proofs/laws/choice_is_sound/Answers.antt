use Rattle.gs_refs.proofs.Choices.{choice_is_sound, valid_was_sent}
use Rattle.gs_refs.proofs.laws.choice_is_sound.Goals as goal

pub returns-clause-choice : goal.returns-clause-choice
returns-clause-choice c = choice_is_sound

pub returns-clause-valid : goal.returns-clause-valid
returns-clause-valid c = valid_was_sent
