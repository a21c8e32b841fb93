use Rattle.gs_pair.proofs.Joined.{references_were_handed, references_without_resets}
use Rattle.gs_pair.proofs.laws.references_were_handed.Goals as goal

pub returns-clause-behind_resets : goal.returns-clause-behind_resets
returns-clause-behind_resets c = references_were_handed

pub returns-clause-without_resets : goal.returns-clause-without_resets
returns-clause-without_resets c = references_without_resets
