use Rattle.gs_rs.proofs.HeldShards.{held_shards_hold, shards_form, held_shards_fix}
use Rattle.gs_rs.proofs.laws.held_shards_hold_block.Goals as goal

pub returns-clause-data : goal.returns-clause-data
returns-clause-data c = held_shards_hold

pub returns-clause-forms : goal.returns-clause-forms
returns-clause-forms c = shards_form

pub returns-clause-fixed : goal.returns-clause-fixed
returns-clause-fixed c = held_shards_fix
