use Rattle.gs_pair.proofs.HandedLists.{cuts_in_order}
use Rattle.gs_pair.proofs.laws.cuts_are_in_order.Goals as goal

pub returns : goal.returns
returns c = cuts_in_order
