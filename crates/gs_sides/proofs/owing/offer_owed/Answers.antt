use Rattle.gs_sides.proofs.Asked.{owed_known}
use Rattle.gs_sides.proofs.owing.offer_owed.Goals as goal

pub returns-clause-known : goal.returns-clause-known
returns-clause-known c = owed_known _ _ c.args.asker.now _ c.send_owed.result c.requires c.send_owed.ensures
