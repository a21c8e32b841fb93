use Rattle.gs_joined.proofs.Lasts.{last_told}
use Rattle.gs_joined.proofs.tests.sending.told.Goals as goal

pub returns-clause-last : goal.returns-clause-last
returns-clause-last c = last_told c.args.host.now c.told.new.self _ _ c.in_ok-told.ensures.told
