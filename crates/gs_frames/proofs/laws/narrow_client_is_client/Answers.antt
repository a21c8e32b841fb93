use Rattle.gs_frames.proofs.Narrowed.{narrow_is_client, settles_complete, no_reset_bars}
use Rattle.gs_frames.proofs.laws.narrow_client_is_client.Goals as goal

pub returns-clause-same : goal.returns-clause-same
returns-clause-same c = narrow_is_client

pub returns-clause-settled : goal.returns-clause-settled
returns-clause-settled c = settles_complete

pub returns-clause-barred : goal.returns-clause-barred
returns-clause-barred c = no_reset_bars
