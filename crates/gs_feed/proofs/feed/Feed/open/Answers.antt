use Rattle.gs_feed.proofs.Cuts.{opens_bytes, opens_handed}
use Rattle.gs_feed.proofs.feed.Feed.open.Goals as goal

pub returns-in_err-tape-clause-bytes : goal.returns-in_err-tape-clause-bytes
returns-in_err-tape-clause-bytes g c = opens_handed _ _ _ _ c.from_residual.ensures.1 c.in_err-tape.ensures.bytes

pub returns-clause-bytes : goal.returns-clause-bytes
returns-clause-bytes g c = opens_bytes _ _ _ c.in_ok-tape.ensures.bytes
