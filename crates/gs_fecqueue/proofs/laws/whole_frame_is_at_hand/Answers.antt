use Rattle.gs_fecqueue.proofs.AtHand.{whole_at_hand}
use Rattle.gs_fecqueue.proofs.laws.whole_frame_is_at_hand.Goals as goal

pub returns : goal.returns
returns c = whole_at_hand
