use Rattle.gs_enet.proofs.Flat.{are_new_push}
use Rattle.gs_enet.proofs.new_channels.new_channels.Goals as goal

pub loop-index-preserved : goal.loop-index-preserved
loop-index-preserved c =
    are_new_push c.loop-index.channels.items _ c.new.result c.loop-index.index c.in_ok-push.ensures.items c.loop-index.invariant
    (c.new.ensures.first, c.new.ensures.window, c.new.ensures.heard)
