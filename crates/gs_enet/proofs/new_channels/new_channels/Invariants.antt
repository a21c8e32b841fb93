use Rattle.gs_enet.specs.Channels.{AreNew}
use Rattle.gs_enet.proofs.new_channels.new_channels.Given as goal

abbrev pub invariant-loop-index : goal.invariant-loop-index
invariant-loop-index l = AreNew l.channels.items l.index
