use Rattle.std.proofs.Common.{◌≡◌, length, take, drop}
use Rattle.std.specs.List.{AllZip}
use Rattle.gs_enet.specs.Channels.{MarksDue}
use Rattle.gs_enet.proofs.holding.mark_due.Given as goal

abbrev pub invariant-loop-channel : goal.invariant-loop-channel
invariant-loop-channel l = record {
  len : length l.channels ≡ length l.fn.channels;
  marked : AllZip (MarksDue l.now) (take l.channel-index l.fn.channels) (take l.channel-index l.channels);
  rest : drop l.channel-index l.channels ≡ drop l.channel-index l.fn.channels;
}
