use Rattle.std.proofs.Common.{sym, arith, ◌∙◌, subst, length-set, get_or}
use Rattle.gs_enet.specs.declared.channel.Channel.{Channel}
use Rattle.gs_enet.specs.Channels.{MarksDue, LostIs}
use Rattle.gs_enet.proofs.Windows.{rewritten_more, same_read}
use Rattle.std.proofs.Common.{None}
use Rattle.gs_enet.proofs.holding.mark_due.Goals as goal

pub mark_due-requires : goal.mark_due-requires
mark_due-requires c =
    let d : Channel = c.channel-item.result in
    let read = same_read c.args.channels.now c.loop-channel.channels c.loop-channel.channel-index d c.loop-channel.invariant.rest in
    subst (λ (x : Channel). LostIs c.args.now x None) (sym read) (c.requires c.loop-channel.channel-index d (omega arith))

pub loop-channel-preserved : goal.loop-channel-preserved
loop-channel-preserved c =
    let d : Channel = c.channel-item.result in
    let old = c.args.channels.now in
    let i = c.loop-channel.channel-index in
    let read = same_read old c.loop-channel.channels i d c.loop-channel.invariant.rest in
    let step = rewritten_more (MarksDue c.args.now) old c.loop-channel.channels i c.mark_due.new.self d c.loop-channel.invariant.len (omega arith)
    c.loop-channel.invariant.marked c.loop-channel.invariant.rest (subst (λ (x : Channel). MarksDue c.args.now x c.mark_due.new.self) read c.mark_due.ensures)
    in
    record { len = length-set _ _ _ ∙ c.loop-channel.invariant.len; marked = step.0; rest = step.1 }
