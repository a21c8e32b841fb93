use Rattle.std.proofs.Common.{◌≡◌, None, false, arith, subst, sym, refl, ap, ◌∙◌, length-set}
use Rattle.std.proofs.lemmas.List.{get_or_default, get_or_read}
use Rattle.gs_enet.specs.Window.{IsMarkedDue, passes, held_lost}
use Rattle.gs_enet.proofs.Windows.{none_at, rewritten_more, same_read}
use Rattle.gs_enet.proofs.window.mark_due.Goals as goal

pub mark_slot-requires : goal.mark_slot-requires
mark_slot-requires c =
    let old = c.args.window.now.items in
    let i = c.loop-place.place in
    subst (λ x. passes (held_lost c.args.now) x ≡ false)
    (sym (c.index_mut.ensures.value ∙ same_read old c.loop-place.window.items i _ c.loop-place.invariant.rest))
    (none_at (passes (held_lost c.args.now)) old i _ c.requires (omega arith))

pub loop-place-preserved : goal.loop-place-preserved
loop-place-preserved c =
    let old = c.args.window.now.items in
    let i = c.loop-place.place in
    let read = c.index_mut.ensures.value ∙ same_read old c.loop-place.window.items i _ c.loop-place.invariant.rest in
    let step = rewritten_more (IsMarkedDue c.args.now) old c.loop-place.window.items i c.mark_slot.new.slot c.index_mut.result.now
    (omega (arith, c.loop-place.invariant.len)) (omega arith)
    c.loop-place.invariant.marked c.loop-place.invariant.rest (subst (λ x. IsMarkedDue c.args.now x c.mark_slot.new.slot) read c.mark_slot.ensures) in
    record { len = length-set _ _ _ ∙ c.loop-place.invariant.len; marked = step.0; rest = step.1 }
