use Rattle.std.proofs.Common.{ℤ, w64, to_z, of_z, List, Result, sym, subst, inl, inr}
use Rattle.std.proofs.lemmas.Int.{to_z-of_z}
use Rattle.gs_refs.specs.declared.entry.Entry.{Entry}
use Rattle.gs_session.specs.declared.call.Call.TheVariants as call
use Rattle.gs_session.specs.declared.call.Reply.TheVariants as reply
use Rattle.gs_session.specs.Replies.{IsAnswered}
use Rattle.gs_session.proofs.Histories.{answered-invalidate, refused}
use Rattle.gs_session.proofs.shared.invalidate.Goals as goal

pub returns-in-Ok : goal.returns-in-Ok
returns-in-Ok c =
    let first = c.args.first in
    let last = c.args.last in
    let before = c.reserve.new.self.history in
    let after = c.invalidate.new.self.history in
    let it = answered-invalidate before after (to_z w64 (of_z w64 first)) (to_z w64 (of_z w64 last)) c.invalidate.result c.invalidate.ensures.answer
    c.invalidate.ensures.unchanged
    c.invalidate.ensures.named in
    let now = subst (λ (r : Result _ _). IsAnswered before (call.Invalidate (to_z w64 (of_z w64 first)) (to_z w64 (of_z w64 last))) (reply.Taken r) after)
    (sym c.taken.ensures) it in
    let at_first = subst (λ (z : ℤ). IsAnswered before (call.Invalidate z (to_z w64 (of_z w64 last))) (reply.Taken c.taken.result) after)
    (to_z-of_z w64 first c.ranges.first) now in
    let at_last = subst (λ (z : ℤ). IsAnswered before (call.Invalidate first z) (reply.Taken c.taken.result) after)
    (to_z-of_z w64 last c.ranges.last) at_first in
    inl
    (subst (λ (h : List Entry). IsAnswered h (call.Invalidate first last) (reply.Taken c.taken.result) after) c.reserve.ensures.history at_last)

pub returns-in-Err : goal.returns-in-Err
returns-in-Err c =
    inr (refused c.args.refs.now.history c.reserve.new.self.history (call.Invalidate c.args.first c.args.last) c.reserve.ensures.history)
