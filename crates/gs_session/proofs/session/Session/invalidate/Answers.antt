use Rattle.std.proofs.Common.{◌≡◌, ℤ, w64, to_z, of_z, subst}
use Rattle.std.proofs.lemmas.Int.{to_z-of_z}
use Rattle.gs_turn.specs.History.{with_call}
use Rattle.gs_session.specs.declared.call.Call.TheVariants as call
use Rattle.gs_session.specs.declared.call.Reply.{Reply}
use Rattle.gs_session.specs.declared.pass.SessionPass.{SessionPass}
use Rattle.gs_session.specs.declared.call.Reply.TheVariants as reply
use Rattle.gs_session.specs.Sessions.{own, made_by, EndsWith}
use Rattle.gs_session.proofs.Histories.{ends-with, is-taken}
use Rattle.gs_session.proofs.session.Session.invalidate.Goals as goal

pub returns-clause-ends : goal.returns-clause-ends
returns-clause-ends g c =
    let s = c.args.self.now in
    let first = c.args.first in
    let last = c.args.last in
    let old = c.args.pass.now in
    let new : SessionPass = record { pass = c.call.new.pass } in
    let first' = to_z w64 (of_z w64 first) in
    let last' = to_z w64 (of_z w64 last) in
    let it = subst (λ (r : Reply). EndsWith s old new (call.Invalidate first' last') r) c.taken.ensures
    (ends-with s old new (call.Invalidate first' last') c.call.result c.call.ensures.history c.call.ensures.ends) in
    let at_first = subst (λ (z : ℤ). EndsWith s old new (call.Invalidate z last') (reply.Taken c.taken.result)) (to_z-of_z w64 first c.ranges.first) it in
    subst (λ (z : ℤ). EndsWith s old new (call.Invalidate first z) (reply.Taken c.taken.result)) (to_z-of_z w64 last c.ranges.last) at_first

pub returns-clause-own : goal.returns-clause-own
returns-clause-own g c =
    let first = c.args.first in
    let last = c.args.last in
    let old = c.args.pass.now in
    let new : SessionPass = record { pass = c.call.new.pass } in
    let first' = to_z w64 (of_z w64 first) in
    let last' = to_z w64 (of_z w64 last) in
    let it = subst (λ (r : Reply). own new ≡ with_call (made_by old (call.Invalidate first' last') r) (own old)) c.taken.ensures c.call.ensures.own in
    let at_first = subst (λ (z : ℤ). own new ≡ with_call (made_by old (call.Invalidate z last') (reply.Taken c.taken.result)) (own old))
    (to_z-of_z w64 first c.ranges.first) it in
    subst (λ (z : ℤ). own new ≡ with_call (made_by old (call.Invalidate first z) (reply.Taken c.taken.result)) (own old))
    (to_z-of_z w64 last c.ranges.last) at_first

pub taken-requires : goal.taken-requires
taken-requires g c =
    let s = c.args.self.now in
    let old = c.args.pass.now in
    let new : SessionPass = record { pass = c.call.new.pass } in
    let first' = to_z w64 (of_z w64 c.args.first) in
    let last' = to_z w64 (of_z w64 c.args.last) in
    is-taken s old new first' last' c.call.result
    (ends-with s old new (call.Invalidate first' last') c.call.result c.call.ensures.history c.call.ensures.ends)
