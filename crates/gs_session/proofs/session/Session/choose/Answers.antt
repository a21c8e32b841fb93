use Rattle.std.proofs.Common.{◌≡◌, subst}
use Rattle.gs_turn.specs.History.{with_call}
use Rattle.gs_session.specs.declared.call.Call.TheVariants as call
use Rattle.gs_session.specs.declared.call.Reply.{Reply}
use Rattle.gs_session.specs.declared.pass.SessionPass.{SessionPass}
use Rattle.gs_session.specs.Sessions.{own, made_by, EndsWith}
use Rattle.gs_session.proofs.Histories.{ends-with, is-chosen}
use Rattle.gs_session.proofs.session.Session.choose.Goals as goal

pub returns-clause-ends : goal.returns-clause-ends
returns-clause-ends g c =
    let s = c.args.self.now in
    let old = c.args.pass.now in
    let new : SessionPass = record { pass = c.call.new.pass } in
    subst (λ (r : Reply). EndsWith s old new (call.Choose c.args.tick) r) c.chosen.ensures
    (ends-with s old new (call.Choose c.args.tick) c.call.result c.call.ensures.history c.call.ensures.ends)

pub returns-clause-own : goal.returns-clause-own
returns-clause-own g c =
    let old = c.args.pass.now in
    let new : SessionPass = record { pass = c.call.new.pass } in
    subst (λ (r : Reply). own new ≡ with_call (made_by old (call.Choose c.args.tick) r) (own old)) c.chosen.ensures c.call.ensures.own

pub chosen-requires : goal.chosen-requires
chosen-requires g c =
    let s = c.args.self.now in
    let old = c.args.pass.now in
    let new : SessionPass = record { pass = c.call.new.pass } in
    is-chosen s old new c.args.tick c.call.result (ends-with s old new (call.Choose c.args.tick) c.call.result c.call.ensures.history c.call.ensures.ends)
