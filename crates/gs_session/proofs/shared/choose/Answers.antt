use Rattle.std.proofs.Common.{List, Result, sym, ap, ◌∙◌, subst, inl, inr}
use Rattle.gs_refs.specs.declared.entry.Entry.{Entry}
use Rattle.gs_refs.specs.Answers.{choose_answer}
use Rattle.gs_session.specs.declared.call.Call.TheVariants as call
use Rattle.gs_session.specs.declared.call.Reply.TheVariants as reply
use Rattle.gs_session.specs.Replies.{IsAnswered}
use Rattle.gs_session.proofs.Histories.{answered-choose, refused}
use Rattle.gs_session.proofs.shared.choose.Goals as goal

pub returns-in-Ok : goal.returns-in-Ok
returns-in-Ok c =
    let tick = c.args.tick.now in
    let before = c.reserve.new.self.history in
    let after = c.choose.new.self.history in
    let it = answered-choose before after tick c.choose.result (c.choose.ensures.answer
    ∙ ap (choose_answer before) c.deref.ensures) c.choose.ensures.err c.choose.ensures.ok in
    inl
    (subst (λ (h : List Entry). IsAnswered h (call.Choose tick) (reply.Chosen c.chosen.result) after) c.reserve.ensures.history
    (subst (λ (r : Result _ _). IsAnswered before (call.Choose tick) (reply.Chosen r) after) (sym c.chosen.ensures) it))

pub returns-in-Err : goal.returns-in-Err
returns-in-Err c = inr (refused c.args.refs.now.history c.reserve.new.self.history (call.Choose c.args.tick.now) c.reserve.ensures.history)
