use Rattle.std.proofs.Common.{List, Result, sym, subst, inl, inr}
use Rattle.gs_refs.specs.declared.entry.Entry.{Entry}
use Rattle.gs_session.specs.declared.call.Call.TheVariants as call
use Rattle.gs_session.specs.declared.call.Reply.TheVariants as reply
use Rattle.gs_session.specs.Replies.{IsAnswered}
use Rattle.gs_session.proofs.Histories.{answered-ask, refused}
use Rattle.gs_session.proofs.shared.ask_idr.Goals as goal

pub returns-in-Ok : goal.returns-in-Ok
returns-in-Ok c =
    let before = c.reserve.new.self.history in
    let after = c.ask_idr.new.self.history in
    let it = answered-ask before after c.ask_idr.result c.ask_idr.ensures.answer c.ask_idr.ensures.err c.ask_idr.ensures.ok in
    inl
    (subst (λ (h : List Entry). IsAnswered h call.AskIdr (reply.Asked c.asked.result) after) c.reserve.ensures.history
    (subst (λ (r : Result _ _). IsAnswered before call.AskIdr (reply.Asked r) after) (sym c.asked.ensures) it))

pub returns-in-Err : goal.returns-in-Err
returns-in-Err c = inr (refused c.args.refs.now.history c.reserve.new.self.history call.AskIdr c.reserve.ensures.history)
