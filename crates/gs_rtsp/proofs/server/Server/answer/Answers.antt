use Rattle.std.proofs.Common.{◌∙◌, refl}
use Rattle.gs_rtsp.proofs.Replies.{is_reply, serves_as}
use Rattle.gs_rtsp.specs.Verdicts.{answer_of}
use Rattle.gs_rtsp.proofs.SendableReplies.{is_sendable}
use Rattle.gs_rtsp.proofs.server.Server.answer.Goals as goal

pub returns-clause-reply : goal.returns-clause-reply
returns-clause-reply c = λ offer base earlier s. c.in_ok-response.ensures
    ∙ is_reply c.args.self.now offer base earlier c.args.request.now c.verdict-verdict.result s (c.verdict-verdict.ensures.verdict offer base earlier s)

pub returns-clause-stands : goal.returns-clause-stands
returns-clause-stands c = λ offer base earlier s. c.keep.ensures.stands offer base earlier c.args.request.now
    (serves_as c.args.self.now _ offer base earlier refl refl refl refl refl refl s) (c.verdict-verdict.ensures.verdict offer base earlier s)

pub returns-clause-sendable : goal.returns-clause-sendable
returns-clause-sendable c = λ bytes q.
    let server = c.args.self.now in
    rw c.in_ok-response.ensures (is_sendable server.offer server.base c.args.request.now
    (answer_of c.verdict-verdict.result) bytes c.verdict-verdict.ensures.code server.base_greatest q)
