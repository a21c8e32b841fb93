use Rattle.std.proofs.Common.{◌≡◌, length, arith, ap, subst}
use Rattle.gs_rtsp.specs.declared.verdict.Verdict.{Verdict}
use Rattle.gs_rtsp.specs.Reply.{body_by, description}
use Rattle.gs_rtsp.specs.Verdicts.{answer_of}
use Rattle.gs_rtsp.proofs.Lengths.{length_description}
use Rattle.gs_rtsp.proofs.response.response.Goals as goal

pub overflow_cast-len : goal.overflow_cast-len
overflow_cast-len c =
    let body : c.in_ok-body.body ≡ description c.args.offer.now =
    subst (λ (v : Verdict). c.in_ok-body.body ≡ body_by c.args.offer.now (answer_of v)) c.in-Described.is c.in_ok-body.ensures in
    omega (arith, ap length body, length_description c.args.offer.now)
