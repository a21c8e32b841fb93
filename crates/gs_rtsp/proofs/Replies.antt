-- A server's answer is the one that the table gives.
use Rattle.std.proofs.Common.{◌≡◌, ℕ, List, refl, sym, ap, subst, ◌∙◌}
use Rattle.gs_rtp.specs.declared.settings.Settings.{Settings}
use Rattle.gs_rtsp_text.specs.declared.message.Method.{Method}
use Rattle.gs_rtsp_text.specs.declared.message.Request.{Request}
use Rattle.gs_rtsp.specs.declared.server.Server.{Server}
use Rattle.gs_rtsp.specs.declared.verdict.Verdict.{Verdict}
use Rattle.gs_rtsp.specs.Reply.{Answered, answer_by, answer_to, answered, response_by, reply}
use Rattle.gs_rtsp.specs.Verdicts.{answer_of, IsVerdict, IsVerdictBy}
use Rattle.gs_rtsp.specs.declared.server.Phase.{Phase}
use Rattle.gs_rtsp.specs.Standing.{Serves, IsPhase}

-- the verdict by a request's own method
pub verdict_by : (offer : Settings) (past : List Answered) (method : Method) (r : Request) (v : Verdict)
    → r.method ≡ method → IsVerdictBy offer past method r v → IsVerdict offer past r v
unfolding answer_to
verdict_by offer past method r v e h = record {
  answer_is = h.answer_is ∙ ap (λ (m : Method). answer_by offer past m r) (sym e);
  settings = h.settings;
}

pub is_reply : (server : Server) (offer : Settings) (base : ℕ) (earlier : List Request) (r : Request) (v : Verdict) → Serves server offer base earlier
    → IsVerdict offer (answered offer earlier) r v → response_by server.offer server.base r (answer_of v) ≡ reply offer base earlier r
is_reply server offer base earlier r v s h = rw (s.offered, s.based, h.answer_is) refl

-- a server with the same fields stands for the same requests
pub serves_as : (old new : Server) (offer : Settings) (base : ℕ) (requests : List Request) → new.offer ≡ old.offer → new.base ≡ old.base
    → new.audio ≡ old.audio → new.video ≡ old.video → new.control ≡ old.control → new.phase ≡ old.phase → Serves old offer base requests
    → Serves new offer base requests
serves_as old new offer base requests eo eb ea ev ec ep s = record {
  offered = eo ∙ s.offered;
  based = eb ∙ s.based;
  audio = ea ∙ s.audio;
  video = ev ∙ s.video;
  control = ec ∙ s.control;
  phase = subst (λ (p : Phase). IsPhase offer (answered offer requests) p) (sym ep) s.phase;
}
