-- What a request comes to, with the settings that an answer keeps.
use Rattle.std.specs.Prelude.{◌≡◌, ℕ, Bool, false, ◌||◌, ◌==◌, List, ⊤, IsSomeAnd}
use Rattle.gs_rtp.specs.declared.settings.Settings.{Settings}
use Rattle.gs_rtsp_text.specs.declared.message.Method.{Method}
use Rattle.gs_rtsp_text.specs.declared.message.Request.{Request}
use Rattle.gs_sdp.specs.Table.{AreSettings}
use Rattle.gs_rtsp.specs.declared.verdict.Verdict.{Verdict}
use Rattle.gs_rtsp.specs.declared.verdict.Verdict.TheVariants as verdicts
use Rattle.gs_rtsp.specs.Reply.{Answer, Answered, Unchanged, Described, SetUp, Announced, Playing, Refused, status_code}
use Rattle.gs_rtsp.specs.Reply.{answer_by, answer_to, announced_body, is_playing}

abbrev pub answer_of : Verdict → Answer
answer_of verdicts.Unchanged = Unchanged
answer_of verdicts.Described = Described
answer_of (verdicts.SetUp stream) = SetUp stream
answer_of (verdicts.Announced s) = Announced
answer_of (verdicts.Playing s) = Playing
answer_of (verdicts.Refused code) = Refused code

-- the settings are those of the newest accepted ANNOUNCE
abbrev pub AreKept : Settings → List Answered → Settings → Type 0
AreKept offer past s = IsSomeAnd (announced_body past) (λ body. AreSettings body offer s)

-- The settings of a verdict are those of the request, where the session doesn't play yet, or those that were kept.
abbrev pub HasSettings : Settings → List Answered → Request → Verdict → Type 0
HasSettings offer past r verdicts.Unchanged = ⊤
HasSettings offer past r verdicts.Described = ⊤
HasSettings offer past r (verdicts.SetUp stream) = ⊤
HasSettings offer past r (verdicts.Announced s) = AreSettings r.body offer s × (is_playing past ≡ false)
HasSettings offer past r (verdicts.Playing s) = AreKept offer past s
HasSettings offer past r (verdicts.Refused code) = ⊤

-- the verdict on a request with this method
pub record IsVerdictBy (offer : Settings) (past : List Answered) (method : Method) (r : Request) (v : Verdict)
    : Type 0 where
  pub answer_is : answer_of v ≡ answer_by offer past method r
  pub settings : HasSettings offer past r v

pub record IsVerdict (offer : Settings) (past : List Answered) (r : Request) (v : Verdict) : Type 0 where
  pub answer_is : answer_of v ≡ answer_to offer past r
  pub settings : HasSettings offer past r v

-- the codes that a response has
abbrev pub is_answered_code : ℕ → Bool
is_answered_code code = code == 200 || code == 400 || code == 454 || code == 455

abbrev pub has_code : Verdict → Bool
has_code v = is_answered_code (status_code (answer_of v))
