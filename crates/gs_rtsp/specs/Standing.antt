-- The lists that a server and a set-up stand for.
use Rattle.std.specs.Prelude.{◌≡◌, ℕ, suc, Bool, true, false, ◌⊎◌, List, [], length, Option, None, Some, Result, Ok}
use Rattle.std.specs.Prelude.{Err, ⊤, ◌+◌, option_map, slice_get, MatchOption}
use Rattle.gs_bytes.specs.declared.addr.Addr.{Addr}
use Rattle.gs_rtp.specs.declared.settings.Settings.{Settings}
use Rattle.gs_rtp.specs.Stream.{numbers_of}
use Rattle.gs_rtsp_text.specs.declared.message.Request.{Request}
use Rattle.gs_rtsp_text.specs.declared.message.Response.{Response}
use Rattle.gs_rtsp.specs.declared.server.Server.{Server}
use Rattle.gs_rtsp.specs.declared.server.Phase.{Phase}
use Rattle.gs_rtsp.specs.declared.server.Phase.TheVariants.{SettingUp, Announced, Playing}
use Rattle.gs_rtsp.specs.declared.setup.Setup.{Setup}
use Rattle.gs_rtsp.specs.declared.stream.Stream.TheVariants.{Audio, Video, Control}
use Rattle.gs_rtsp.specs.Reply.{Answered, answered, is_set_up, announced_body, is_playing}
use Rattle.gs_rtsp.specs.declared.step.Fault.{Fault}
use Rattle.gs_rtsp.specs.declared.step.Step.{Step}
use Rattle.gs_rtsp.specs.declared.step.Step.TheVariants.{Ask, Ready}
use Rattle.gs_rtsp.specs.declared.step.SetupError.{SetupError}
use Rattle.gs_rtsp.specs.declared.step.SetupError.TheVariants as errors
use Rattle.gs_rtsp.specs.Asking.{questions, agreed, first_reply_fault, request_for, with_reply}
use Rattle.gs_rtsp.specs.Verdicts.{AreKept}

-- ---- the server

abbrev pub IsPhase : Settings → List Answered → Phase → Type 0
IsPhase offer past SettingUp = (announced_body past ≡ None) × (is_playing past ≡ false)
IsPhase offer past (Announced s) = AreKept offer past s × (is_playing past ≡ false)
IsPhase offer past (Playing s) = AreKept offer past s × (is_playing past ≡ true)

abbrev pub is_phase_playing : Phase → Bool
is_phase_playing SettingUp = false
is_phase_playing (Announced s) = false
is_phase_playing (Playing s) = true

-- the server offers these settings over the ports of this base, and its state is what the requests leave
pub record Serves (server : Server) (offer : Settings) (base : ℕ) (requests : List Request) : Type 0 where
  pub offered : server.offer ≡ offer
  pub based : server.base ≡ base
  pub audio : server.audio ≡ is_set_up Audio (answered offer requests)
  pub video : server.video ≡ is_set_up Video (answered offer requests)
  pub control : server.control ≡ is_set_up Control (answered offer requests)
  pub phase : IsPhase offer (answered offer requests) server.phase

-- the settings with which a session plays behind these requests, if it does
abbrev pub ArePlayed : Settings → List Request → Option Settings → Type 0
ArePlayed offer requests played = MatchOption played (is_playing (answered offer requests) ≡ false)
    (λ s. (is_playing (answered offer requests) ≡ true) × AreKept offer (answered offer requests) s)

-- ---- the set-up

-- how many requests were asked
abbrev pub asked_count : Setup → ℕ
asked_count setup = setup.asked

-- The set-up wants these settings of this host, and its state is what the replies leave
pub record Asks (setup : Setup) (want : Settings) (host : Addr) (replies : List Response) : Type 0 where
  pub host_is : setup.host ≡ host
  pub fault : setup.fault ≡ first_reply_fault want host replies
  pub settings : setup.fault ≡ None → numbers_of setup.settings ≡ agreed want replies
  pub asked : setup.fault ≡ None → (setup.asked ≡ 0 × replies ≡ []) ⊎ (setup.asked ≡ suc (length replies))

-- the settings are those that the replies leave, or the first fault is told
abbrev pub IsJudged : Settings → Addr → List Response → Result Settings Fault → Type 0
IsJudged want host replies (Ok s) = (first_reply_fault want host replies ≡ None) × (numbers_of s ≡ agreed want replies)
IsJudged want host replies (Err fault) = first_reply_fault want host replies ≡ Some fault

-- with these settings the next request is asked, or there is none left
abbrev pub IsStepAfter : Addr → ℕ → Settings → Step → Type 0
IsStepAfter host asked s (Ask request) =
    option_map (request_for host (numbers_of s) (asked + 1)) (slice_get questions asked) ≡ Some request
IsStepAfter host asked s (Ready t) = (asked ≡ length questions) × (t ≡ s)

-- the reply is one more of those that the set-up stands for
abbrev pub TakesReply : Setup → Setup → Option Response → Type 0
TakesReply old new reply = (want : Settings) (host : Addr) (replies : List Response)
    → Asks old want host replies → Asks new want host (with_reply reply replies)

-- what a call leaves: the set-up takes the reply, or nothing changes where memory ran out
abbrev pub Leaves : Setup → Setup → Option Response → Result Step SetupError → Type 0
Leaves old new reply (Ok step) = TakesReply old new reply
Leaves old new reply (Err (errors.Refused code)) = TakesReply old new reply
Leaves old new reply (Err (errors.BadReply number)) = TakesReply old new reply
Leaves old new reply (Err errors.OutOfMemory) = new ≡ old

abbrev pub IfAsk : Step → (Request → Type 0) → Type 0
IfAsk (Ask request) P = P request
IfAsk (Ready s) P = ⊤
