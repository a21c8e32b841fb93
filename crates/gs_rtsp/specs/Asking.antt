-- What a client asks, what its replies must have, and what they tell.
use Rattle.std.specs.Prelude.{◌≡◌, ℕ, ◌+◌, ◌-◌, ◌/◌, ◌%◌, ◌^◌, Bool, true, false, ◌&&◌, ◌||◌, ◌==◌, nat_le, List, []}
use Rattle.std.specs.Prelude.{◌∷◌, ◌++◌, length, codes, decimal, Option, Some, None, is_some, unwrap_or, option_map}
use Rattle.std.specs.Prelude.{option_and_then, slice_get, Result, Ok, Err, if◌then◌else◌, ⊤}
use Rattle.gs_bytes.specs.declared.addr.Addr.{Addr}
use Rattle.gs_bytes.specs.Limits.{most_audio, short_duration, long_duration}
use Rattle.gs_rtp.specs.Limits.{least_ssrc, most_ssrc}
use Rattle.gs_rtp.specs.declared.settings.Settings.{Settings}
use Rattle.gs_rtp.specs.Stream.{StreamSettings, numbers_of}
use Rattle.gs_rtsp_text.specs.declared.header.Header.{Header}
use Rattle.gs_rtsp_text.specs.declared.message.Method.{Method}
use Rattle.gs_rtsp_text.specs.declared.message.Method.TheVariants as methods
use Rattle.gs_rtsp_text.specs.declared.message.Request.{Request}
use Rattle.gs_rtsp_text.specs.declared.message.Response.{Response}
use Rattle.gs_bytes.specs.Numbers.{decimal_up_to}
use Rattle.gs_sdp.specs.declared.attributes.SettingName.TheVariants as names
use Rattle.gs_sdp.specs.Lines.{last_value, line_text}
use Rattle.gs_sdp.specs.Table.{setting_name}
use Rattle.gs_rtsp.specs.declared.field.Field.TheVariants as fields
use Rattle.gs_rtsp.specs.declared.stream.Stream.{Stream}
use Rattle.gs_rtsp.specs.declared.stream.Stream.TheVariants.{Audio, Video, Control}
use Rattle.gs_rtsp.specs.declared.question.Question.{Question}
use Rattle.gs_rtsp.specs.declared.question.Question.TheVariants.{Options, Describe, SetUp, Announce, Play}
use Rattle.gs_rtsp.specs.declared.step.Fault.{Fault}
use Rattle.gs_rtsp.specs.declared.step.Fault.TheVariants.{Refused, BadReply}
use Rattle.gs_rtsp.specs.declared.step.Step.{Step}
use Rattle.gs_rtsp.specs.declared.step.Step.TheVariants.{Ask, Ready}
use Rattle.gs_rtsp.specs.declared.step.SetupError.{SetupError}
use Rattle.gs_rtsp.specs.declared.step.SetupError.TheVariants as errors
use Rattle.gs_rtsp.specs.Fields.{field_header, header_number, is_number, is_same_stream, port_of, rtsp_port, data_field}

-- the seven requests, in order; they are numbered from 1
abbrev pub questions : List Question
questions = Options ∷ Describe ∷ SetUp Audio ∷ SetUp Video ∷ SetUp Control ∷ Announce ∷ Play ∷ []

abbrev pub question_number : Question → ℕ
question_number Options = 1
question_number Describe = 2
question_number (SetUp Audio) = 3
question_number (SetUp Video) = 4
question_number (SetUp Control) = 5
question_number Announce = 6
question_number Play = 7

-- ---- what the replies tell

-- the duration of an audio unit that a description names
abbrev pub duration_in : List ℕ → Option ℕ
duration_in body =
    option_and_then (λ n. if n == short_duration || n == long_duration then Some n else None)
    (option_and_then (decimal_up_to long_duration) (last_value (setting_name names.Duration) body))

-- the length of an audio unit that a description names
abbrev pub audio_in : List ℕ → Option ℕ
audio_in body = option_and_then (decimal_up_to most_audio) (last_value (codes "x-gs-audio.length") body)

abbrev pub session_in : List Header → Option ℕ
session_in hs = header_number fields.Session hs

-- the reply to a request by its number, of replies with the newest first
abbrev pub reply_to : ℕ → List Response → Option Response
reply_to k [] = None
reply_to k (r ∷ earlier) = if length earlier + 1 == k then Some r else reply_to k earlier

-- what the reply to a request told, or what was wanted
abbrev pub told_value : ℕ → (Response → Option ℕ) → ℕ → List Response → ℕ
told_value k tells wanted replies = unwrap_or (option_and_then tells (reply_to k replies)) wanted

-- the settings that are wanted, with what the replies to the description and to the first set-up told
abbrev pub agreed : Settings → List Response → StreamSettings
agreed want replies = record {
  packet = want.packet;
  percentage = want.percentage;
  minimum = want.minimum;
  fps = want.fps;
  duration = told_value 2 (λ r. duration_in r.body) want.duration replies;
  audio = told_value 2 (λ r. audio_in r.body) want.audio replies;
  ssrc = told_value 3 (λ r. session_in r.headers) want.ssrc replies;
}

-- the settings with what the reply to a request tells
abbrev pub with_told : Question → Response → StreamSettings → StreamSettings
with_told Describe r s =
    record s { duration = unwrap_or (duration_in r.body) s.duration; audio = unwrap_or (audio_in r.body) s.audio }
with_told (SetUp Audio) r s = record s { ssrc = unwrap_or (session_in r.headers) s.ssrc }
with_told (SetUp Video) r s = s
with_told (SetUp Control) r s = s
with_told Options r s = s
with_told Announce r s = s
with_told Play r s = s

-- ---- the requests

abbrev pub method_of : Question → Method
method_of Options = methods.Options
method_of Describe = methods.Describe
method_of (SetUp stream) = methods.Setup
method_of Announce = methods.Announce
method_of Play = methods.Play

-- an address as four decimal numbers, the most significant byte first
abbrev pub host_text : ℕ → List ℕ
host_text ip = decimal (ip / 2 ^ 24) ++ codes "." ++ decimal (ip / 2 ^ 16 % 2 ^ 8) ++ codes "."
    ++ decimal (ip / 2 ^ 8 % 2 ^ 8) ++ codes "." ++ decimal (ip % 2 ^ 8)

abbrev pub url_of : Addr → List ℕ
url_of host = codes "rtsp://" ++ host_text host.ip ++ codes ":" ++ decimal host.port

abbrev pub stream_target : Stream → List ℕ
stream_target Audio = codes "streamid=audio/0/0"
stream_target Video = codes "streamid=video/0/0"
stream_target Control = codes "streamid=control/1/0"

abbrev pub target_of : Addr → Question → List ℕ
target_of host (SetUp stream) = stream_target stream
target_of host Options = url_of host
target_of host Describe = url_of host
target_of host Announce = url_of host
target_of host Play = url_of host

-- the body that announces settings
unfoldable pub announcement : StreamSettings → List ℕ
announcement s = line_text (setting_name names.PacketSize) (decimal s.packet)
    ++ line_text (setting_name names.MaxFps) (decimal s.fps)
    ++ line_text (setting_name names.Minimum) (decimal s.minimum)
    ++ line_text (setting_name names.Duration) (decimal s.duration)

abbrev pub request_body : StreamSettings → Question → List ℕ
request_body s Announce = announcement s
request_body s Options = []
request_body s Describe = []
request_body s (SetUp stream) = []
request_body s Play = []

-- the session is named from the fourth request on
abbrev pub session_part : ℕ → StreamSettings → List Header
session_part number s = if nat_le 4 number then field_header fields.Session s.ssrc ∷ [] else []

-- the length of a body that isn't empty
abbrev pub length_part : List ℕ → List Header
length_part [] = []
length_part (b ∷ body) = field_header fields.ContentLength (length (b ∷ body)) ∷ []

abbrev pub request_headers : ℕ → StreamSettings → List ℕ → List Header
request_headers number s body =
    (field_header fields.Sequence number ∷ field_header fields.ClientVersion 14 ∷ [])
    ++ session_part number s ++ length_part body

abbrev pub request_for : Addr → StreamSettings → ℕ → Question → Request
request_for host s number question = record {
  method = method_of question;
  target = target_of host question;
  headers = request_headers number s (request_body s question);
  body = request_body s question;
}

-- ---- the faults of a reply

-- the session's number is in its limits, and at the second and third set-up it is that of the first
abbrev pub is_session_allowed : ℕ → Stream → ℕ → Bool
is_session_allowed agreed_on stream n =
    nat_le least_ssrc n && nat_le n most_ssrc && (is_same_stream stream Audio || n == agreed_on)

-- what the reply to a set-up must have, by the session that it names
abbrev pub names_stream : ℕ → ℕ → Stream → List Header → Option ℕ → Bool
names_stream base agreed_on stream hs None = false
names_stream base agreed_on stream hs (Some n) =
    is_session_allowed agreed_on stream n && is_number (port_of base stream) (header_number fields.Port hs)
    && is_number n (header_number (data_field stream) hs)

abbrev pub has_parts : ℕ → ℕ → Question → Response → Bool
has_parts base agreed_on Describe r = is_some (duration_in r.body) && is_some (audio_in r.body)
has_parts base agreed_on (SetUp stream) r = names_stream base agreed_on stream r.headers (session_in r.headers)
has_parts base agreed_on Options r = true
has_parts base agreed_on Announce r = true
has_parts base agreed_on Play r = true

-- a reply of code 200 repeats the request's number, and has what the request asked for
abbrev pub is_good : ℕ → ℕ → ℕ → Question → Response → Bool
is_good base agreed_on number question r =
    is_number number (header_number fields.Sequence r.headers) && has_parts base agreed_on question r

abbrev pub reply_fault : ℕ → ℕ → ℕ → Question → Response → Option Fault
reply_fault base agreed_on number question r =
    if r.code == 200
    then (if is_good base agreed_on number question r then None else Some (BadReply number))
    else Some (Refused r.code)

abbrev pub or_else : Option Fault → Option Fault → Option Fault
or_else None later = later
or_else (Some fault) later = Some fault

abbrev pub host_base : Addr → ℕ
host_base host = host.port - rtsp_port

-- the first fault of the replies to the seven requests, of replies with the newest first
abbrev pub first_reply_fault : Settings → Addr → List Response → Option Fault
first_reply_fault want host [] = None
first_reply_fault want host (r ∷ earlier) =
    or_else (first_reply_fault want host earlier)
    (option_and_then (λ q. reply_fault (host_base host) (agreed want earlier).ssrc (length earlier + 1) q r)
    (slice_get questions (length earlier)))

abbrev pub error_of : Fault → SetupError
error_of (Refused code) = errors.Refused code
error_of (BadReply number) = errors.BadReply number

-- ---- the next step

-- the request behind these replies, where there is one more
abbrev pub next_request : Settings → Addr → List Response → Option Request
next_request want host replies =
    option_map (request_for host (agreed want replies) (length replies + 1)) (slice_get questions (length replies))

-- What is to be done behind these replies: the first fault is told again and again; without one the next request
-- is asked, and behind the last reply the settings are agreed on. Want of memory is free.
abbrev pub IsNextAnswer : Settings → Addr → List Response → Result Step SetupError → Type 0
IsNextAnswer want host replies (Ok (Ask request)) =
    (first_reply_fault want host replies ≡ None) × (next_request want host replies ≡ Some request)
IsNextAnswer want host replies (Ok (Ready s)) =
    (first_reply_fault want host replies ≡ None) × (length replies ≡ length questions)
    × (numbers_of s ≡ agreed want replies)
IsNextAnswer want host replies (Err (errors.Refused code)) = first_reply_fault want host replies ≡ Some (Refused code)
IsNextAnswer want host replies (Err (errors.BadReply number)) =
    first_reply_fault want host replies ≡ Some (BadReply number)
IsNextAnswer want host replies (Err errors.OutOfMemory) = ⊤

-- the replies with one more
abbrev pub with_reply : Option Response → List Response → List Response
with_reply None replies = replies
with_reply (Some r) replies = r ∷ replies
