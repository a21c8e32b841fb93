-- The answer to each request of a list, by the first row of a table that holds.
use Rattle.std.specs.Prelude.{ℕ, Bool, true, false, not, ◌&&◌, ◌||◌, nat_eq, List, [], ◌∷◌, ◌++◌, length, codes}
use Rattle.std.specs.Prelude.{decimal, Option, Some, None, is_some, is_none, unwrap_or, option_map, if◌then◌else◌}
use Rattle.std.specs.List.{list_any, find, starts_with}
use Rattle.gs_rtp.specs.declared.settings.Settings.{Settings}
use Rattle.gs_rtsp_text.specs.declared.header.Header.{Header}
use Rattle.gs_rtsp_text.specs.declared.message.Method.{Method}
use Rattle.gs_rtsp_text.specs.declared.message.Method.TheVariants.{Options, Describe, Setup, Announce, Play}
use Rattle.gs_rtsp_text.specs.declared.message.Request.{Request}
use Rattle.gs_rtsp_text.specs.declared.message.Response.{Response}
use Rattle.gs_rtsp_text.specs.Lines.{value_by}
use Rattle.gs_sdp.specs.declared.attributes.SettingName.TheVariants.{PacketSize, MaxFps, Minimum, Duration}
use Rattle.gs_sdp.specs.Lines.{line_text}
use Rattle.gs_sdp.specs.Table.{setting_name, setting}
use Rattle.gs_rtsp.specs.declared.field.Field.TheVariants.{Session, Port, ContentLength}
use Rattle.gs_rtsp.specs.declared.stream.Stream.{Stream}
use Rattle.gs_rtsp.specs.declared.stream.Stream.TheVariants.{Audio, Video, Control}
use Rattle.gs_rtsp.specs.Fields.{field_text, field_header, header_number, is_number, is_same_stream, port_of}
use Rattle.gs_rtsp.specs.Fields.{data_field}

-- an answer, and what it changes
pub data Answer : Type 0 where
  -- 200, and nothing changes
  Unchanged : Answer
  -- 200 with the offer's attributes, and nothing changes
  Described : Answer
  -- 200, and the stream is set up
  SetUp : (stream : Stream) → Answer
  -- 200, and the settings of the body are kept
  Announced : Answer
  -- 200, and the session plays
  Playing : Answer
  -- this code, and nothing changes
  Refused : (code : ℕ) → Answer

abbrev pub status_code : Answer → ℕ
status_code Unchanged = 200
status_code Described = 200
status_code (SetUp stream) = 200
status_code Announced = 200
status_code Playing = 200
status_code (Refused code) = code

-- ---- what answered requests leave

-- a request with its answer
pub record Answered : Type 0 where
  pub request : Request
  pub answer : Answer

abbrev pub sets_up : Stream → Answer → Bool
sets_up stream (SetUp other) = is_same_stream stream other
sets_up stream _ = false

abbrev pub is_announced : Answer → Bool
is_announced Announced = true
is_announced _ = false

abbrev pub is_played : Answer → Bool
is_played Playing = true
is_played _ = false

abbrev pub is_set_up : Stream → List Answered → Bool
is_set_up stream past = list_any (λ a. sets_up stream a.answer) past

abbrev pub are_all_set_up : List Answered → Bool
are_all_set_up past = is_set_up Audio past && is_set_up Video past && is_set_up Control past

-- the body of the newest ANNOUNCE that was accepted
abbrev pub announced_body : List Answered → Option (List ℕ)
announced_body past = option_map (λ a. a.request.body) (find (λ a. is_announced a.answer) past)

abbrev pub is_playing : List Answered → Bool
is_playing past = list_any (λ a. is_played a.answer) past

-- ---- what a request names

abbrev pub is_method : Method → Method → Bool
is_method Options Options = true
is_method Describe Describe = true
is_method Setup Setup = true
is_method Announce Announce = true
is_method Play Play = true
is_method _ _ = false

-- the word of a stream in a target
abbrev pub stream_word : Stream → List ℕ
stream_word Audio = codes "streamid=audio"
stream_word Video = codes "streamid=video"
stream_word Control = codes "streamid=control"

-- the stream whose word these bytes begin with
abbrev pub stream_at : List ℕ → Option Stream
stream_at bytes =
    if starts_with nat_eq bytes (stream_word Audio) then Some Audio
    else (if starts_with nat_eq bytes (stream_word Video) then Some Video
    else (if starts_with nat_eq bytes (stream_word Control) then Some Control else None))

abbrev pub first_of : Option Stream → Option Stream → Option Stream
first_of None later = later
first_of (Some stream) later = Some stream

-- the stream whose word stands first in a target
abbrev pub stream_in : List ℕ → Option Stream
stream_in [] = None
stream_in (b ∷ bytes) = first_of (stream_at (b ∷ bytes)) (stream_in bytes)

-- the session's header is there
abbrev pub names_session : ℕ → List Header → Bool
names_session number hs = is_number number (header_number Session hs)

-- a session header is there, and it isn't the session's
abbrev pub names_other_session : ℕ → List Header → Bool
names_other_session number hs = is_some (value_by (codes "Session") hs) && not (names_session number hs)

-- each of the four settings is one, or missing
abbrev pub names_settings : Settings → List ℕ → Bool
names_settings offer body =
    is_some (setting PacketSize body offer) && is_some (setting MaxFps body offer)
    && is_some (setting Minimum body offer) && is_some (setting Duration body offer)

-- ---- the table

abbrev pub first_row : List (Bool × Answer) → Answer → Answer
first_row [] last = last
first_row (row ∷ rows) last = if row.0 then row.1 else first_row rows last

abbrev pub set_up_by : Option Stream → Answer
set_up_by None = Refused 400
set_up_by (Some stream) = SetUp stream

-- The answer to a request with this method, target, headers and body, behind those that were answered.
abbrev pub answer_by : Settings → List Answered → Method → Request → Answer
answer_by offer past method r = first_row (
    (is_method method Options, Unchanged)
    ∷ (is_method method Describe, Described)
    ∷ ((is_method method Setup || is_method method Announce) && is_playing past, Refused 455)
    ∷ (is_method method Setup && is_none (stream_in r.target), Refused 400)
    ∷ (is_method method Setup && names_other_session offer.ssrc r.headers, Refused 454)
    ∷ (is_method method Setup, set_up_by (stream_in r.target))
    ∷ (is_method method Announce && not (are_all_set_up past), Refused 455)
    ∷ (is_method method Play && is_none (announced_body past), Refused 455)
    ∷ (not (names_session offer.ssrc r.headers), Refused 454)
    ∷ (is_method method Announce && not (names_settings offer r.body), Refused 400)
    ∷ (is_method method Announce, Announced)
    ∷ []) Playing

unfoldable pub answer_to : Settings → List Answered → Request → Answer
answer_to offer past r = answer_by offer past r.method r

-- the requests of a list with their answers, the newest first
abbrev pub answered : Settings → List Request → List Answered
answered offer [] = []
answered offer (r ∷ earlier) =
    record { request = r; answer = answer_to offer (answered offer earlier) r } ∷ answered offer earlier

-- ---- the response

-- the attributes of an offer
unfoldable pub description : Settings → List ℕ
description offer =
    line_text (setting_name Duration) (decimal offer.duration)
    ++ line_text (codes "x-gs-audio.length") (decimal offer.audio)

-- the number of the request, as it came
abbrev pub repeated_sequence : Request → Header
repeated_sequence r =
    record { name = codes "CSeq"; value = unwrap_or (value_by (codes "CSeq") r.headers) [] }

-- the session, with how long it lasts without a request
abbrev pub session_header : ℕ → Header
session_header number =
    record { name = codes "Session"; value = field_text Session number ++ codes ";timeout = 90" }

-- what a client has to know of a stream
abbrev pub stream_headers : ℕ → ℕ → Stream → List Header
stream_headers session base stream =
    session_header session ∷ field_header Port (port_of base stream)
    ∷ field_header (data_field stream) session ∷ []

abbrev pub headers_by : Settings → ℕ → Answer → List Header
headers_by offer base Described = field_header ContentLength (length (description offer)) ∷ []
headers_by offer base (SetUp stream) = stream_headers offer.ssrc base stream
headers_by offer base _ = []

abbrev pub body_by : Settings → Answer → List ℕ
body_by offer Described = description offer
body_by offer _ = []

abbrev pub response_by : Settings → ℕ → Request → Answer → Response
response_by offer base r answer =
    record {
      code = status_code answer;
      headers = repeated_sequence r ∷ headers_by offer base answer;
      body = body_by offer answer;
    }

-- The response to a request behind earlier ones, of which the newest stands first: the offer's settings have
-- the session's number, and the base gives the ports.
abbrev pub reply : Settings → ℕ → List Request → Request → Response
reply offer base earlier r = response_by offer base r (answer_to offer (answered offer earlier) r)
