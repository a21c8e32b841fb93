-- The definitions at small lists, computed.
use Rattle.std.proofs.Common.{◌≡◌, ℕ, zero, suc, List, [], ◌∷◌, ◌++◌, codes, refl, map, Option, Some, None, lit≤}
use Rattle.std.specs.Fmt.{digits}
use Rattle.gs_bytes.specs.declared.addr.Addr.{Addr}
use Rattle.gs_rtp.specs.declared.settings.Settings.{Settings}
use Rattle.gs_rtsp_text.specs.declared.header.Header.{Header}
use Rattle.gs_rtsp_text.specs.declared.message.Method.{Method}
use Rattle.gs_rtsp_text.specs.declared.message.Method.TheVariants.{Options, Describe, Setup, Announce, Play}
use Rattle.gs_rtsp_text.specs.declared.message.Request.{Request}
use Rattle.gs_rtsp_text.specs.declared.message.Response.{Response}
use Rattle.gs_rtsp_text.specs.Writing.{request_text, response_text}
use Rattle.gs_rtsp.specs.declared.field.Field.TheVariants as fields
use Rattle.gs_rtsp.specs.declared.step.Fault.{Fault}
use Rattle.gs_rtsp.specs.declared.step.Fault.TheVariants as faults
use Rattle.gs_rtsp.specs.declared.stream.Stream.TheVariants.{Video, Control}
use Rattle.gs_rtsp.specs.Fields.{field_text, field_number, counted_part, padded, padded_number}
use Rattle.gs_rtsp.specs.Reply.{reply, description, answer_to, stream_in}
use Rattle.gs_rtsp.specs.Asking.{announcement, agreed, first_reply_fault, next_request}

-- ---- spellings

session : field_text fields.Session 7 ≡ codes "DEADBEEF0007"
unfolding padded digits
session = refl

payload : field_text fields.PingPayload 9999 ≡ codes "0000000000009999"
unfolding padded digits
payload = refl

port : field_text fields.Port 47998 ≡ codes "server_port=47998"
unfolding padded digits
port = refl

session_read : map (field_number fields.Session) (codes "DEADBEEF0070" ∷ codes "DEADBEEF070" ∷ codes "DEADBEEF00070" ∷ codes "DEADBEEF70000"
    ∷ codes "DEADBEEf0070" ∷ codes "DEADBEEF0000" ∷ codes "DEADBEEF007x" ∷ []) ≡ Some 70 ∷ None ∷ None ∷ Some 70000 ∷ None ∷ Some 0 ∷ None ∷ []
unfolding padded_number
session_read = refl

sequence_read : map (field_number fields.Sequence) (codes "0" ∷ codes "10" ∷ codes "01" ∷ [] ∷ codes "4294967295" ∷ codes "4294967296" ∷ []) ≡ Some 0
    ∷ Some 10 ∷ None ∷ None ∷ Some 4294967295 ∷ None ∷ []
unfolding padded_number
sequence_read = refl

counted_to : counted_part fields.Session (codes " DEADBEEF0007 ;timeout = 90") ≡ codes "DEADBEEF0007"
counted_to = refl

first_word : map stream_in (codes "x/streamid=video/streamid=audio" ∷ codes "streamid=control/1/0" ∷ codes "streamid=" ∷ []) ≡ Some Video ∷ Some Control
    ∷ None ∷ []
first_word = refl

-- ---- requests and their responses

offer : Settings
offer = record {
  packet = 1100;
  percentage = 20;
  minimum = 1;
  fps = 30;
  duration = 5;
  audio = 240;
  ssrc = 7;
  packet_least = lit≤ tt;
  packet_greatest = lit≤ tt;
  percentage_greatest = lit≤ tt;
  minimum_greatest = lit≤ tt;
  fps_least = lit≤ tt;
  fps_greatest = lit≤ tt;
  duration_known = refl;
  audio_greatest = lit≤ tt;
  ssrc_least = lit≤ tt;
  ssrc_greatest = lit≤ tt;
}

want : Settings
want = record {
  packet = 1392;
  percentage = 20;
  minimum = 2;
  fps = 120;
  duration = 10;
  audio = 0;
  ssrc = 1;
  packet_least = lit≤ tt;
  packet_greatest = lit≤ tt;
  percentage_greatest = lit≤ tt;
  minimum_greatest = lit≤ tt;
  fps_least = lit≤ tt;
  fps_greatest = lit≤ tt;
  duration_known = refl;
  audio_greatest = lit≤ tt;
  ssrc_least = lit≤ tt;
  ssrc_greatest = lit≤ tt;
}

abbrev header : List ℕ → List ℕ → Header
header name value = record { name = name; value = value }

abbrev request : Method → List ℕ → List Header → List ℕ → Request
request method target headers body = record { method = method; target = target; headers = headers; body = body }

abbrev options : Request
options = request Options (codes "rtsp://127.0.0.1:48010") (header (codes "CSeq") (codes "1") ∷ header (codes "X-GS-ClientVersion") (codes "14") ∷ []) []

abbrev with_sequence : List Header → List Header
with_sequence hs = header (codes "cseq") (codes "2") ∷ hs

abbrev in_session : List Header
in_session = with_sequence (header (codes "session") (codes "DEADBEEF0007 ; x") ∷ [])

abbrev set_up : List ℕ → Request
set_up target = request Setup target in_session []

options_text : response_text (reply offer 47989 [] options) ≡ codes "RTSP/1.0 200 OK\r\nCSeq: 1\r\n\r\n"
unfolding offer answer_to
options_text = refl

play_early : response_text (reply offer 47989 (options ∷ []) (request Play (codes "x") (with_sequence []) []))
    ≡ codes "RTSP/1.0 455 Method Not Valid in This State\r\nCSeq: 2\r\n\r\n"
unfolding offer answer_to
play_early = refl

described : response_text (reply offer 47989 [] (request Describe (codes "x") (with_sequence []) []))
    ≡ codes "RTSP/1.0 200 OK\r\nCSeq: 2\r\nContent-length: 55\r\n\r\na=x-nv-aqos.packetDuration:5\r\na=x-gs-audio.length:240\r\n"
unfolding offer answer_to padded digits description
described = refl

set_up_text : response_text (reply offer 47989 [] (request Setup (codes "streamid=audio/0/0") (with_sequence []) []))
    ≡ codes "RTSP/1.0 200 OK\r\nCSeq: 2\r\nSession: DEADBEEF0007;timeout = 90\r\nTransport: server_port=48000\r\nX-SS-Ping-Payload: 0000000000000007\r\n\r\n"
unfolding offer answer_to padded digits
set_up_text = refl

control_text : response_text (reply offer 47989 [] (request Setup (codes "streamid=control/1/0") in_session []))
    ≡ codes "RTSP/1.0 200 OK\r\nCSeq: 2\r\nSession: DEADBEEF0007;timeout = 90\r\nTransport: server_port=47999\r\nX-SS-Connect-Data: 7\r\n\r\n"
unfolding offer answer_to padded digits padded_number
control_text = refl

-- three streams set up, and then an ANNOUNCE of 512
abbrev three : List Request
three = set_up (codes "streamid=control") ∷ set_up (codes "streamid=video") ∷ set_up (codes "streamid=audio") ∷ []

abbrev announce : List ℕ → List Header → Request
announce body hs = request Announce (codes "x") hs body

abbrev code : List Request → Request → ℕ
code earlier r = (reply offer 47989 earlier r).code

bad_announce : code three (announce (codes "a=x-nv-video[0].packetSize:512\r\n") in_session) ≡ 400
unfolding offer answer_to padded_number
bad_announce = refl

good_announce : code three (announce [] in_session) ≡ 200
unfolding offer answer_to padded_number
good_announce = refl

announce_early : code (set_up (codes "streamid=video") ∷ set_up (codes "streamid=audio") ∷ []) (announce [] in_session) ≡ 455
unfolding offer answer_to padded_number
announce_early = refl

no_session : code three (announce [] (with_sequence [])) ≡ 454
unfolding offer answer_to padded_number
no_session = refl

other_session : code [] (request Setup (codes "streamid=audio") (with_sequence (header (codes "Session") (codes "DEADBEEF0008") ∷ [])) []) ≡ 454
unfolding offer answer_to padded_number
other_session = refl

no_stream : code [] (set_up (codes "streamid=pen")) ≡ 400
unfolding offer answer_to padded_number
no_stream = refl

play_after_bad : code (announce (codes "a=x-nv-video[0].packetSize:512\n") in_session ∷ three) (request Play (codes "x") in_session []) ≡ 455
unfolding offer answer_to padded_number
play_after_bad = refl

play_after_good : code (announce (codes "a=x-nv-video[0].packetSize:512\n") in_session ∷ announce [] in_session
    ∷ three) (request Play (codes "x") in_session []) ≡ 200
unfolding offer answer_to padded_number
play_after_good = refl

set_up_late : code (request Play (codes "x") in_session [] ∷ announce [] in_session ∷ three) (set_up (codes "streamid=pen")) ≡ 455
unfolding offer answer_to padded_number
set_up_late = refl

-- ---- a whole set-up

abbrev host : Addr
host = record { ip = 0x7F000001; port = 48010 }

record Talk : Type 0 where
  requests : List Request
  replies : List Response

abbrev told : Talk → Option Request → Talk
told t None = t
told t (Some r) = record { requests = r ∷ t.requests; replies = reply offer 47989 t.requests r ∷ t.replies }

-- the requests and replies of some rounds
abbrev talk : ℕ → Talk
talk zero = record { requests = []; replies = [] }
talk (suc n) = told (talk n) (next_request want host (talk n).replies)

agreed_on : agreed want (talk 7).replies ≡ record { packet = 1392; percentage = 20; minimum = 2; fps = 120; duration = 5; audio = 240; ssrc = 7 }
unfolding offer want answer_to padded padded_number digits description announcement
agreed_on = refl

faultless : first_reply_fault want host (talk 7).replies ≡ None
unfolding offer want answer_to padded padded_number digits description announcement
faultless = refl

asked : map request_text (talk 7).requests ≡
    codes "PLAY rtsp://127.0.0.1:48010 RTSP/1.0\r\nCSeq: 7\r\nX-GS-ClientVersion: 14\r\nSession: DEADBEEF0007\r\n\r\n"
    ∷ (codes "ANNOUNCE rtsp://127.0.0.1:48010 RTSP/1.0\r\nCSeq: 6\r\nX-GS-ClientVersion: 14\r\nSession: DEADBEEF0007\r\nContent-length: 135\r\n\r\n"
    ++ codes "a=x-nv-video[0].packetSize:1392\r\na=x-nv-video[0].maxFPS:120\r\n"
    ++ codes "a=x-nv-vqos[0].fec.minRequiredFecPackets:2\r\na=x-nv-aqos.packetDuration:5\r\n")
    ∷ codes "SETUP streamid=control/1/0 RTSP/1.0\r\nCSeq: 5\r\nX-GS-ClientVersion: 14\r\nSession: DEADBEEF0007\r\n\r\n"
    ∷ codes "SETUP streamid=video/0/0 RTSP/1.0\r\nCSeq: 4\r\nX-GS-ClientVersion: 14\r\nSession: DEADBEEF0007\r\n\r\n"
    ∷ codes "SETUP streamid=audio/0/0 RTSP/1.0\r\nCSeq: 3\r\nX-GS-ClientVersion: 14\r\n\r\n"
    ∷ codes "DESCRIBE rtsp://127.0.0.1:48010 RTSP/1.0\r\nCSeq: 2\r\nX-GS-ClientVersion: 14\r\n\r\n"
    ∷ codes "OPTIONS rtsp://127.0.0.1:48010 RTSP/1.0\r\nCSeq: 1\r\nX-GS-ClientVersion: 14\r\n\r\n"
    ∷ []
unfolding offer want answer_to padded padded_number digits description announcement
asked = refl

-- ---- replies with a fault

abbrev response : ℕ → List Header → List ℕ → Response
response code headers body = record { code = code; headers = headers; body = body }

abbrev numbered : List ℕ → List Header → List Header
numbered n hs = header (codes "CSeq") n ∷ hs

refused : first_reply_fault want host (response 503 [] [] ∷ []) ≡ Some (faults.Refused 503)
unfolding want padded_number
refused = refl

no_sequence : first_reply_fault want host (response 200 [] [] ∷ []) ≡ Some (faults.BadReply 1)
unfolding want padded_number
no_sequence = refl

other_sequence : first_reply_fault want host (response 200 (numbered (codes "2") []) [] ∷ []) ≡ Some (faults.BadReply 1)
unfolding want padded_number
other_sequence = refl

no_duration : first_reply_fault want host (response 200 (numbered (codes "2") []) (codes "a=x-gs-audio.length:240\r\n")
    ∷ response 200 (numbered (codes "1") []) [] ∷ []) ≡ Some (faults.BadReply 2)
unfolding want padded_number
no_duration = refl

-- the reply to the first set-up, with another one behind it: the first fault stays
abbrev two : List Response
two = response 200 (numbered (codes "2") []) (codes "a=x-gs-audio.length:240\r\na=x-nv-aqos.packetDuration:10\r\n")
    ∷ response 200 (numbered (codes "1") []) [] ∷ []

abbrev parts : List ℕ → List ℕ → List ℕ → List Header
parts session port payload = numbered (codes "3") (header (codes "Session") session ∷ header (codes "Transport") port
    ∷ header (codes "X-SS-Ping-Payload") payload ∷ [])

abbrev third : List ℕ → List ℕ → List ℕ → Option Fault
third session port payload = first_reply_fault want host (response 200 (parts session port payload) [] ∷ two)

good_third : third (codes "DEADBEEF0012;timeout = 90") (codes "server_port=48000") (codes "0000000000000012") ≡ None
unfolding want padded_number
good_third = refl

other_port : third (codes "DEADBEEF0012;timeout = 90") (codes "server_port=47998") (codes "0000000000000012") ≡ Some (faults.BadReply 3)
unfolding want padded_number
other_port = refl

other_payload : third (codes "DEADBEEF0012;timeout = 90") (codes "server_port=48000") (codes "0000000000000013") ≡ Some (faults.BadReply 3)
unfolding want padded_number
other_payload = refl

no_number : third (codes "DEADBEEF0000;timeout = 90") (codes "server_port=48000") (codes "0000000000000000") ≡ Some (faults.BadReply 3)
unfolding want padded_number
no_number = refl

first_stays : first_reply_fault want host (response 200 [] [] ∷ response 404 [] [] ∷ response 200 [] [] ∷ two) ≡ Some (faults.BadReply 3)
unfolding want padded_number
first_stays = refl
