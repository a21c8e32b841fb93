-- The text of requests and responses, as it is written.
use Rattle.std.specs.Prelude.{◌≡◌, ℕ, ◌≤◌, Bool, ◌==◌, IsTrue, ◌⊎◌, List, [], ◌++◌, length, codes, Some, if◌then◌else◌}
use Rattle.std.specs.List.{flat_map, AllByRecursion}
use Rattle.gs_rtsp_text.specs.declared.header.Header.{Header}
use Rattle.gs_rtsp_text.specs.declared.message.Method.{Method}
use Rattle.gs_rtsp_text.specs.declared.message.Request.{Request}
use Rattle.gs_rtsp_text.specs.declared.message.Response.{Response}
use Rattle.gs_rtsp_text.specs.Bytes.{crlf, is_target_byte, IsRunOfBytes}
use Rattle.gs_rtsp_text.specs.Lines.{IsHeader, cseq_count, body_length, method_name, three_digits}
use Rattle.gs_rtsp_text.specs.Message.{Whole, most_head, is_one, is_at_most_one, request_message, response_message}
use Rattle.gs_rtsp_text.specs.Message.{IsRequestAnswer, IsResponseAnswer}

abbrev pub header_text : Header → List ℕ
header_text h = h.name ++ codes ": " ++ h.value ++ crlf

abbrev pub request_line_text : Method → List ℕ → List ℕ
request_line_text method target = method_name method ++ codes " " ++ target ++ codes " RTSP/1.0" ++ crlf

-- the words behind a code
abbrev pub reason_of : ℕ → List ℕ
reason_of code =
    if code == 200 then codes "OK" else (if code == 400 then codes "Bad Request"
    else (if code == 454 then codes "Session Not Found"
    else (if code == 455 then codes "Method Not Valid in This State" else [])))

abbrev pub status_line_text : ℕ → List ℕ
status_line_text code = codes "RTSP/1.0 " ++ three_digits code ++ codes " " ++ reason_of code ++ crlf

-- a first line, header lines and the empty line
abbrev pub head_text : List ℕ → List Header → List ℕ
head_text first hs = first ++ flat_map header_text hs ++ crlf

abbrev pub request_text : Request → List ℕ
request_text r = head_text (request_line_text r.method r.target) r.headers ++ r.body

abbrev pub response_text : Response → List ℕ
response_text r = head_text (status_line_text r.code) r.headers ++ r.body

-- the headers are in the grammar and say how long the body is, and the head is within its limit
pub record AreRightHeaders (may_have : ℕ → Bool) (first : List ℕ) (hs : List Header) (body : List ℕ) : Type 0 where
  pub each : AllByRecursion IsHeader hs
  pub sequence : IsTrue (may_have (cseq_count hs))
  pub body_is : body_length hs ≡ Some (length body)
  pub limit : length (head_text first hs) ≤ most_head

-- a request whose text is in the grammar
pub record IsSendableRequest (r : Request) : Type 0 where
  pub target : IsRunOfBytes is_target_byte r.target
  pub headers : AreRightHeaders is_one (request_line_text r.method r.target) r.headers r.body

-- a response whose text is in the grammar, with a code that this profile has
pub record IsSendableResponse (r : Response) : Type 0 where
  pub code : (r.code ≡ 200) ⊎ ((r.code ≡ 400) ⊎ ((r.code ≡ 454) ⊎ (r.code ≡ 455)))
  pub headers : AreRightHeaders is_at_most_one (status_line_text r.code) r.headers r.body

-- what is written is read again as the same value, whatever comes behind it
abbrev pub RequestIsReadAgain : Type 0
RequestIsReadAgain = (r : Request) (more : List ℕ) → IsSendableRequest r
    → IsRequestAnswer (request_text r ++ more) (Whole (request_message r) (length (request_text r)))

abbrev pub ResponseIsReadAgain : Type 0
ResponseIsReadAgain = (r : Response) (more : List ℕ) → IsSendableResponse r
    → IsResponseAnswer (response_text r ++ more) (Whole (response_message r) (length (response_text r)))
