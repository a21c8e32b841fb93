-- Requests and responses as bytes (RFC 2326), and what bytes that come one after the other hold.
use Rattle.std.specs.Prelude.{◌≡◌, ℕ, suc, ◌<◌, ◌≤◌, Bool, ◌==◌, nat_le, IsTrue, ◌⊎◌, List, ◌++◌, length, take, Some}
use Rattle.std.specs.Prelude.{Result, Ok, Err, ⊤}
use Rattle.gs_rtsp_text.specs.declared.limits.TheConstants.{MOST_HEAD}
use Rattle.gs_rtsp_text.specs.declared.header.Header.{Header}
use Rattle.gs_rtsp_text.specs.declared.message.Method.{Method}
use Rattle.gs_rtsp_text.specs.declared.message.Request.{Request}
use Rattle.gs_rtsp_text.specs.declared.message.Response.{Response}
use Rattle.gs_rtsp_text.specs.declared.message.Read.{Read}
use Rattle.gs_rtsp_text.specs.declared.message.Read.TheVariants as reads
use Rattle.gs_rtsp_text.specs.declared.message.TextError.{TextError}
use Rattle.gs_rtsp_text.specs.declared.message.TextError.TheVariants as errors
use Rattle.gs_rtsp_text.specs.declared.read.Behind.{Behind}
use Rattle.gs_rtsp_text.specs.declared.head.Kind.{Kind}
use Rattle.gs_rtsp_text.specs.declared.head.Kind.TheVariants as kinds
use Rattle.gs_rtsp_text.specs.Bytes.{crlf}
use Rattle.gs_rtsp_text.specs.Lines.{AreHeaderLines, IsRequestLine, IsStatusLine, cseq_count, body_length}

-- a message: what its first line says, its headers and its body
pub record TextMessage (S : Type 0) : Type 0 where
  pub start : S
  pub headers : List Header
  pub body : List ℕ

-- the most bytes of a head
abbrev pub most_head : ℕ
most_head = MOST_HEAD

-- what bytes that have come so far hold: a whole message and the bytes that it takes, a byte that can't
-- stand at its place, or neither yet
pub data TextAnswer (S : Type 0) : Type 0 where
  Whole : (message : TextMessage S) (used : ℕ) → TextAnswer S
  BadText : (place : ℕ) → TextAnswer S
  More : TextAnswer S

-- A kind of message is given by its first line, and by how many CSeq headers it may have.
module _ {S : Type 0} (IsFirstLine : List ℕ → S → Type 0) (may_have : ℕ → Bool) where
  -- a first line and header lines, as they may stand before the empty line
  abbrev pub AreLines : List ℕ → Type 0
  AreLines lines = (first rest : List ℕ) × (start : S) × (hs : List Header)
      × IsFirstLine first start × AreHeaderLines rest hs × (lines ≡ first ++ rest)

  -- a head: its lines and the empty line; the headers give the length of the body
  pub record IsHead (head : List ℕ) (start : S) (hs : List Header) (body : ℕ) : Type 0 where
    pub first : List ℕ
    pub lines : List ℕ
    pub first_line : IsFirstLine first start
    pub header_lines : AreHeaderLines lines hs
    pub parts : head ≡ first ++ lines ++ crlf
    pub sequence : IsTrue (may_have (cseq_count hs))
    pub body_is : body_length hs ≡ Some body

  -- a message: a head of at most 4,096 bytes, and the body
  pub record IsMessage (bytes : List ℕ) (m : TextMessage S) : Type 0 where
    pub head : List ℕ
    pub is_head : IsHead head m.start m.headers (length m.body)
    pub limit : length head ≤ most_head
    pub parts : bytes ≡ head ++ m.body

  -- the bytes begin with a whole head
  abbrev pub HasHead : List ℕ → Type 0
  HasHead bytes = (head rest : List ℕ) × (start : S) × (hs : List Header) × (body : ℕ)
      × IsHead head start hs body × (bytes ≡ head ++ rest)

  -- A message can begin so: the bytes go on to lines, or to a whole head. What the headers say together
  -- is judged at the empty line, so any lines go on.
  abbrev pub CanBegin : List ℕ → Type 0
  CanBegin bytes = (more : List ℕ) × (AreLines (bytes ++ more) ⊎ HasHead (bytes ++ more))

  -- the byte at the place is the first with which no message can go on
  pub record GoesWrongAt (bytes : List ℕ) (place : ℕ) : Type 0 where
    pub within : place < length bytes
    pub limit : place < most_head
    pub before : CanBegin (take place bytes)
    pub never : CanBegin (take (suc place) bytes) → ⊥

  -- no head ends within 4,096 bytes
  pub record IsTooLong (bytes : List ℕ) : Type 0 where
    pub long : most_head ≤ length bytes
    pub before : CanBegin (take most_head bytes)
    pub endless : HasHead (take most_head bytes) → ⊥

  abbrev pub IsBadPlace : List ℕ → ℕ → Type 0
  IsBadPlace bytes place = GoesWrongAt bytes place ⊎ ((place ≡ most_head) × IsTooLong bytes)

  -- a front of the bytes is a message
  abbrev pub IsWhole : List ℕ → TextMessage S → ℕ → Type 0
  IsWhole bytes m used = (used ≤ length bytes) × IsMessage (take used bytes) m

  -- neither
  pub record IsOpen (bytes : List ℕ) : Type 0 where
    pub not_whole : (m : TextMessage S) (used : ℕ) → IsWhole bytes m used → ⊥
    pub not_bad : (place : ℕ) → IsBadPlace bytes place → ⊥

  abbrev pub IsAnswer : List ℕ → TextAnswer S → Type 0
  IsAnswer bytes (Whole m used) = IsWhole bytes m used
  IsAnswer bytes (BadText place) = IsBadPlace bytes place
  IsAnswer bytes More = IsOpen bytes

-- a request has exactly one CSeq
abbrev pub is_one : ℕ → Bool
is_one n = n == 1

-- a response may lack it
abbrev pub is_at_most_one : ℕ → Bool
is_at_most_one n = nat_le n 1

abbrev pub count_test : Kind → ℕ → Bool
count_test kinds.Request = is_one
count_test kinds.Response = is_at_most_one

-- a message of which the first line isn't said
abbrev pub behind_message : Behind → TextMessage ⊤
behind_message b = record { start = tt; headers = b.headers; body = b.body }

abbrev pub request_message : Request → TextMessage (Method × List ℕ)
request_message r = record { start = (r.method, r.target); headers = r.headers; body = r.body }

abbrev pub response_message : Response → TextMessage ℕ
response_message r = record { start = r.code; headers = r.headers; body = r.body }

-- ---- requests and responses

-- the bytes are a request
abbrev pub IsRequest : List ℕ → Request → Type 0
IsRequest bytes r = IsMessage IsRequestLine is_one bytes (request_message r)

abbrev pub IsBadRequestPlace : List ℕ → ℕ → Type 0
IsBadRequestPlace bytes place = IsBadPlace IsRequestLine is_one bytes place

abbrev pub IsOpenRequest : List ℕ → Type 0
IsOpenRequest bytes = IsOpen IsRequestLine is_one bytes

abbrev pub IsRequestAnswer : List ℕ → TextAnswer (Method × List ℕ) → Type 0
IsRequestAnswer bytes a = IsAnswer IsRequestLine is_one bytes a

-- the bytes are a response
abbrev pub IsResponse : List ℕ → Response → Type 0
IsResponse bytes r = IsMessage IsStatusLine is_at_most_one bytes (response_message r)

abbrev pub IsBadResponsePlace : List ℕ → ℕ → Type 0
IsBadResponsePlace bytes place = IsBadPlace IsStatusLine is_at_most_one bytes place

abbrev pub IsOpenResponse : List ℕ → Type 0
IsOpenResponse bytes = IsOpen IsStatusLine is_at_most_one bytes

abbrev pub IsResponseAnswer : List ℕ → TextAnswer ℕ → Type 0
IsResponseAnswer bytes a = IsAnswer IsStatusLine is_at_most_one bytes a

-- ---- what a reader returned

-- a fact of a whole message and the bytes that it takes
abbrev pub IfWhole : {T : Type 0} → Result (Read T) TextError → (T → ℕ → Type 0) → Type 0
IfWhole (Ok (reads.Whole value used)) P = P value used
IfWhole (Ok reads.More) P = ⊤
IfWhole (Err e) P = ⊤

-- the result is this answer, unless memory ran out
abbrev pub AnswersText : {T S : Type 0} → (T → TextMessage S) → Result (Read T) TextError → TextAnswer S → Type 0
AnswersText view (Ok (reads.Whole value used)) a = a ≡ Whole (view value) used
AnswersText view (Ok reads.More) a = a ≡ More
AnswersText view (Err (errors.BadText place)) a = a ≡ BadText place
AnswersText view (Err errors.OutOfMemory) a = ⊤
