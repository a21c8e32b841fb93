-- The requests of a client can be written.
use Rattle.std.proofs.Common.{◌≡◌, ℕ, ◌+◌, ◌/◌, ◌%◌, ◌^◌, ◌<◌, ◌≤◌, Bool, true, false, leb, cond, List, [], ◌∷◌, ◌++◌, length, codes, refl, arith}
use Rattle.std.proofs.Common.{length-append, lit<, lit≤}
use Rattle.std.specs.Prelude.{decimal}
use Rattle.std.specs.List.{list_all}
use Rattle.std.proofs.lemmas.Bool.Decides.{nat_tests}
use Rattle.gs_bytes.proofs.Decimals.{length-decimal_most}
use Rattle.gs_bytes.specs.declared.addr.Addr.{Addr}
use Rattle.gs_rtp.specs.Stream.{StreamSettings}
use Rattle.gs_rtsp_text.specs.declared.header.Header.{Header}
use Rattle.gs_rtsp_text.specs.declared.message.Method.{Method}
use Rattle.gs_rtsp_text.specs.declared.message.Method.TheVariants as methods
use Rattle.gs_rtsp_text.specs.Bytes.{is_target_byte}
use Rattle.gs_rtsp_text.specs.Lines.{method_name}
use Rattle.gs_rtsp_text.specs.Message.{is_one}
use Rattle.gs_rtsp_text.specs.Writing.{request_line_text, AreRightHeaders, IsSendableRequest}
use Rattle.gs_bytes.proofs.Lists.{all-append}
use Rattle.gs_rtsp.specs.declared.field.Field.TheVariants as fields
use Rattle.gs_rtsp.specs.declared.question.Question.{Question}
use Rattle.gs_rtsp.specs.declared.question.Question.TheVariants.{Options, Describe, SetUp, Announce, Play}
use Rattle.gs_rtsp.specs.declared.stream.Stream.TheVariants.{Audio, Video, Control}
use Rattle.gs_rtsp.specs.Fields.{field_header}
use Rattle.gs_rtsp.specs.Asking.{method_of, host_text, url_of, target_of, request_body, length_part, request_for}
use Rattle.gs_rtsp.proofs.Sendable.{all_decimal, field_is_header, length_read, length_head, length_text}

-- ---- targets

abbrev AreTargetBytes : List ℕ → Type 0
AreTargetBytes s = list_all is_target_byte s ≡ true

digits_pass : (n : ℕ) → n < 2 ^ 32 → AreTargetBytes (decimal n)
digits_pass n lt = all_decimal is_target_byte (λ b d. grind (arith, nat_tests)) n (omega arith)

both : (a b : List ℕ) → AreTargetBytes a → AreTargetBytes b → AreTargetBytes (a ++ b)
both a b ea eb = all-append is_target_byte a b ea eb

dotted : (a : List ℕ) (n : ℕ) → AreTargetBytes a → n < 2 ^ 32 → AreTargetBytes (a ++ codes "." ++ decimal n)
dotted a n e lt = both (a ++ codes ".") (decimal n) (both a (codes ".") e refl) (digits_pass n lt)

host_passes : (ip : ℕ) → ip < 2 ^ 32 → AreTargetBytes (host_text ip)
host_passes ip lt =
    let a = dotted (decimal (ip / 2 ^ 24)) (ip / 2 ^ 16 % 2 ^ 8) (digits_pass (ip / 2 ^ 24) (omega arith)) (omega arith) in
    let b = dotted (decimal (ip / 2 ^ 24) ++ codes "." ++ decimal (ip / 2 ^ 16 % 2 ^ 8)) (ip / 2 ^ 8 % 2 ^ 8) a (omega arith) in
    dotted (decimal (ip / 2 ^ 24) ++ codes "." ++ decimal (ip / 2 ^ 16 % 2 ^ 8) ++ codes "." ++ decimal (ip / 2 ^ 8 % 2 ^ 8)) (ip % 2 ^ 8) b (omega arith)

url_passes : (host : Addr) → host.ip < 2 ^ 32 → host.port < 2 ^ 16 → AreTargetBytes (url_of host)
url_passes host li lp =
    let a = both (codes "rtsp://") (host_text host.ip) refl (host_passes host.ip li) in
    both (codes "rtsp://" ++ host_text host.ip
    ++ codes ":") (decimal host.port) (both (codes "rtsp://" ++ host_text host.ip) (codes ":") a refl) (digits_pass host.port (omega arith))

-- a target: its bytes, and how long it is
record Target (s : List ℕ) : Type 0 where
  some : s ≡ [] → ⊥
  each : AreTargetBytes s
  short : length s ≤ 100

length_dotted : (a : List ℕ) (n : ℕ) → n < 2 ^ 32 → length (a ++ codes "." ++ decimal n) ≤ length a + 11
length_dotted a n lt = omega (arith, length-append (a ++ codes ".") (decimal n), length-append a (codes "."), length-decimal_most n lt)

length_host : (ip : ℕ) → ip < 2 ^ 32 → length (host_text ip) ≤ 43
length_host ip lt =
    let a = decimal (ip / 2 ^ 24) in
    let b = a ++ codes "." ++ decimal (ip / 2 ^ 16 % 2 ^ 8) in
    let c = b ++ codes "." ++ decimal (ip / 2 ^ 8 % 2 ^ 8) in
    let la : length a ≤ 10 = length-decimal_most (ip / 2 ^ 24) (omega arith) in
    let lb : length b ≤ 21 = omega (arith, length_dotted a (ip / 2 ^ 16 % 2 ^ 8) (omega arith)) in
    let lc : length c ≤ 32 = omega (arith, length_dotted b (ip / 2 ^ 8 % 2 ^ 8) (omega arith)) in
    omega (arith, length_dotted c (ip % 2 ^ 8) (omega arith))

length_url : (host : Addr) → host.ip < 2 ^ 32 → host.port < 2 ^ 16 → length (url_of host) ≤ 100
length_url host li lp = omega (
  arith,
  length-append (codes "rtsp://" ++ host_text host.ip ++ codes ":") (decimal host.port),
  length-append (codes "rtsp://" ++ host_text host.ip) (codes ":"),
  length-append (codes "rtsp://") (host_text host.ip),
  length_host host.ip li,
  length-decimal_most host.port (omega arith),
)

url_target : (host : Addr) → host.ip < 2 ^ 32 → host.port < 2 ^ 16 → Target (url_of host)
url_target host li lp = record { some = λ e. absurd (cc); each = url_passes host li lp; short = length_url host li lp }

target : (host : Addr) (question : Question) → host.ip < 2 ^ 32 → host.port < 2 ^ 16 → Target (target_of host question)
target host Options li lp = url_target host li lp
target host Describe li lp = url_target host li lp
target host (SetUp Audio) li lp = record { some = λ e. cc; each = refl; short = lit≤ tt }
target host (SetUp Video) li lp = record { some = λ e. cc; each = refl; short = lit≤ tt }
target host (SetUp Control) li lp = record { some = λ e. cc; each = refl; short = lit≤ tt }
target host Announce li lp = url_target host li lp
target host Play li lp = url_target host li lp

-- ---- headers

length_method : (m : Method) → length (method_name m) ≤ 8
length_method methods.Options = lit≤ tt
length_method methods.Describe = lit≤ tt
length_method methods.Setup = lit≤ tt
length_method methods.Announce = lit≤ tt
length_method methods.Play = lit≤ tt

length_first : (m : Method) (s : List ℕ) → length s ≤ 100 → length (request_line_text m s) ≤ 120
length_first m s le = omega (
  arith,
  length-append (method_name m ++ codes " " ++ s ++ codes " RTSP/1.0") (codes "\r\n"),
  length-append (method_name m ++ codes " " ++ s) (codes " RTSP/1.0"),
  length-append (method_name m ++ codes " ") s,
  length-append (method_name m) (codes " "),
  length_method m,
)

abbrev headers_by : Bool → ℕ → StreamSettings → List ℕ → List Header
headers_by t number s body =
    (field_header fields.Sequence number ∷ field_header fields.ClientVersion 14 ∷ []) ++ cond t (field_header fields.Session s.ssrc ∷ []) []
    ++ length_part body

right_by : (t : Bool) (first : List ℕ) (number : ℕ) (s : StreamSettings) (body : List ℕ) → length first ≤ 120 → number < 2 ^ 31 → s.ssrc ≤ 9999
    → length body ≤ 200 → AreRightHeaders is_one first (headers_by t number s body) body
right_by true first number s [] lf ln ls lb = record {
  each = (
    field_is_header fields.Sequence number ln,
    (field_is_header fields.ClientVersion 14 (lit< tt), (field_is_header fields.Session s.ssrc (omega arith), tt)),
  );
  sequence = refl;
  body_is = refl;
  limit = omega (
    arith,
    length_head first (headers_by true number s []),
    length_text fields.Sequence number ln,
    length_text fields.ClientVersion 14 (lit< tt),
    length_text fields.Session s.ssrc (omega arith),
  );
}
right_by false first number s [] lf ln ls lb = record {
  each = (field_is_header fields.Sequence number ln, (field_is_header fields.ClientVersion 14 (lit< tt), tt));
  sequence = refl;
  body_is = refl;
  limit = omega (
    arith,
    length_head first (headers_by false number s []),
    length_text fields.Sequence number ln,
    length_text fields.ClientVersion 14 (lit< tt),
  );
}
right_by true first number s (b ∷ body) lf ln ls lb = record {
  each = (
    field_is_header fields.Sequence number ln,
    (
      field_is_header fields.ClientVersion 14 (lit< tt),
      (field_is_header fields.Session s.ssrc (omega arith), (field_is_header fields.ContentLength (length (b ∷ body)) (omega arith), tt)),
    ),
  );
  sequence = refl;
  body_is = length_read (length (b ∷ body)) (omega arith);
  limit = omega (
    arith,
    length_head first (headers_by true number s (b ∷ body)),
    length_text fields.Sequence number ln,
    length_text fields.ClientVersion 14 (lit< tt),
    length_text fields.Session s.ssrc (omega arith),
    length_text fields.ContentLength (length (b ∷ body)) (omega arith),
  );
}
right_by false first number s (b ∷ body) lf ln ls lb = record {
  each = (
    field_is_header fields.Sequence number ln,
    (field_is_header fields.ClientVersion 14 (lit< tt), (field_is_header fields.ContentLength (length (b ∷ body)) (omega arith), tt)),
  );
  sequence = refl;
  body_is = length_read (length (b ∷ body)) (omega arith);
  limit = omega (
    arith,
    length_head first (headers_by false number s (b ∷ body)),
    length_text fields.Sequence number ln,
    length_text fields.ClientVersion 14 (lit< tt),
    length_text fields.ContentLength (length (b ∷ body)) (omega arith),
  );
}

pub is_sendable : (host : Addr) (s : StreamSettings) (number : ℕ) (question : Question) → host.ip < 2 ^ 32 → host.port < 2 ^ 16 → number < 2 ^ 31
    → s.ssrc ≤ 9999 → length (request_body s question) ≤ 200 → IsSendableRequest (request_for host s number question)
is_sendable host s number question li lp ln ls lb =
    let t = target host question li lp in
    record {
      target = (t.some, t.each);
      headers = right_by (leb 4 number) (request_line_text (method_of question) (target_of host question)) number s (request_body s question)
          (length_first (method_of question) (target_of host question) t.short) ln ls lb;
    }
