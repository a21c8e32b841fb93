-- What is written is in the grammar, and is read again as the same value.
use Rattle.std.proofs.Common.{◌≡◌, ℕ, ◌+◌, ◌/◌, ◌%◌, ◌^◌, ◌<◌, ◌≤◌, Bool, true, List, [], ◌∷◌, ◌++◌, length, refl, sym, ap, subst, ◌∙◌, append_assoc, arith}
use Rattle.std.proofs.Common.{◌⊎◌, inl, inr, length-append}
use Rattle.std.specs.Prelude.{codes, decimal}
use Rattle.std.specs.List.{list_all, flat_map, AllByRecursion}
use Rattle.std.proofs.lemmas.Fmt.{decimal_by_steps}
use Rattle.std.proofs.lemmas.List.{append-nil, take_at}
use Rattle.gs_rtsp_text.specs.declared.header.Header.{Header}
use Rattle.gs_rtsp_text.specs.declared.message.Method.{Method}
use Rattle.gs_rtsp_text.specs.declared.message.Response.{Response}
use Rattle.gs_rtsp_text.specs.Bytes.{crlf, is_value_byte, is_target_byte, IsRunOfBytes}
use Rattle.gs_rtsp_text.specs.Lines.{IsHeader, IsHeaderLine, AreHeaderLines, IsRequestLine, IsStatusLine, method_name, three_digits}
use Rattle.gs_rtsp_text.specs.Message.{TextMessage, IsMessage, IsWhole, is_one, is_at_most_one, request_message, response_message}
use Rattle.gs_rtsp_text.specs.Writing.{header_text, request_line_text, status_line_text, reason_of, head_text, AreRightHeaders, IsSendableResponse}
use Rattle.gs_rtsp_text.specs.Writing.{RequestIsReadAgain, ResponseIsReadAgain}

header_line : (h : Header) → IsHeader h → IsHeaderLine (header_text h) h
header_line h i = (
  i,
  1,
  0,
  ap (λ (u : List ℕ). u ++ crlf) (append_assoc h.name (codes ": ") h.value) ∙ append_assoc h.name (58 ∷ 32 ∷ h.value) crlf
      ∙ ap (λ (u : List ℕ). h.name ++ 58 ∷ 32 ∷ (u ++ crlf)) (sym (append-nil h.value)),
)

header_lines : (hs : List Header) → AllByRecursion IsHeader hs → AreHeaderLines (flat_map header_text hs) hs
header_lines [] a = refl
header_lines (h ∷ hs) a = (header_text h, flat_map header_text hs, header_line h a.0, header_lines hs a.1, refl)

request_line : (m : Method) (t : List ℕ) → IsRunOfBytes is_target_byte t → IsRequestLine (request_line_text m t) (m, t)
request_line m t r = (
  r,
  ap (λ (u : List ℕ). u ++ codes " RTSP/1.0" ++ crlf) (append_assoc (method_name m) (codes " ") t)
      ∙ ap (λ (u : List ℕ). u ++ crlf) (append_assoc (method_name m) (32 ∷ t) (codes " RTSP/1.0"))
      ∙ append_assoc (method_name m) (32 ∷ (t ++ codes " RTSP/1.0")) crlf,
)

abbrev IsCode : ℕ → Type 0
IsCode code = (code ≡ 200) ⊎ ((code ≡ 400) ⊎ ((code ≡ 454) ⊎ (code ≡ 455)))

reason_bytes : (code : ℕ) → IsCode code → (code < 1000) × (list_all is_value_byte (reason_of code) ≡ true)
reason_bytes code (inl e) = (omega arith, ap (λ (c : ℕ). list_all is_value_byte (reason_of c)) e)
reason_bytes code (inr (inl e)) = (omega arith, ap (λ (c : ℕ). list_all is_value_byte (reason_of c)) e)
reason_bytes code (inr (inr (inl e))) = (omega arith, ap (λ (c : ℕ). list_all is_value_byte (reason_of c)) e)
reason_bytes code (inr (inr (inr e))) = (omega arith, ap (λ (c : ℕ). list_all is_value_byte (reason_of c)) e)

status_line : (code : ℕ) → IsCode code → IsStatusLine (status_line_text code) code
status_line code i =
    let r = reason_bytes code i in
    let front = codes "RTSP/1.0 " ++ three_digits code in
    (r.0, reason_of code, r.1, ap (λ (u : List ℕ). u ++ crlf) (append_assoc front (codes " ") (reason_of code)) ∙ append_assoc front (32 ∷ reason_of code) crlf)

module _ {S : Type 0} (IsFirstLine : List ℕ → S → Type 0) (may_have : ℕ → Bool) where
  message_text : (first : List ℕ) (m : TextMessage S) → IsFirstLine first m.start → AreRightHeaders may_have first m.headers m.body
      → IsMessage IsFirstLine may_have (head_text first m.headers ++ m.body) m
  message_text first m l r = record {
    head = head_text first m.headers;
    is_head = record {
      first = first;
      lines = flat_map header_text m.headers;
      first_line = l;
      header_lines = header_lines m.headers r.each;
      parts = refl;
      sequence = r.sequence;
      body_is = r.body_is;
    };
    limit = r.limit;
    parts = refl;
  }

  read_again : (first : List ℕ) (m : TextMessage S) (more : List ℕ) → IsFirstLine first m.start → AreRightHeaders may_have first m.headers m.body
      → IsWhole IsFirstLine may_have ((head_text first m.headers ++ m.body) ++ more) m (length (head_text first m.headers ++ m.body))
  read_again first m more l r =
      let text = head_text first m.headers ++ m.body in (
        omega (arith, length-append text more),
        subst (λ (u : List ℕ). IsMessage IsFirstLine may_have u m) (sym (take_at text more (length text) refl))
            (message_text first m l r),
      )

pub request_is_read_again : RequestIsReadAgain
request_is_read_again r more s = read_again IsRequestLine is_one (request_line_text r.method r.target) (request_message r) more
    (request_line r.method r.target s.target) s.headers

pub response_is_read_again : ResponseIsReadAgain
response_is_read_again r more s = read_again IsStatusLine is_at_most_one (status_line_text r.code) (response_message r) more
    (status_line r.code s.code) s.headers

pub code_below : (r : Response) → IsSendableResponse r → r.code < 1000
code_below r s = (reason_bytes r.code s.code).0

-- ---- the three digits of a code

-- the digits of a number below a thousand
record Digits (n : ℕ) (ds : List ℕ) : Type 0 where
  one : n < 10 → ds ≡ (48 + n) ∷ []
  two : 10 ≤ n → n < 100 → ds ≡ (48 + n / 10) ∷ (48 + n % 10) ∷ []
  three : 100 ≤ n → n < 1000 → ds ≡ three_digits n

one_digit : (n : ℕ) → n < 10 → Digits n ((48 + n) ∷ [])
one_digit n lt = record { one = λ h. refl; two = λ le h. absurd (omega arith); three = λ le h. absurd (omega arith) }

last_digit : (n : ℕ) (ds : List ℕ) → 10 ≤ n → Digits (n / 10) ds → Digits n (ds ++ (48 + n % 10) ∷ [])
last_digit n ds le d = record {
  one = λ h. absurd (omega arith);
  two = λ h lt. ap (λ (xs : List ℕ). xs ++ (48 + n % 10) ∷ []) (d.one (omega arith));
  three = λ h lt.
      let front : ds ≡ (48 + n / 10 / 10) ∷ (48 + n / 10 % 10) ∷ [] = d.two (omega arith) (omega arith) in
      let first : n / 10 / 10 ≡ n / 100 = omega arith in
      ap (λ (xs : List ℕ). xs ++ (48 + n % 10) ∷ []) front
      ∙ ap (λ (k : ℕ). (48 + k) ∷ (48 + n / 10 % 10) ∷ (48 + n % 10) ∷ []) first;
}

digits_are : (n : ℕ) → n < 2 ^ 64 → Digits n (decimal n)
digits_are = decimal_by_steps Digits one_digit last_digit

pub three_digits_by_one : (code : ℕ) → code < 10 → 48 ∷ 48 ∷ decimal code ≡ three_digits code
three_digits_by_one code lt =
    let first : 0 ≡ code / 100 = omega arith in
    let second : 0 ≡ code / 10 % 10 = omega arith in
    let third : code ≡ code % 10 = omega arith in
    ap (λ (ds : List ℕ). 48 ∷ 48 ∷ ds) ((digits_are code (omega arith)).one lt)
    ∙ ap (λ (k : ℕ). (48 + k) ∷ 48 ∷ (48 + code) ∷ []) first
    ∙ ap (λ (k : ℕ). (48 + code / 100) ∷ (48 + k) ∷ (48 + code) ∷ []) second
    ∙ ap (λ (k : ℕ). (48 + code / 100) ∷ (48 + code / 10 % 10) ∷ (48 + k) ∷ []) third

pub three_digits_by_two : (code : ℕ) → 10 ≤ code → code < 100 → 48 ∷ decimal code ≡ three_digits code
three_digits_by_two code le lt =
    let first : 0 ≡ code / 100 = omega arith in
    let second : code / 10 ≡ code / 10 % 10 = omega arith in
    ap (λ (ds : List ℕ). 48 ∷ ds) ((digits_are code (omega arith)).two le lt)
    ∙ ap (λ (k : ℕ). (48 + k) ∷ (48 + code / 10) ∷ (48 + code % 10) ∷ []) first
    ∙ ap (λ (k : ℕ). (48 + code / 100) ∷ (48 + k) ∷ (48 + code % 10) ∷ []) second

pub three_digits_by_three : (code : ℕ) → 100 ≤ code → code < 1000 → decimal code ≡ three_digits code
three_digits_by_three code le lt = (digits_are code (omega arith)).three le lt
