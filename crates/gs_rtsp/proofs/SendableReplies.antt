-- The response to a request that was read can be written.
use Rattle.std.proofs.Common.{◌≡◌, ◌⊎◌, ℕ, ◌^◌, ◌<◌, ◌≤◌, Bool, true, false, eqb, ◌||◌, List, [], ◌∷◌, ◌++◌, length, reverse, codes, Option, Some, refl, sym}
use Rattle.std.proofs.Common.{ap, subst, ◌∙◌, arith, length-append, lit<, lit≤, inl, inr}
use Rattle.std.specs.Prelude.{unwrap_or}
use Rattle.std.specs.List.{list_all}
use Rattle.std.proofs.lemmas.Bool.{false≢true}
use Rattle.std.proofs.lemmas.Bool.Decides.{nat_tests}
use Rattle.std.proofs.lemmas.Fmt.{length-decimal-le}
use Rattle.std.proofs.lemmas.List.{reverse-append}
use Rattle.gs_rtp.specs.declared.settings.Settings.{Settings}
use Rattle.gs_rtsp_text.specs.declared.message.Request.{Request}
use Rattle.gs_bytes.specs.Numbers.{is_decimal, number_of}
use Rattle.gs_rtsp_text.specs.Bytes.{is_value_byte, is_sequence_number}
use Rattle.gs_bytes.specs.Words.{HasNoOuterSpace}
use Rattle.gs_rtsp_text.specs.Lines.{IsHeader, cseq_count, body_length}
use Rattle.gs_rtsp_text.specs.Message.{IsRequest, is_at_most_one}
use Rattle.gs_rtsp_text.specs.Writing.{status_line_text, AreRightHeaders, IsSendableResponse}
use Rattle.gs_bytes.proofs.Decimals.{decimal_digits, decimal_is_printed}
use Rattle.gs_bytes.proofs.Lists.{all-append}
use Rattle.gs_bytes.proofs.Decimals.{digits_all}
use Rattle.gs_bytes.proofs.SpaceLemmas.{digits_outer}
use Rattle.gs_rtsp.specs.declared.field.Field.TheVariants.{Session, Port, ContentLength}
use Rattle.gs_rtsp.specs.declared.stream.Stream.{Stream}
use Rattle.gs_rtsp.specs.declared.stream.Stream.TheVariants.{Audio, Video, Control}
use Rattle.gs_rtsp.specs.Fields.{field_text, field_header, port_of, data_field}
use Rattle.gs_rtsp.specs.Reply.{Answer, Unchanged, Described, SetUp, Announced, Playing, Refused, status_code, repeated_sequence, session_header}
use Rattle.gs_rtsp.specs.Reply.{stream_headers}
use Rattle.gs_rtsp.specs.Reply.{description, response_by}
use Rattle.gs_rtsp.specs.Verdicts.{is_answered_code}
use Rattle.gs_rtsp.proofs.Lengths.{length_description}
use Rattle.gs_rtsp.proofs.Sendable.{Numbered, numbered, field_is_header, text_is_value, length_read, length_head, length_text, length_name}

-- ---- the repeated number

-- the number's header, and how long it is
record Repeated (r : Request) : Type 0 where
  is_header : IsHeader (repeated_sequence r)
  short : length (repeated_sequence r).value ≤ 10

sequence_parts : (v : List ℕ) → is_sequence_number v ≡ true → (is_decimal v ≡ true) × (number_of v < 2 ^ 31)
sequence_parts v e = by_tests (is_decimal v) refl
  where
    by_tests : (t : Bool) → is_decimal v ≡ t → (is_decimal v ≡ true) × (number_of v < 2 ^ 31)
    by_tests true d = (d, grind (arith, nat_tests, e, d))
    by_tests false d = absurd (false≢true (grind (arith, e, d)))

repeated_value : (r : Request) (n : Numbered r.headers) → (repeated_sequence r).value ≡ n.value
repeated_value r n = ap (λ (o : Option (List ℕ)). unwrap_or o []) n.found

short_sequence : (v : List ℕ) → is_sequence_number v ≡ true → length v ≤ 10
short_sequence v e =
    let p = sequence_parts v e in
    let text = ap length (decimal_is_printed v p.0 (omega (arith, p.1))) in
    omega (arith, text, length-decimal-le 10 (number_of v) (lit< tt) (omega (arith, p.1)) (omega (arith, p.1)))

repeated : (r : Request) → Numbered r.headers → Repeated r
repeated r n =
    let p = sequence_parts n.value n.number in
    let digits = decimal_digits n.value p.0 in
    let value = repeated_value r n in
    record {
      is_header = record {
        name = ((λ e. cc), refl);
        value = subst (λ (v : List ℕ). list_all is_value_byte v
            ≡ true) (sym value) (digits_all is_value_byte (λ b d. grind (arith, nat_tests)) n.value digits);
        outer = subst HasNoOuterSpace (sym value) (digits_outer n.value digits);
        sequence = λ e. subst (λ (v : List ℕ). is_sequence_number v ≡ true) (sym value) n.number;
      };
      short = omega (arith, ap length value, short_sequence n.value n.number);
    }

-- ---- the session

-- the session's header has spaces, but none at its ends
session_is_header : (n : ℕ) → n < 2 ^ 31 → IsHeader (session_header n)
session_is_header n lt = record {
  name = ((λ e. cc), refl);
  value = all-append is_value_byte (field_text Session n) (codes ";timeout = 90") (text_is_value Session n (omega arith)) refl;
  outer = record {
    first = λ rest h. absurd (cc);
    last = λ front h.
        let ends : reverse (codes ";timeout = 90") ++ reverse (field_text Session n) ≡ 32 ∷ reverse front =
        sym (reverse-append (field_text Session n) (codes ";timeout = 90")) ∙ ap reverse h ∙ reverse-append front (32 ∷ []) in
        absurd (cc);
  };
  sequence = λ e. absurd (false≢true e);
}

-- ---- the status line

codes_are : (c : ℕ) → is_answered_code c ≡ true → (c ≡ 200) ⊎ ((c ≡ 400) ⊎ ((c ≡ 454) ⊎ (c ≡ 455)))
codes_are c e = by_tests (eqb c 200) (eqb c 400) (eqb c 454) (eqb c 455) refl refl refl refl e
  where
    by_tests : (p q r s : Bool) → eqb c 200 ≡ p → eqb c 400 ≡ q → eqb c 454 ≡ r → eqb c 455 ≡ s → (p || q || r || s) ≡ true
        → (c ≡ 200) ⊎ ((c ≡ 400) ⊎ ((c ≡ 454) ⊎ (c ≡ 455)))
    by_tests true q r s ep eq er es h = inl (grind (arith, nat_tests))
    by_tests false true r s ep eq er es h = inr (inl (grind (arith, nat_tests)))
    by_tests false false true s ep eq er es h = inr (inr (inl (grind (arith, nat_tests))))
    by_tests false false false true ep eq er es h = inr (inr (inr (grind (arith, nat_tests))))
    by_tests false false false false ep eq er es h = absurd (false≢true h)

status_length : (c : ℕ) → (c ≡ 200) ⊎ ((c ≡ 400) ⊎ ((c ≡ 454) ⊎ (c ≡ 455))) → length (status_line_text c) ≤ 50
status_length c (inl e) = subst (λ (k : ℕ). length (status_line_text k) ≤ 50) (sym e) (lit≤ tt)
status_length c (inr (inl e)) = subst (λ (k : ℕ). length (status_line_text k) ≤ 50) (sym e) (lit≤ tt)
status_length c (inr (inr (inl e))) = subst (λ (k : ℕ). length (status_line_text k) ≤ 50) (sym e) (lit≤ tt)
status_length c (inr (inr (inr e))) = subst (λ (k : ℕ). length (status_line_text k) ≤ 50) (sym e) (lit≤ tt)

-- ---- the whole response

abbrev IsSendableBy : Settings → ℕ → Request → Answer → Type 0
IsSendableBy offer base r answer = IsSendableResponse (response_by offer base r answer)

plain : (offer : Settings) (base : ℕ) (r : Request) (c : ℕ) → is_answered_code c ≡ true → Repeated r
    → IsSendableResponse (record { code = c; headers = repeated_sequence r ∷ []; body = [] })
plain offer base r c e n =
    let code = codes_are c e in
    record {
      code = code;
      headers = record {
        each = (n.is_header, tt);
        sequence = refl;
        body_is = refl;
        limit = omega (arith, length_head (status_line_text c) (repeated_sequence r ∷ []), status_length c code, n.short);
      };
    }

described : (offer : Settings) (base : ℕ) (r : Request) → Repeated r → IsSendableBy offer base r Described
described offer base r n =
    let few = length_description offer in
    let size = length (description offer) in
    record {
      code = inl refl;
      headers = record {
        each = (n.is_header, (field_is_header ContentLength size (omega arith), tt));
        sequence = refl;
        body_is = length_read size (omega arith);
        limit = omega (
          arith,
          length_head (status_line_text 200) (repeated_sequence r ∷ field_header ContentLength size ∷ []),
          status_length 200 (inl refl),
          n.short,
          length_text ContentLength size (omega arith),
        );
      };
    }

one_sequence : (session base : ℕ) (stream : Stream) (r : Request) → cseq_count (repeated_sequence r ∷ stream_headers session base stream) ≡ 1
one_sequence session base Audio r = refl
one_sequence session base Video r = refl
one_sequence session base Control r = refl

no_length : (session base : ℕ) (stream : Stream) (r : Request) → body_length (repeated_sequence r ∷ stream_headers session base stream) ≡ Some 0
no_length session base Audio r = refl
no_length session base Video r = refl
no_length session base Control r = refl

low_port : (base : ℕ) (stream : Stream) → base ≤ 65000 → port_of base stream < 2 ^ 31
low_port base Audio lb = omega arith
low_port base Video lb = omega arith
low_port base Control lb = omega arith

stream_parts : (session base : ℕ) (stream : Stream) (r : Request) → Repeated r → session ≤ 9999 → base ≤ 65000
    → AreRightHeaders is_at_most_one (status_line_text 200) (repeated_sequence r ∷ stream_headers session base stream) []
stream_parts session base stream r n ls lb =
    let small : session < 2 ^ 31 = omega arith in
    let port = low_port base stream lb in
    let field = data_field stream in
    record {
      each = (n.is_header, (session_is_header session small, (field_is_header Port (port_of base stream) port, (field_is_header field session small, tt))));
      sequence = ap is_at_most_one (one_sequence session base stream r);
      body_is = no_length session base stream r;
      limit = omega (
        arith,
        length_head (status_line_text 200) (repeated_sequence r ∷ stream_headers session base stream),
        status_length 200 (inl refl),
        n.short,
        length-append (field_text Session session) (codes ";timeout = 90"),
        length_text Session session small,
        length_text Port (port_of base stream) port,
        length_text field session small,
        length_name field,
      );
    }

streams : (offer : Settings) (base : ℕ) (stream : Stream) (r : Request) → Repeated r → base ≤ 65000 → IsSendableBy offer base r (SetUp stream)
streams offer base stream r n lb = record { code = inl refl; headers = stream_parts offer.ssrc base stream r n offer.ssrc_greatest lb }

by_answer : (offer : Settings) (base : ℕ) (r : Request) (answer : Answer) → is_answered_code (status_code answer) ≡ true → base ≤ 65000 → Repeated r
    → IsSendableBy offer base r answer
by_answer offer base r Unchanged e lb n = plain offer base r 200 refl n
by_answer offer base r Described e lb n = described offer base r n
by_answer offer base r (SetUp stream) e lb n = streams offer base stream r n lb
by_answer offer base r Announced e lb n = plain offer base r 200 refl n
by_answer offer base r Playing e lb n = plain offer base r 200 refl n
by_answer offer base r (Refused c) e lb n = plain offer base r c e n

pub is_sendable : (offer : Settings) (base : ℕ) (r : Request) (answer : Answer) (bytes : List ℕ) → is_answered_code (status_code answer) ≡ true → base ≤ 65000
    → IsRequest bytes r → IsSendableBy offer base r answer
is_sendable offer base r answer bytes e lb q =
    let some : 0 < cseq_count r.headers = grind (arith, nat_tests, q.is_head.sequence) in
    by_answer offer base r answer e lb (repeated r (numbered q.is_head.lines r.headers q.is_head.header_lines some))
