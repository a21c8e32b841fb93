-- The headers of the set-up are headers, and no longer than a head may be.
use Rattle.std.proofs.Common.{◌≡◌, ℕ, zero, suc, ◌+◌, ◌-◌, ◌^◌, ◌<◌, ◌≤◌, Bool, true, false, not, eqb, ltb, cond, ◌&&◌, List, [], ◌∷◌, ◌++◌, length, replicate}
use Rattle.std.proofs.Common.{codes, Some, refl, sym, ap, ◌∙◌, arith, length-append, lit<, lit≤}
use Rattle.std.specs.Prelude.{decimal, IsTrue}
use Rattle.std.specs.List.{list_all, flat_map}
use Rattle.std.proofs.lemmas.Bool.{false≢true}
use Rattle.std.proofs.lemmas.Bool.Decides.{nat_tests}
use Rattle.std.proofs.lemmas.Fmt.{length-decimal-le, decimal_nonempty}
use Rattle.std.proofs.lemmas.List.{length-replicate}
use Rattle.gs_rtsp_text.specs.declared.header.Header.{Header}
use Rattle.gs_rtsp_text.specs.Bytes.{crlf, is_value_byte, is_name_byte, is_sequence_number}
use Rattle.gs_bytes.specs.Numbers.{is_digit, number_of, decimal_up_to}
use Rattle.gs_rtsp_text.specs.Lines.{is_cseq, IsHeader, AreHeaderLines, cseq_count, most_body, value_by}
use Rattle.gs_bytes.specs.Words.{HasNoOuterSpace}
use Rattle.gs_rtsp_text.specs.Writing.{header_text, head_text}
use Rattle.gs_bytes.proofs.Decimals.{decimal_digits, decimal_is_decimal, number_of-decimal, decimal_up_to-decimal}
use Rattle.gs_bytes.proofs.Lists.{all-append, all_back}
use Rattle.gs_bytes.proofs.Decimals.{digits_all}
use Rattle.gs_rtsp.specs.declared.field.Field.{Field}
use Rattle.gs_rtsp.specs.declared.field.Field.TheVariants.{Sequence, ClientVersion, Session, Port, PingPayload, ConnectData, ContentLength}
use Rattle.gs_rtsp.specs.Fields.{field_name, field_prefix, field_text, field_header, least_digits, padded}

-- ---- values without spaces

abbrev is_no_space : ℕ → Bool
is_no_space b = not (eqb b 32)

pub outer_of : (v : List ℕ) → list_all is_no_space v ≡ true → HasNoOuterSpace v
outer_of v e = record {
  first = λ rest h. let t = sym (ap (list_all is_no_space) h) ∙ e in false≢true t;
  last = λ front h. let t = all_back is_no_space front (32 ∷ []) (sym (ap (list_all is_no_space) h) ∙ e) in false≢true t;
}

all_zeros : (p : ℕ → Bool) → p 48 ≡ true → (k : ℕ) → list_all p (replicate k 48) ≡ true
all_zeros p e zero = refl
all_zeros p e (suc k) = let rest = all_zeros p e k in grind (arith, e, rest)

pub all_decimal : (p : ℕ → Bool) → ((b : ℕ) → is_digit b ≡ true → p b ≡ true) → (n : ℕ) → n < 2 ^ 64 → list_all p (decimal n) ≡ true
all_decimal p pass n lt = digits_all p pass (decimal n) (decimal_digits (decimal n) (decimal_is_decimal n lt))

all_padded : (p : ℕ → Bool) → ((b : ℕ) → is_digit b ≡ true → p b ≡ true) → (least n : ℕ) → n < 2 ^ 64 → list_all p (padded least n) ≡ true
unfolding padded
all_padded p pass least n lt = all-append p (replicate (least - length (decimal n)) 48) (decimal n) (all_zeros p (pass 48 refl) (least - length (decimal n)))
    (all_decimal p pass n lt)

digit_is_value : (b : ℕ) → is_digit b ≡ true → is_value_byte b ≡ true
digit_is_value b e = grind (arith, nat_tests)

digit_is_no_space : (b : ℕ) → is_digit b ≡ true → is_no_space b ≡ true
digit_is_no_space b e = grind (arith, nat_tests)

prefix_is_value : (f : Field) → list_all is_value_byte (field_prefix f) ≡ true
prefix_is_value Sequence = refl
prefix_is_value ClientVersion = refl
prefix_is_value Session = refl
prefix_is_value Port = refl
prefix_is_value PingPayload = refl
prefix_is_value ConnectData = refl
prefix_is_value ContentLength = refl

prefix_is_no_space : (f : Field) → list_all is_no_space (field_prefix f) ≡ true
prefix_is_no_space Sequence = refl
prefix_is_no_space ClientVersion = refl
prefix_is_no_space Session = refl
prefix_is_no_space Port = refl
prefix_is_no_space PingPayload = refl
prefix_is_no_space ConnectData = refl
prefix_is_no_space ContentLength = refl

pub text_is_value : (f : Field) (n : ℕ) → n < 2 ^ 64 → list_all is_value_byte (field_text f n) ≡ true
text_is_value f n lt = all-append is_value_byte (field_prefix f) (padded (least_digits f) n) (prefix_is_value f)
    (all_padded is_value_byte digit_is_value (least_digits f) n lt)

pub text_is_no_space : (f : Field) (n : ℕ) → n < 2 ^ 64 → list_all is_no_space (field_text f n) ≡ true
text_is_no_space f n lt = all-append is_no_space (field_prefix f) (padded (least_digits f) n) (prefix_is_no_space f)
    (all_padded is_no_space digit_is_no_space (least_digits f) n lt)

-- ---- headers of numbers

pub padded_one : (n : ℕ) → n < 2 ^ 64 → padded 1 n ≡ decimal n
unfolding padded
padded_one n lt =
    let none : 1 - length (decimal n) ≡ 0 = omega (arith, decimal_nonempty n lt) in
    ap (λ (k : ℕ). replicate k 48 ++ decimal n) none

decimal_is_sequence : (n : ℕ) → n < 2 ^ 31 → is_sequence_number (decimal n) ≡ true
decimal_is_sequence n lt =
    let wide : n < 2 ^ 64 = omega arith in
    let small : ltb (number_of (decimal n)) (2 ^ 31) ≡ true = grind (arith, nat_tests, number_of-decimal n wide) in
    ap (λ (b : Bool). b && ltb (number_of (decimal n)) (2 ^ 31)) (decimal_is_decimal n wide) ∙ small

name_is : (f : Field) → (field_name f ≡ [] → ⊥) × (list_all is_name_byte (field_name f) ≡ true)
name_is Sequence = (λ e. cc, refl)
name_is ClientVersion = (λ e. cc, refl)
name_is Session = (λ e. cc, refl)
name_is Port = (λ e. cc, refl)
name_is PingPayload = (λ e. cc, refl)
name_is ConnectData = (λ e. cc, refl)
name_is ContentLength = (λ e. cc, refl)

-- only the number of a request has to be small
sequence_is : (f : Field) (n : ℕ) → n < 2 ^ 31 → IsTrue (is_cseq (field_name f)) → is_sequence_number (field_text f n) ≡ true
sequence_is Sequence n lt e = ap is_sequence_number (padded_one n (omega arith)) ∙ decimal_is_sequence n lt
sequence_is ClientVersion n lt e = absurd (false≢true e)
sequence_is Session n lt e = absurd (false≢true e)
sequence_is Port n lt e = absurd (false≢true e)
sequence_is PingPayload n lt e = absurd (false≢true e)
sequence_is ConnectData n lt e = absurd (false≢true e)
sequence_is ContentLength n lt e = absurd (false≢true e)

pub field_is_header : (f : Field) (n : ℕ) → n < 2 ^ 31 → IsHeader (field_header f n)
field_is_header f n lt = record {
  name = name_is f;
  value = text_is_value f n (omega arith);
  outer = outer_of (field_text f n) (text_is_no_space f n (omega arith));
  sequence = sequence_is f n lt;
}

-- the length of a body, read again
pub length_read : (n : ℕ) → n ≤ most_body → decimal_up_to most_body (field_text ContentLength n) ≡ Some n
length_read n le = ap (decimal_up_to most_body) (padded_one n (omega arith)) ∙ decimal_up_to-decimal most_body n le (omega arith)

-- ---- lengths

-- the lengths of header lines together
abbrev pub lines_length : List Header → ℕ
lines_length [] = 0
lines_length (h ∷ hs) = length h.name + length h.value + 4 + lines_length hs

length_line : (h : Header) → length (header_text h) ≡ length h.name + length h.value + 4
length_line h = simp length-append (omega arith)

length_lines : (hs : List Header) → length (flat_map header_text hs) ≡ lines_length hs
length_lines [] = refl
length_lines (h ∷ hs) = length-append (header_text h) (flat_map header_text hs) ∙ omega (arith, length_line h, length_lines hs)

pub length_head : (first : List ℕ) (hs : List Header) → length (head_text first hs) ≡ length first + lines_length hs + 2
length_head first hs = length-append (first ++ flat_map header_text hs) crlf ∙ omega (arith, length-append first (flat_map header_text hs), length_lines hs)

length_padded : (least n : ℕ) → n < 10 ^ 10 → length (padded least n) ≤ least + 10
unfolding padded
length_padded least n lt = omega (
  arith,
  length-append (replicate (least - length (decimal n)) 48) (decimal n),
  length-replicate {A = ℕ} (least - length (decimal n)) 48,
  length-decimal-le 10 n (lit< tt) lt (omega arith),
)

prefix_length : (f : Field) → (length (field_prefix f) ≤ 12) × (least_digits f ≤ 16) × (length (field_name f) ≤ 18)
prefix_length Sequence = (lit≤ tt, lit≤ tt, lit≤ tt)
prefix_length ClientVersion = (lit≤ tt, lit≤ tt, lit≤ tt)
prefix_length Session = (lit≤ tt, lit≤ tt, lit≤ tt)
prefix_length Port = (lit≤ tt, lit≤ tt, lit≤ tt)
prefix_length PingPayload = (lit≤ tt, lit≤ tt, lit≤ tt)
prefix_length ConnectData = (lit≤ tt, lit≤ tt, lit≤ tt)
prefix_length ContentLength = (lit≤ tt, lit≤ tt, lit≤ tt)

pub length_text : (f : Field) (n : ℕ) → n < 2 ^ 31 → length (field_text f n) ≤ 38
length_text f n lt =
    let p = prefix_length f in
    omega (arith, p.0, p.1, length-append (field_prefix f) (padded (least_digits f) n), length_padded (least_digits f) n (omega arith))

pub length_name : (f : Field) → length (field_name f) ≤ 18
length_name f = (prefix_length f).2

-- ---- the number of a request that was read

pub record Numbered (hs : List Header) : Type 0 where
  pub value : List ℕ
  pub found : value_by (codes "CSeq") hs ≡ Some value
  pub number : is_sequence_number value ≡ true

pub numbered : (lines : List ℕ) (hs : List Header) → AreHeaderLines lines hs → 0 < cseq_count hs → Numbered hs
numbered lines [] a some = absurd (omega arith)
numbered lines (h ∷ hs) a some = by_name (is_cseq h.name) refl (λ more. numbered a.1 hs a.3 more)
  where
    by_name : (t : Bool) → is_cseq h.name ≡ t → (0 < cseq_count hs → Numbered hs) → Numbered (h ∷ hs)
    by_name true e below = record {
      value = h.value;
      found = ap (λ (t : Bool). cond t (Some h.value) (value_by (codes "CSeq") hs)) e;
      number =
          a.2.0.sequence e;
    }
    by_name false e below =
        let more : 0 < cseq_count hs = grind (arith, some, e) in
        let rest = below more in
        record { value = rest.value; found = ap (λ (t : Bool). cond t (Some h.value) (value_by (codes "CSeq") hs)) e ∙ rest.found; number = rest.number }
