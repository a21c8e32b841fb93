-- Header lines are read exactly.
use Rattle.std.proofs.Common.{◌≡◌, ℕ, zero, suc, Bool, true, false, cond, List, [], ◌∷◌, ◌++◌, length, Result, Ok, refl, sym, ap, subst, ◌∙◌, append_assoc}
use Rattle.std.proofs.Common.{arith}
use Rattle.std.specs.List.{list_all}
use Rattle.gs_bytes.proofs.Decimals.{digits_all}
use Rattle.gs_bytes.proofs.Lists.{all-append, all_front, all_back}
use Rattle.std.proofs.lemmas.Bool.{false≢true}
use Rattle.std.proofs.lemmas.Bool.Decides.{nat_tests}
use Rattle.gs_rtsp_text.specs.declared.header.Header.{Header}
use Rattle.gs_rtsp_text.specs.declared.stop.Stop.{Stop}
use Rattle.gs_bytes.specs.Words.{trimmed, is_space, spaces}
use Rattle.gs_rtsp_text.specs.Bytes.{crlf, is_name_byte, is_value_byte, is_sequence_number, IsRunOfBytes}
use Rattle.gs_bytes.specs.Numbers.{is_digit}
use Rattle.gs_rtsp_text.specs.Lines.{is_cseq, IsHeaderLine}
use Rattle.gs_bytes.specs.Words.{HasNoOuterSpace}
use Rattle.gs_rtsp_text.specs.Reading.{◌>>=◌, token_at, sequence_at, value_at, header_at}
use Rattle.gs_rtsp_text.proofs.Parts.{Opens, Meets, IsCode, Then, meets_as, meets_same, then_meets, then_code}
use Rattle.gs_bytes.proofs.SpaceLemmas.{digits_outer, trims, trimmed-spaces}
use Rattle.gs_rtsp_text.proofs.Tokens.{Exactly, Token, token_meets, token_code, literal_meets, literal_as, exactly_some, exactly_code}
use Rattle.gs_rtsp_text.proofs.Numbers.{Spaced, sequence_meets, number_parts}

-- what stands behind the colon of a header
pub record IsValue (name w v : List ℕ) : Type 0 where
  pub each : list_all is_value_byte v ≡ true
  pub outer : HasNoOuterSpace v
  pub sequence : is_cseq name ≡ true → is_sequence_number v ≡ true
  pub before : ℕ
  pub after : ℕ
  pub parts : w ≡ spaces before ++ v ++ spaces after ++ crlf

-- the same for any name: printable bytes to the end of the line
abbrev pub Plain : List ℕ → List ℕ → Type 0
Plain = Then (Token is_value_byte 13 true) (λ raw. Exactly (10 ∷ []) (trimmed raw))

pub all_spaces : (p : ℕ → Bool) → p 32 ≡ true → (k : ℕ) → list_all p (spaces k) ≡ true
all_spaces p h zero = refl
all_spaces p h (suc k) = let t = all_spaces p h k in grind (arith, t, h)

plain_code : IsCode Plain
plain_code = then_code (Token is_value_byte 13 true) (λ raw. Exactly (10 ∷ []) (trimmed raw)) (token_code is_value_byte 13 true refl)
    (λ raw. exactly_code (10 ∷ []) (trimmed raw))

plain_from_value : (name w v : List ℕ) → IsValue name w v → Plain w v
plain_from_value name w v h = record {
  front = (spaces h.before ++ v ++ spaces h.after) ++ 13 ∷ [];
  back = 10 ∷ [];
  value = spaces h.before ++ v ++ spaces h.after;
  parts = h.parts ∙ sym (append_assoc (spaces h.before ++ v ++ spaces h.after) (13 ∷ []) (10 ∷ []));
  first = record {
    each = all-append is_value_byte (spaces h.before ++ v) (spaces h.after)
        (all-append is_value_byte (spaces h.before) v (all_spaces is_value_byte refl h.before) h.each) (all_spaces is_value_byte refl h.after);
    some =
        λ e g. false≢true (sym e);
    word = refl;
  };
  second = record { word = refl; value_is = sym (trimmed-spaces h.before h.after v h.outer) };
}

value_from_plain : (name : List ℕ) → is_cseq name ≡ false → (w v : List ℕ) → Plain w v → IsValue name w v
value_from_plain name other w v h =
    let t = trims h.value in
    let v-is : v ≡ trimmed h.value = h.second.value_is in
    let raw : h.value ≡ spaces t.before ++ v ++ spaces t.after = t.parts ∙ ap (λ (u : List ℕ). spaces t.before ++ u ++ spaces t.after) (sym v-is) in
    let all : list_all is_value_byte (spaces t.before ++ v ++ spaces t.after) ≡ true = ap (list_all is_value_byte) (sym raw) ∙ h.first.each in
    record {
      each = all_back is_value_byte (spaces t.before) v (all_front is_value_byte (spaces t.before ++ v) (spaces t.after) all);
      outer = subst HasNoOuterSpace (sym v-is) t.outer;
      sequence = λ e. absurd (false≢true (sym other ∙ e));
      before = t.before;
      after = t.after;
      parts = h.parts ∙ ap (λ (u : List ℕ). u ++ h.back) h.first.word ∙ ap (λ (u : List ℕ). h.value ++ 13 ∷ [] ++ u) h.second.word
          ∙ append_assoc h.value (13 ∷ []) (10 ∷ []) ∙ ap (λ (u : List ℕ). u ++ crlf) raw;
    }

sequence_digits : (ds : List ℕ) → is_sequence_number ds ≡ true → list_all is_digit ds ≡ true
sequence_digits [] e = refl
sequence_digits (d ∷ ds) e = let p = number_parts d ds e in grind (arith, p.0, p.1)

spaces_is : (x : List ℕ) → list_all is_space x ≡ true → x ≡ spaces (length x)
spaces_is [] e = refl
spaces_is (b ∷ x) e =
    let byte : b ≡ 32 = grind (arith, nat_tests) in
    let rest = spaces_is x (grind (arith, e)) in
    ap (λ (c : ℕ). c ∷ x) byte ∙ ap (λ (t : List ℕ). 32 ∷ t) rest

value_from_spaced : (name : List ℕ) (w v : List ℕ) → Spaced w v → IsValue name w v
value_from_spaced name w v h =
    let n = h.numbered in
    let t = n.trailing in
    let digits = sequence_digits v n.number in
    let back-is : n.back ≡ spaces (length t.value) ++ crlf = t.parts
    ∙ ap (λ (u : List ℕ). u ++ t.back) (t.first.word ∙ ap (λ (u : List ℕ). u ++ 13 ∷ []) (spaces_is t.value t.first.each))
    ∙ ap (λ (u : List ℕ). spaces (length t.value) ++ 13 ∷ [] ++ u) t.second.word ∙ append_assoc (spaces (length t.value)) (13 ∷ []) (10 ∷ []) in
    record {
      each = digits_all is_value_byte (λ b d. grind (arith, nat_tests)) v digits;
      outer = digits_outer v digits;
      sequence = λ e. n.number;
      before = h.count;
      after = length t.value;
      parts = h.parts ∙ ap (λ (u : List ℕ). spaces h.count ++ u) (n.parts ∙ ap (λ (u : List ℕ). v ++ u) back-is)
          ∙ sym (append_assoc (spaces h.count) v (spaces (length t.value) ++ crlf)) ∙ sym (append_assoc (spaces h.count ++ v) (spaces (length t.value)) crlf);
    }

spaced_from_value : (name : List ℕ) → is_cseq name ≡ true → (w v : List ℕ) → IsValue name w v → Spaced w v
spaced_from_value name same w v h = record {
  count = h.before;
  rest = v ++ (spaces h.after ++ crlf);
  numbered = record {
    number = h.sequence same;
    back = spaces h.after ++ crlf;
    blank = spaces h.after;
    trailing = record {
      front = spaces h.after ++ 13 ∷ [];
      back = 10 ∷ [];
      value = spaces h.after;
      parts = sym (append_assoc (spaces h.after) (13 ∷ []) (10 ∷ []));
      first =
          record { each = all_spaces is_space refl h.after; some = λ e g. false≢true (sym e); word = refl };
      second = record { word = refl; value_is = refl };
    };
    parts = refl;
  };
  parts = h.parts ∙ append_assoc (spaces h.before ++ v) (spaces h.after) crlf ∙ append_assoc (spaces h.before) v (spaces h.after ++ crlf);
}

-- ---- whole lines

-- behind a name
abbrev Behind : List ℕ → List ℕ → Header → Type 0
Behind name w h = IsValue name w h.value × (h.name ≡ name)

made : List ℕ → List ℕ → Header
made name v = record { name = name; value = v }

abbrev with_name : List ℕ → Result (List ℕ × List ℕ) Stop → Result (Header × List ℕ) Stop
with_name name r = r >>= λ v. Ok (record { name = name; value = v.0 }, v.1)

plain_meets : (s : List ℕ) → Meets Plain s (value_at s)
unfolding value_at
plain_meets s = then_meets (Token is_value_byte 13 true) (λ raw. Exactly (10 ∷ []) (trimmed raw)) (token_code is_value_byte 13 true refl)
    (λ raw. exactly_some 10 [] (trimmed raw)) s (token_at is_value_byte 13 true s) (λ x. literal_as (10 ∷ []) (trimmed x.0) x.1)
    (token_meets is_value_byte 13 true 32 refl refl s) (λ x. literal_meets (10 ∷ []) (trimmed x.0) x.1)

value_meets : (name s : List ℕ) (t : Bool) → is_cseq name ≡ t → Meets (IsValue name) s (cond t (sequence_at s) (value_at s))
value_meets name s true e = meets_same Spaced (IsValue name) (value_from_spaced name) (spaced_from_value name e) s (sequence_at s) (sequence_meets s)
value_meets name s false e = meets_same Plain (IsValue name) (value_from_plain name e) (plain_from_value name) s (value_at s) (plain_meets s)

behind_meets : (name s : List ℕ) → Meets (Behind name) s (with_name name (cond (is_cseq name) (sequence_at s) (value_at s)))
behind_meets name s = meets_as (IsValue name) (Behind name) (λ v. record { name = name; value = v }) (λ w x h. (h, refl)) (λ w y h. (y.value, h.0)) s
    (cond (is_cseq name) (sequence_at s) (value_at s)) (value_meets name s (is_cseq name) refl)

-- a value that fits any name
behind_some : (name : List ℕ) → Opens (Behind name) []
behind_some name = record {
  next = 48;
  more = 13 ∷ 10 ∷ [];
  value = record { name = name; value = 48 ∷ [] };
  word = (record { each = refl; outer = digits_outer (48 ∷ []) refl; sequence = λ e. refl; before = 0; after = 0; parts = refl }, refl);
}

abbrev Parts : List ℕ → Header → Type 0
Parts = Then (Token is_name_byte 58 false) Behind

parts_meets : (s : List ℕ) → Meets Parts s (header_at s)
unfolding header_at
parts_meets s = then_meets (Token is_name_byte 58 false) Behind (token_code is_name_byte 58 false refl) behind_some s (token_at is_name_byte 58 false s)
    (λ x. with_name x.0 (cond (is_cseq x.0) (sequence_at x.1) (value_at x.1))) (token_meets is_name_byte 58 false 97 refl refl s) (λ x. behind_meets x.0 x.1)

line_from_parts : (w : List ℕ) (h : Header) → Parts w h → IsHeaderLine w h
line_from_parts w h p =
    let v = p.second.0 in
    let name-is : h.name ≡ p.value = p.second.1 in (
      record {
        name = subst (IsRunOfBytes is_name_byte) (sym name-is) (p.first.some refl, p.first.each);
        value = v.each;
        outer = v.outer;
        sequence = λ e. v.sequence (ap is_cseq (sym name-is) ∙ e);
      },
      v.before,
      v.after,
      p.parts ∙ ap (λ (u : List ℕ). u ++ p.back) p.first.word ∙ append_assoc p.value (58 ∷ []) p.back ∙ ap (λ (u : List ℕ). p.value ++ 58 ∷ u) v.parts
          ∙ ap (λ (u : List ℕ). u ++ 58 ∷ (spaces v.before ++ h.value ++ spaces v.after ++ crlf)) (sym name-is),
    )

parts_from_line : (w : List ℕ) (h : Header) → IsHeaderLine w h → Parts w h
parts_from_line w h l =
    let i = l.0 in
    record {
      front = h.name ++ 58 ∷ [];
      back = spaces l.1 ++ h.value ++ spaces l.2 ++ crlf;
      value = h.name;
      parts = l.3 ∙ sym (append_assoc h.name (58 ∷ []) (spaces l.1 ++ h.value ++ spaces l.2 ++ crlf));
      first = record { each = i.name.1; some = λ e. i.name.0; word = refl };
      second = (record { each = i.value; outer = i.outer; sequence = i.sequence; before = l.1; after = l.2; parts = refl }, refl);
    }

pub header_meets : (s : List ℕ) → Meets IsHeaderLine s (header_at s)
header_meets s = meets_same Parts IsHeaderLine line_from_parts parts_from_line s (header_at s) (parts_meets s)

-- ---- no header line begins another

abbrev Any : List ℕ → List ℕ → Header → Type 0
Any name w h = Plain w h.value × (h.name ≡ name)

same_header : (h i : Header) → h.name ≡ i.name → h.value ≡ i.value → h ≡ i
unfolding made
same_header h i e f = ap (λ (n : List ℕ). made n h.value) e ∙ ap (made i.name) f

any_code : (name : List ℕ) → IsCode (Any name)
any_code name a b x y m n p q e =
    let k = plain_code a b x y m.value n.value p.0 q.0 e in
    (k.0, same_header m n (p.1 ∙ sym q.1) k.1)

any_parts : (w : List ℕ) (h : Header) → IsHeaderLine w h → Then (Token is_name_byte 58 false) Any w h
any_parts w h l =
    let p = parts_from_line w h l in
    record {
      front = p.front;
      back = p.back;
      value = p.value;
      parts = p.parts;
      first = p.first;
      second = (plain_from_value p.value p.back h.value p.second.0, p.second.1);
    }

pub header_code : IsCode IsHeaderLine
header_code a b x y m n p q e =
    then_code (Token is_name_byte 58 false) Any (token_code is_name_byte 58 false refl) any_code a b x y m n (any_parts a m p) (any_parts b n q) e

-- a header line begins with a byte of its name
pub header_first : (b : ℕ) (w : List ℕ) (h : Header) → IsHeaderLine (b ∷ w) h → is_name_byte b ≡ true
header_first b w h l = by_name h.name l.0.name l.3
  where
    by_name : (name : List ℕ) → IsRunOfBytes is_name_byte name → b ∷ w ≡ name ++ 58 ∷ (spaces l.1 ++ h.value ++ spaces l.2 ++ crlf) → is_name_byte b ≡ true
    by_name [] r e = absurd (r.0 refl)
    by_name (c ∷ name) r e =
        let byte : b ≡ c = cc in
        ap is_name_byte byte ∙ grind (arith, r.1)

pub header_some : (w : List ℕ) (h : Header) → IsHeaderLine w h → w ≡ [] → ⊥
header_some w h l e = by_name h.name l.0.name (sym l.3 ∙ e)
  where
    by_name : (name : List ℕ) → IsRunOfBytes is_name_byte name → name ++ 58 ∷ (spaces l.1 ++ h.value ++ spaces l.2 ++ crlf) ≡ [] → ⊥
    by_name [] r e = r.0 refl
    by_name (c ∷ name) r e = cc
