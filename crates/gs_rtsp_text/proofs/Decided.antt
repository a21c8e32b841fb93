-- Bytes have one answer, it stays, and reading gives it.
use Rattle.std.proofs.Common.{◌≡◌, ℕ, suc, ◌+◌, ◌-◌, ◌<◌, ◌≤◌, Bool, true, false, cond, leb, List, [], ◌∷◌, ◌++◌, length, take, drop, Some, None, Result, Ok}
use Rattle.std.proofs.Common.{Err, refl, sym, ap, subst, ◌∙◌, append_assoc, arith, inl, inr, ◌⊎◌, length-append}
use Rattle.std.specs.List.{concat}
use Rattle.std.proofs.Math.Seq.{take-add}
use Rattle.std.proofs.lemmas.List.{take-append-drop, take-append-le, take_at, take_all, take-take, length-take-le, length-take, length-drop}
use Rattle.std.proofs.lemmas.List.Folds.{concat-append}
use Rattle.std.proofs.lemmas.Bool.{cases_lt}
use Rattle.std.proofs.lemmas.Bool.Decides.{nat_tests}
use Rattle.std.proofs.lemmas.Option.{same_Some}
use Rattle.std.proofs.lemmas.List.{append_cancel_left}
use Rattle.gs_rtsp_text.specs.declared.header.Header.{Header}
use Rattle.gs_rtsp_text.specs.declared.stop.Stop.{Stop}
use Rattle.gs_rtsp_text.specs.declared.stop.Stop.TheVariants.{More as stop_more, Bad}
use Rattle.gs_rtsp_text.specs.Bytes.{crlf}
use Rattle.gs_rtsp_text.specs.Lines.{AreHeaderLines, body_length}
use Rattle.gs_rtsp_text.specs.Message.{TextMessage, Whole, BadText, More, AreLines, IsHead, HasHead, CanBegin, GoesWrongAt, IsBadPlace, IsMessage, IsWhole}
use Rattle.gs_rtsp_text.specs.Message.{IsAnswer, most_head}
use Rattle.gs_rtsp_text.specs.Reading.{MessageHead}
use Rattle.gs_rtsp_text.specs.Reading.{text_answer, place_answer, head_by}
use Rattle.gs_rtsp_text.specs.Laws.{HasOneAnswer, Stays, IsSameInPieces}
use Rattle.gs_rtsp_text.proofs.Parts.{IsCode, Meets}
use Rattle.gs_rtsp_text.proofs.HeaderLines.{header_code}
use Rattle.gs_rtsp_text.proofs.Rest.{line_no_crlf}
use Rattle.gs_rtsp_text.proofs.Heads.{HeadTaken, HeadOpens, HeadStops, MeetsHead, head_meets}

-- header lines before an empty line are those of one list of headers
lines_same : (hs is : List Header) (a b x y : List ℕ) → AreHeaderLines a hs → AreHeaderLines b is → a ++ (crlf ++ x) ≡ b ++ (crlf ++ y) → (a ≡ b) × (hs ≡ is)
lines_same [] [] a b x y p q e = (p ∙ sym q, refl)
lines_same [] (i ∷ is) a b x y p q e = absurd (line_no_crlf (λ n. true) q.0 (q.1 ++ (crlf ++ y)) x i q.2
    (sym (append_assoc q.0 q.1 (crlf ++ y)) ∙ ap (λ (u : List ℕ). u ++ (crlf ++ y)) (sym q.4) ∙ sym e ∙ ap (λ (u : List ℕ). u ++ (crlf ++ x)) p))
lines_same (h ∷ hs) [] a b x y p q e = absurd (line_no_crlf (λ n. true) p.0 (p.1 ++ (crlf ++ x)) y h p.2
    (sym (append_assoc p.0 p.1 (crlf ++ x)) ∙ ap (λ (u : List ℕ). u ++ (crlf ++ x)) (sym p.4) ∙ e ∙ ap (λ (u : List ℕ). u ++ (crlf ++ y)) q))
lines_same (h ∷ hs) (i ∷ is) a b x y p q e =
    let whole : p.0 ++ (p.1 ++ (crlf ++ x)) ≡ q.0 ++ (q.1 ++ (crlf ++ y)) =
    sym (append_assoc p.0 p.1 (crlf ++ x)) ∙ ap (λ (u : List ℕ). u ++ (crlf ++ x)) (sym p.4) ∙ e ∙ ap (λ (u : List ℕ). u ++ (crlf ++ y)) q.4
    ∙ append_assoc q.0 q.1 (crlf ++ y) in
    let first = header_code p.0 q.0 (p.1 ++ (crlf ++ x)) (q.1 ++ (crlf ++ y)) h i p.2 q.2 whole in
    let tail = append_cancel_left p.0 (p.1 ++ (crlf ++ x)) (q.1 ++ (crlf ++ y)) (whole ∙ ap (λ (u : List ℕ). u ++ (q.1 ++ (crlf ++ y))) (sym first.0)) in
    let rest = lines_same hs is p.1 q.1 x y p.3 q.3 tail in (
      p.4 ∙ ap (λ (u : List ℕ). u ++ p.1) first.0 ∙ ap (λ (u : List ℕ). q.0 ++ u) rest.0 ∙ sym q.4,
      ap (λ (k : Header). k ∷ hs) first.1
          ∙ ap (λ (ks : List Header). i ∷ ks) rest.1,
    )

abbrev made : {S : Type 0} → S → List Header → List ℕ → TextMessage S
made s hs u = record { start = s; headers = hs; body = u }

module _ {S : Type 0} (IsFirstLine : List ℕ → S → Type 0) (may_have : ℕ → Bool) (code : IsCode IsFirstLine) where
  record SameHead (a b : List ℕ) (s t : S) (hs is : List Header) (m n : ℕ) : Type 0 where
    head : a ≡ b
    start : s ≡ t
    headers : hs ≡ is
    body : m ≡ n

  head_same : (a b x y : List ℕ) (s t : S) (hs is : List Header) (m n : ℕ) (p : IsHead IsFirstLine may_have a s hs m) (q : IsHead IsFirstLine may_have b t is n)
      → a ++ x ≡ b ++ y → SameHead a b s t hs is m n
  head_same a b x y s t hs is m n p q e =
      let pe : a ++ x ≡ p.first ++ (p.lines ++ (crlf ++ x)) = ap (λ (u : List ℕ). u ++ x) p.parts ∙ append_assoc (p.first ++ p.lines) crlf x
      ∙ append_assoc p.first p.lines (crlf ++ x) in
      let qe : b ++ y ≡ q.first ++ (q.lines ++ (crlf ++ y)) = ap (λ (u : List ℕ). u ++ y) q.parts ∙ append_assoc (q.first ++ q.lines) crlf y
      ∙ append_assoc q.first q.lines (crlf ++ y) in
      let whole = sym pe ∙ e ∙ qe in
      let first = code p.first q.first (p.lines ++ (crlf ++ x)) (q.lines ++ (crlf ++ y)) s t p.first_line q.first_line whole in
      let tail = append_cancel_left p.first (p.lines ++ (crlf ++ x)) (q.lines ++ (crlf ++ y))
      (whole ∙ ap (λ (u : List ℕ). u ++ (q.lines ++ (crlf ++ y))) (sym first.0)) in
      let lines = lines_same hs is p.lines q.lines x y p.header_lines q.header_lines tail in
      record {
        head = p.parts ∙ ap (λ (u : List ℕ). u ++ p.lines ++ crlf) first.0 ∙ ap (λ (u : List ℕ). q.first ++ u ++ crlf) lines.0 ∙ sym q.parts;
        start = first.1;
        headers = lines.1;
        body = same_Some m n (sym p.body_is ∙ ap body_length lines.1 ∙ q.body_is);
      }

  message_same : (m n : TextMessage S) → m.start ≡ n.start → m.headers ≡ n.headers → m.body ≡ n.body → m ≡ n
  message_same m n a b c =
      ap (λ (s : S). made s m.headers m.body) a ∙ ap (λ (hs : List Header). made n.start hs m.body) b ∙ ap (λ (u : List ℕ). made n.start n.headers u) c

  -- ---- fronts

  front_of : (j k : ℕ) (bytes : List ℕ) → j ≤ k → take k bytes ≡ take j bytes ++ drop j (take k bytes)
  front_of j k bytes le = sym (take-append-drop j (take k bytes)) ∙ ap (λ (u : List ℕ). u ++ drop j (take k bytes)) (take-take j k bytes le)

  -- what begins a beginning is one
  begins_front : (a b : List ℕ) → CanBegin IsFirstLine may_have (a ++ b) → CanBegin IsFirstLine may_have a
  begins_front a b g = (b ++ g.0, subst (λ (u : List ℕ). AreLines IsFirstLine may_have u ⊎ HasHead IsFirstLine may_have u) (append_assoc a b g.0) g.1)

  begins_take : (j k : ℕ) (bytes : List ℕ) → j ≤ k → CanBegin IsFirstLine may_have (take k bytes) → CanBegin IsFirstLine may_have (take j bytes)
  begins_take j k bytes le g = begins_front (take j bytes) (drop j (take k bytes)) (subst (CanBegin IsFirstLine may_have) (front_of j k bytes le) g)

  -- each front of bytes that have a head is the beginning of a message
  head_front : (j : ℕ) (bytes : List ℕ) → HasHead IsFirstLine may_have bytes → CanBegin IsFirstLine may_have (take j bytes)
  head_front j bytes g = (drop j bytes, inr (subst (HasHead IsFirstLine may_have) (sym (take-append-drop j bytes)) g))

  -- a message in front is a head in front, within the limit
  whole_head : (bytes : List ℕ) (m : TextMessage S) (used : ℕ) (w : IsWhole IsFirstLine may_have bytes m used) → bytes ≡ w.1.head ++ (m.body ++ drop used bytes)
  whole_head bytes m used w = sym (take-append-drop used bytes) ∙ ap (λ (u : List ℕ). u ++ drop used bytes) w.1.parts
      ∙ append_assoc w.1.head m.body (drop used bytes)

  whole_used : (bytes : List ℕ) (m : TextMessage S) (used : ℕ) (w : IsWhole IsFirstLine may_have bytes m used) → used ≡ length w.1.head + length m.body
  whole_used bytes m used w = omega (arith, length-take-le used bytes w.0, ap length w.1.parts, length-append w.1.head m.body)

  has_head : (bytes : List ℕ) (m : TextMessage S) (used : ℕ) → IsWhole IsFirstLine may_have bytes m used → HasHead IsFirstLine may_have bytes
  has_head bytes m used w = (w.1.head, m.body ++ drop used bytes, m.start, m.headers, length m.body, w.1.is_head, whole_head bytes m used w)

  has_limited_head : (bytes : List ℕ) (m : TextMessage S) (used : ℕ) → IsWhole IsFirstLine may_have bytes m used
      → HasHead IsFirstLine may_have (take most_head bytes)
  has_limited_head bytes m used w =
      let e = whole_head bytes m used w in
      let k = length w.1.head in
      let long : k ≤ length bytes = omega (arith, ap length e, length-append w.1.head (m.body ++ drop used bytes)) in
      let front : take k bytes ≡ w.1.head = ap (take k) e ∙ take_at w.1.head (m.body ++ drop used bytes) k refl in (
        w.1.head,
        drop k (take most_head bytes),
        m.start,
        m.headers,
        length m.body,
        w.1.is_head,
        front_of k most_head bytes w.1.limit
            ∙ ap (λ (u : List ℕ). u ++ drop k (take most_head bytes)) front,
      )

  -- ---- one answer

  whole_not_bad : (bytes : List ℕ) (m : TextMessage S) (used place : ℕ) → IsWhole IsFirstLine may_have bytes m used
      → IsBadPlace IsFirstLine may_have bytes place
      → ⊥
  whole_not_bad bytes m used place w (inl b) = b.never (head_front (suc place) bytes (has_head bytes m used w))
  whole_not_bad bytes m used place w (inr b) = b.1.endless (has_limited_head bytes m used w)

  wrong_first : (bytes : List ℕ) (j k : ℕ) → GoesWrongAt IsFirstLine may_have bytes j → CanBegin IsFirstLine may_have (take k bytes) → j < k → ⊥
  wrong_first bytes j k g b lt = g.never (begins_take (suc j) k bytes lt b)

  bad_same : (bytes : List ℕ) (j k : ℕ) → IsBadPlace IsFirstLine may_have bytes j → IsBadPlace IsFirstLine may_have bytes k → j ≡ k
  bad_same bytes j k (inl p) (inl q) =
      elim (cases_lt j k) [
        | inl lt ↦ absurd (wrong_first bytes j k p q.before lt)
        | inr le ↦ elim (cases_lt k j) [
          | inl lt ↦ absurd (wrong_first bytes k j q p.before lt)
          | inr ge ↦ omega arith
        ]
      ]
  bad_same bytes j k (inl p) (inr q) = absurd (wrong_first bytes j most_head p q.1.before p.limit)
  bad_same bytes j k (inr p) (inl q) = absurd (wrong_first bytes k most_head q p.1.before q.limit)
  bad_same bytes j k (inr p) (inr q) = p.0 ∙ sym q.0

  whole_same : (bytes : List ℕ) (m n : TextMessage S) (j k : ℕ) → IsWhole IsFirstLine may_have bytes m j → IsWhole IsFirstLine may_have bytes n k
      → Whole m j ≡ Whole n k
  whole_same bytes m n j k p q =
      let s = head_same p.1.head q.1.head (m.body ++ drop j bytes) (n.body ++ drop k bytes) m.start n.start m.headers n.headers (length m.body)
      (length n.body) p.1.is_head q.1.is_head (sym (whole_head bytes m j p) ∙ whole_head bytes n k q) in
      let used : j ≡ k = omega (arith, whole_used bytes m j p, whole_used bytes n k q, ap length s.head, s.body) in
      let texts : p.1.head ++ m.body ≡ p.1.head ++ n.body = sym p.1.parts ∙ ap (λ (i : ℕ). take i bytes) used ∙ q.1.parts
      ∙ ap (λ (u : List ℕ). u ++ n.body) (sym s.head) in
      ap (λ (x : TextMessage S). Whole x j) (message_same m n s.start s.headers (append_cancel_left p.1.head m.body n.body texts)) ∙ ap (Whole n) used

  pub one_answer : HasOneAnswer IsFirstLine may_have
  one_answer bytes (Whole m j) (Whole n k) p q = whole_same bytes m n j k p q
  one_answer bytes (Whole m j) (BadText k) p q = absurd (whole_not_bad bytes m j k p q)
  one_answer bytes (Whole m j) More p q = absurd (q.not_whole m j p)
  one_answer bytes (BadText j) (Whole n k) p q = absurd (whole_not_bad bytes n k j q p)
  one_answer bytes (BadText j) (BadText k) p q = ap BadText (bad_same bytes j k p q)
  one_answer bytes (BadText j) More p q = absurd (q.not_bad j p)
  one_answer bytes More (Whole n k) p q = absurd (p.not_whole n k q)
  one_answer bytes More (BadText k) p q = absurd (p.not_bad k q)
  one_answer bytes More More p q = refl

  -- ---- the answer stays

  pub stays : Stays IsFirstLine may_have
  stays bytes more (Whole m j) p final = (
    omega (arith, p.0, length-append bytes more),
    subst (λ (u : List ℕ). IsMessage IsFirstLine may_have u m) (sym (take-append-le j bytes more p.0)) p.1,
  )
  stays bytes more (BadText k) (inl p) final = inl (record {
    within = omega (arith, p.within, length-append bytes more);
    limit = p.limit;
    before = subst (CanBegin IsFirstLine may_have) (sym (take-append-le k bytes more (omega (arith, p.within)))) p.before;
    never = λ b. p.never (subst (CanBegin IsFirstLine may_have) (take-append-le (suc k) bytes more p.within) b);
  })
  stays bytes more (BadText k) (inr p) final = inr (
    p.0,
    record {
      long = omega (arith, p.1.long, length-append bytes more);
      before = subst (CanBegin IsFirstLine may_have) (sym (take-append-le most_head bytes more p.1.long)) p.1.before;
      endless = λ h. p.1.endless (subst (HasHead IsFirstLine may_have) (take-append-le most_head bytes more p.1.long) h);
    },
  )
  stays bytes more More p final = absurd (final refl)

  all_pieces : (pieces : List (List ℕ)) (k : ℕ) → concat (take k pieces) ++ concat (drop k pieces) ≡ concat pieces
  all_pieces pieces k = sym (concat-append (take k pieces) (drop k pieces)) ∙ ap concat (take-append-drop k pieces)

  pub same_in_pieces : IsSameInPieces IsFirstLine may_have
  same_in_pieces pieces others k l a b e p f q g =
      one_answer (concat pieces) a b (subst (λ (u : List ℕ). IsAnswer IsFirstLine may_have u a) (all_pieces pieces k)
      (stays (concat (take k pieces)) (concat (drop k pieces)) a p f))
      (subst (λ (u : List ℕ). IsAnswer IsFirstLine may_have u b) (all_pieces others l ∙ sym e)
      (stays (concat (take l others)) (concat (drop l others)) b q g))

  -- ---- reading gives the answer

  limit_parts : (bytes : List ℕ) → take most_head bytes ++ drop most_head bytes ≡ bytes
  limit_parts bytes = take-append-drop most_head bytes

  limit_length : (bytes : List ℕ) → (length (take most_head bytes) ≤ most_head) × (length (take most_head bytes) ≤ length bytes)
  limit_length bytes = (omega (arith, length-take most_head bytes), omega (arith, length-take most_head bytes))

  not_bad_with_head : (bytes : List ℕ) → HasHead IsFirstLine may_have bytes → HasHead IsFirstLine may_have (take most_head bytes) → (place : ℕ)
      → IsBadPlace IsFirstLine may_have bytes place → ⊥
  not_bad_with_head bytes h limited place (inl b) = b.never (head_front (suc place) bytes h)
  not_bad_with_head bytes h limited place (inr b) = b.1.endless limited

  -- what was read of the front stands in front of all bytes
  head_parts : (bytes : List ℕ) (x : MessageHead S) (rest : List ℕ) (h : HeadTaken IsFirstLine may_have code (take most_head bytes) x rest)
      → bytes ≡ h.head ++ (rest ++ drop most_head bytes)
  head_parts bytes x rest h = sym (limit_parts bytes) ∙ ap (λ (u : List ℕ). u ++ drop most_head bytes) h.parts
      ∙ append_assoc h.head rest (drop most_head bytes)

  head_place : (bytes : List ℕ) (x : MessageHead S) (rest : List ℕ) (h : HeadTaken IsFirstLine may_have code (take most_head bytes) x rest)
      → length (take most_head bytes) - length rest ≡ length h.head
  head_place bytes x rest h = omega (arith, ap length h.parts, length-append h.head rest)

  message_right : (bytes : List ℕ) (x : MessageHead S) (rest : List ℕ) (h : HeadTaken IsFirstLine may_have code (take most_head bytes) x rest)
      (place : ℕ) → place ≡ length h.head → place + x.size ≤ length bytes
      → IsMessage IsFirstLine may_have (take (place + x.size) bytes) (made x.start x.headers (take x.size (drop place bytes)))
  message_right bytes x rest h place e le =
      let parts = head_parts bytes x rest h in
      let front : take place bytes ≡ h.head = ap (take place) parts ∙ take_at h.head (rest ++ drop most_head bytes) place (sym e) in
      let size : length (take x.size (drop place bytes)) ≡ x.size = omega (arith, length-take x.size (drop place bytes), length-drop place bytes) in
      record {
        head = h.head;
        is_head = subst (IsHead IsFirstLine may_have h.head x.start x.headers) (sym size) h.is_head;
        limit = omega (arith, (limit_length bytes).0, ap length h.parts, length-append h.head rest);
        parts = take-add place x.size bytes ∙ ap (λ (u : List ℕ). u ++ take x.size (drop place bytes)) front;
      }

  head_right : (bytes : List ℕ) (x : MessageHead S) (rest : List ℕ) → HeadTaken IsFirstLine may_have code (take most_head bytes) x rest → (t : Bool)
      → leb (length (take most_head bytes) - length rest + x.size) (length bytes) ≡ t
      → IsAnswer IsFirstLine may_have bytes (cond t (Whole (made x.start x.headers (take x.size (drop (length (take most_head bytes) - length rest) bytes)))
      (length (take most_head bytes) - length rest + x.size)) More)
  head_right bytes x rest h true e =
      let place = length (take most_head bytes) - length rest in
      let le : place + x.size ≤ length bytes = grind (arith, nat_tests) in
      (le, message_right bytes x rest h place (head_place bytes x rest h) le)
  head_right bytes x rest h false e = record {
    not_whole = λ m used w. not_whole m used w;
    not_bad = not_bad_with_head bytes (h.head, rest ++ drop most_head bytes, x.start, x.headers, x.size, h.is_head, head_parts bytes x rest h)
        (h.head, rest, x.start, x.headers, x.size, h.is_head, h.parts);
  }
    where
      not_whole : (m : TextMessage S) (used : ℕ) → IsWhole IsFirstLine may_have bytes m used → ⊥
      not_whole m used w =
          let s = head_same h.head w.1.head (rest ++ drop most_head bytes) (m.body ++ drop used bytes) x.start m.start x.headers m.headers x.size
          (length m.body) h.is_head w.1.is_head (sym (head_parts bytes x rest h) ∙ whole_head bytes m used w) in
          let place = head_place bytes x rest h in
          let beyond : length bytes < length (take most_head bytes) - length rest + x.size = grind (arith, nat_tests) in
          omega (arith, beyond, place, whole_used bytes m used w, w.0, ap length s.head, s.body)

  bad_place : (bytes : List ℕ) (left : ℕ) (m : HeadStops IsFirstLine may_have code (take most_head bytes) left)
      → length (take most_head bytes) - left ≡ length m.front
  bad_place bytes left m = omega (arith, ap length m.parts, length-append m.front (m.byte ∷ m.rest), m.left_is)

  bad_right : (bytes : List ℕ) (left : ℕ) → HeadStops IsFirstLine may_have code (take most_head bytes) left
      → IsBadPlace IsFirstLine may_have bytes (length (take most_head bytes) - left)
  bad_right bytes left m =
      let parts : bytes ≡ m.front ++ (m.byte ∷ (m.rest ++ drop most_head bytes)) =
      sym (limit_parts bytes) ∙ ap (λ (u : List ℕ). u ++ drop most_head bytes) m.parts ∙ append_assoc m.front (m.byte ∷ m.rest) (drop most_head bytes) in
      let more : bytes ≡ (m.front ++ m.byte ∷ []) ++ (m.rest ++ drop most_head bytes) =
      parts ∙ sym (append_assoc m.front (m.byte ∷ []) (m.rest ++ drop most_head bytes)) in
      let k = length m.front in
      let before : take k bytes ≡ m.front = ap (take k) parts ∙ take_at m.front (m.byte ∷ (m.rest ++ drop most_head bytes)) k refl in
      let with_byte : take (suc k) bytes ≡ m.front ++ m.byte ∷ [] =
      ap (take (suc k)) more ∙ take_at (m.front ++ m.byte ∷ []) (m.rest ++ drop most_head bytes) (suc k)
      (omega (arith, length-append m.front (m.byte ∷ []))) in
      let size = length-append m.front (m.byte ∷ m.rest) in
      let wrong : GoesWrongAt IsFirstLine may_have bytes k = record {
        within = omega (arith, ap length parts, length-append m.front (m.byte ∷ (m.rest ++ drop most_head bytes)));
        limit = omega (arith, ap length m.parts, size, (limit_length bytes).0);
        before = subst (CanBegin IsFirstLine may_have) (sym before) m.begins;
        never = λ b. m.never (subst (CanBegin IsFirstLine may_have) with_byte b);
      } in
      subst (IsBadPlace IsFirstLine may_have bytes) (sym (bad_place bytes left m)) (inl wrong)

  open_right : (bytes : List ℕ) → HeadOpens IsFirstLine may_have code (take most_head bytes) → (t : Bool) → leb most_head (length bytes) ≡ t
      → IsAnswer IsFirstLine may_have bytes (place_answer (cond t (Some most_head) None))
  open_right bytes m true e = inr (refl, record { long = grind (arith, nat_tests); before = m.begins; endless = m.unended })
  open_right bytes m false e =
      let short : length bytes < most_head = grind (arith, nat_tests) in
      let all : take most_head bytes ≡ bytes = take_all most_head bytes (omega arith) in
      record {
        not_whole = λ n used w. m.unended (has_limited_head bytes n used w);
        not_bad = λ place b. not_bad place b;
      }
    where
      not_bad : (place : ℕ) → IsBadPlace IsFirstLine may_have bytes place → ⊥
      not_bad place (inl b) = wrong_first bytes place most_head b m.begins b.limit
      not_bad place (inr b) = let short : length bytes < most_head = grind (arith, nat_tests) in omega (arith, b.1.long)

  pub answer_right : (bytes : List ℕ) (r : Result (MessageHead S × List ℕ) Stop) → MeetsHead IsFirstLine may_have code (take most_head bytes) r
      → IsAnswer IsFirstLine may_have bytes (text_answer bytes r)
  answer_right bytes (Ok x) m = head_right bytes x.0 x.1 m (leb (length (take most_head bytes) - length x.1 + x.0.size) (length bytes)) refl
  answer_right bytes (Err stop_more) m = open_right bytes m (leb most_head (length bytes)) refl
  answer_right bytes (Err (Bad left)) m = bad_right bytes left m

  -- ---- places lie within what was read

  left_within : (s : List ℕ) (left : ℕ) → HeadStops IsFirstLine may_have code s left → left ≤ length s
  left_within s left m = omega (arith, ap length m.parts, length-append m.front (m.byte ∷ m.rest), m.left_is)

  rest_within : (s : List ℕ) (x : MessageHead S) (rest : List ℕ) → HeadTaken IsFirstLine may_have code s x rest → length rest ≤ length s
  rest_within s x rest h = omega (arith, ap length h.parts, length-append h.head rest)

  module _ (first : List ℕ → Result (S × List ℕ) Stop) (meets : (s : List ℕ) → Meets IsFirstLine s (first s)) where
    pub reading_right : (bytes : List ℕ) → IsAnswer IsFirstLine may_have bytes (text_answer bytes (head_by first may_have (take most_head bytes)))
    reading_right bytes = answer_right bytes (head_by first may_have (take most_head bytes))
        (head_meets IsFirstLine may_have code first meets (take most_head bytes))
