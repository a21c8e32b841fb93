-- Heads are read exactly, and the answer to any bytes is right.
use Rattle.std.proofs.Common.{◌≡◌, ℕ, suc, Bool, true, false, cond, List, [], ◌∷◌, ◌++◌, length, Option, Some, None, Result, Ok, Err, refl, sym, ap, subst, ◌∙◌}
use Rattle.std.proofs.Common.{append_assoc, inl, inr, ◌⊎◌}
use Rattle.std.proofs.lemmas.List.{append-nil, append_cancel_left}
use Rattle.gs_rtsp_text.specs.declared.header.Header.{Header}
use Rattle.gs_rtsp_text.specs.declared.stop.Stop.{Stop}
use Rattle.gs_rtsp_text.specs.declared.stop.Stop.TheVariants.{More, Bad}
use Rattle.gs_rtsp_text.specs.Bytes.{crlf}
use Rattle.gs_rtsp_text.specs.Lines.{AreHeaderLines, cseq_count, body_length}
use Rattle.gs_rtsp_text.specs.Message.{AreLines, IsHead, HasHead, CanBegin}
use Rattle.gs_rtsp_text.specs.Reading.{MessageHead, HeadFields, head_fields, with_start}
use Rattle.gs_rtsp_text.specs.Reading.{◌>>=◌, rest_of_head, head_by}
use Rattle.gs_rtsp_text.proofs.Parts.{Opens, StopsAt, Takes, Meets, IsCode, inside, stopped}
use Rattle.gs_rtsp_text.proofs.Rest.{IsRest, Goes, MeetsRest, rest_meets}

module _ {S : Type 0} (IsFirstLine : List ℕ → S → Type 0) (may_have : ℕ → Bool) (code : IsCode IsFirstLine) where
  abbrev Begins : List ℕ → Type 0
  Begins s = AreLines IsFirstLine may_have s ⊎ HasHead IsFirstLine may_have s

  pub record HeadTaken (s : List ℕ) (x : MessageHead S) (rest : List ℕ) : Type 0 where
    pub head : List ℕ
    pub is_head : IsHead IsFirstLine may_have head x.start x.headers x.size
    pub parts : s ≡ head ++ rest

  pub record HeadOpens (s : List ℕ) : Type 0 where
    pub begins : CanBegin IsFirstLine may_have s
    pub unended : HasHead IsFirstLine may_have s → ⊥

  pub record HeadStops (s : List ℕ) (left : ℕ) : Type 0 where
    pub front : List ℕ
    pub byte : ℕ
    pub rest : List ℕ
    pub parts : s ≡ front ++ byte ∷ rest
    pub left_is : left ≡ suc (length rest)
    pub begins : CanBegin IsFirstLine may_have front
    pub never : CanBegin IsFirstLine may_have (front ++ byte ∷ []) → ⊥

  abbrev pub MeetsHead : List ℕ → Result (MessageHead S × List ℕ) Stop → Type 0
  MeetsHead s (Ok x) = HeadTaken s x.0 x.1
  MeetsHead s (Err More) = HeadOpens s
  MeetsHead s (Err (Bad left)) = HeadStops s left

  right_parts : (b : Bool) (o : Option ℕ) (n : ℕ) → cond b o None ≡ Some n → (b ≡ true) × (o ≡ Some n)
  right_parts true o n e = (refl, e)
  right_parts false o n e = absurd cc

  head_from_rest : (line : List ℕ) (start : S) → IsFirstLine line start → (w : List ℕ) (x : HeadFields) → IsRest may_have [] w x
      → IsHead IsFirstLine may_have (line ++ w) start x.headers x.size
  head_from_rest line start l w x r =
      let right = right_parts (may_have (cseq_count x.headers)) (body_length x.headers) x.size r.right in
      record {
        first = line;
        lines = r.lines;
        first_line = l;
        header_lines = subst (AreHeaderLines r.lines) (sym r.headers) r.header_lines;
        parts = ap (λ (u : List ℕ). line ++ u) r.parts ∙ sym (append_assoc line r.lines crlf);
        sequence = right.0;
        body_is = right.1;
      }

  rest_from_head : (head : List ℕ) (start : S) (hs : List Header) (n : ℕ) (h : IsHead IsFirstLine may_have head start hs n)
      → IsRest may_have [] (h.lines ++ crlf) (head_fields hs n)
  rest_from_head head start hs n h = record {
    new = hs;
    lines = h.lines;
    header_lines = h.header_lines;
    parts = refl;
    headers = refl;
    right = ap (λ (b : Bool). cond b (body_length hs) None) h.sequence ∙ h.body_is;
  }

  goes_to_begins : (line : List ℕ) (start : S) → IsFirstLine line start → (s : List ℕ) → Goes may_have [] s → Begins (line ++ s)
  goes_to_begins line start l s (inl g) = inl (line, s, start, g.0, l, g.1, refl)
  goes_to_begins line start l s (inr g) = inr (
    line ++ g.0,
    g.1,
    start,
    g.2.headers,
    g.2.size,
    head_from_rest line start l g.0 g.2 g.3,
    ap (λ (u : List ℕ). line ++ u) g.4 ∙ sym (append_assoc line g.0 g.1),
  )

  head_parts : (line : List ℕ) (start : S) → IsFirstLine line start
      → (s rest head : List ℕ) (other : S) (hs : List Header) (n : ℕ) (h : IsHead IsFirstLine may_have head other hs n) → line ++ s ≡ head ++ rest
      → (line ≡ h.first) × (start ≡ other) × (s ≡ (h.lines ++ crlf) ++ rest)
  head_parts line start l s rest head other hs n h e =
      let whole : line ++ s ≡ h.first ++ ((h.lines ++ crlf) ++ rest) = e ∙ ap (λ (u : List ℕ). u ++ rest) (h.parts ∙ append_assoc h.first h.lines crlf)
      ∙ append_assoc h.first (h.lines ++ crlf) rest in
      let same = code line h.first s ((h.lines ++ crlf) ++ rest) start other l h.first_line whole in
      (same.0, same.1, append_cancel_left line s ((h.lines ++ crlf) ++ rest) (whole ∙ ap (λ (u : List ℕ). u ++ ((h.lines ++ crlf) ++ rest)) (sym same.0)))

  begins_to_goes : (line : List ℕ) (start : S) → IsFirstLine line start → (s : List ℕ) → Begins (line ++ s) → Goes may_have [] s
  begins_to_goes line start l s (inl g) =
      let same = code line g.0 s g.1 start g.2 l g.4 g.6 in
      let rest-is : s ≡ g.1 = append_cancel_left line s g.1 (g.6 ∙ ap (λ (u : List ℕ). u ++ g.1) (sym same.0)) in
      inl (g.3, subst (λ (u : List ℕ). AreHeaderLines u g.3) (sym rest-is) g.5)
  begins_to_goes line start l s (inr g) =
      let p = head_parts line start l s g.1 g.0 g.2 g.3 g.4 g.5 g.6 in
      inr (g.5.lines ++ crlf, g.1, head_fields g.3 g.4, rest_from_head g.0 g.2 g.3 g.4 g.5, p.2)

  behind_first : (s : List ℕ) (start : S) (rest : List ℕ) → Takes IsFirstLine s start rest → (r : Result (HeadFields × List ℕ) Stop)
      → MeetsRest may_have [] rest r → MeetsHead s (r >>= λ x. Ok (with_start start x))
  behind_first s start rest t (Ok x) m = record {
    head = t.taken ++ m.taken;
    is_head = head_from_rest t.taken start t.word m.taken x.0 m.word;
    parts = t.parts ∙ ap (λ (u : List ℕ). t.taken ++ u) m.parts ∙ sym (append_assoc t.taken m.taken x.1);
  }
  behind_first s start rest t (Err More) m = record {
    begins = (
      m.more,
      subst Begins (sym (append_assoc t.taken rest m.more) ∙ ap (λ (u : List ℕ). u ++ m.more) (sym t.parts))
          (goes_to_begins t.taken start t.word (rest ++ m.more) m.begins),
    );
    unended = λ g.
        let p = head_parts t.taken start t.word rest g.1 g.0 g.2 g.3 g.4 g.5 (sym t.parts ∙ g.6) in
        m.unended (g.5.lines ++ crlf) g.1 (head_fields g.3 g.4) (rest_from_head g.0 g.2 g.3 g.4 g.5) p.2;
  }
  behind_first s start rest t (Err (Bad left)) m = record {
    front = t.taken ++ m.front;
    byte = m.byte;
    rest = m.rest;
    parts = t.parts ∙ ap (λ (u : List ℕ). t.taken ++ u) m.parts ∙ sym (append_assoc t.taken m.front (m.byte ∷ m.rest));
    left_is = m.left_is;
    begins = (m.more, subst Begins (sym (append_assoc t.taken m.front m.more)) (goes_to_begins t.taken start t.word (m.front ++ m.more) m.begins));
    never = λ b. m.never b.0 (begins_to_goes t.taken start t.word (m.front ++ m.byte ∷ b.0)
        (subst Begins (append_assoc (t.taken ++ m.front) (m.byte ∷ []) b.0 ∙ append_assoc t.taken m.front (m.byte ∷ b.0)) b.1));
  }

  -- ---- no whole first line

  first_open : (s : List ℕ) → Opens IsFirstLine s → CanBegin IsFirstLine may_have s
  first_open s m = (m.next ∷ m.more, inl (s ++ m.next ∷ m.more, [], m.value, [], m.word, refl, sym (append-nil (s ++ m.next ∷ m.more))))

  open_first : (s : List ℕ) → Opens IsFirstLine s → HeadOpens s
  open_first s m = record {
    begins = first_open s m;
    unended = λ g. inside IsFirstLine code s g.5.first ((g.5.lines ++ crlf) ++ g.1) g.2 m g.5.first_line
        (g.6 ∙ ap (λ (u : List ℕ). u ++ g.1) (g.5.parts ∙ append_assoc g.5.first g.5.lines crlf) ∙ append_assoc g.5.first (g.5.lines ++ crlf) g.1);
  }

  bad_first : (s : List ℕ) (left : ℕ) → StopsAt IsFirstLine s left → HeadStops s left
  bad_first s left m = record {
    front = m.front;
    byte = m.byte;
    rest = m.rest;
    parts = m.parts;
    left_is = m.left_is;
    begins = first_open m.front m.begins;
    never = λ b. never b.0 (subst Begins (append_assoc m.front (m.byte ∷ []) b.0) b.1);
  }
    where
      never : (q : List ℕ) → Begins (m.front ++ m.byte ∷ q) → ⊥
      never q (inl g) = stopped IsFirstLine code s left m q g.0 g.1 g.2 g.4 g.6
      never q (inr g) = stopped IsFirstLine code s left m q g.5.first ((g.5.lines ++ crlf) ++ g.1) g.2 g.5.first_line
          (g.6 ∙ ap (λ (u : List ℕ). u ++ g.1) (g.5.parts ∙ append_assoc g.5.first g.5.lines crlf) ∙ append_assoc g.5.first (g.5.lines ++ crlf) g.1)

  first_arm : (s : List ℕ) (r : Result (S × List ℕ) Stop) → Meets IsFirstLine s r
      → MeetsHead s (r >>= λ start. rest_of_head may_have [] start.1 >>= λ x. Ok (with_start start.0 x))
  first_arm s (Ok x) m = behind_first s x.0 x.1 m (rest_of_head may_have [] x.1) (rest_meets may_have [] x.1)
  first_arm s (Err More) m = open_first s m
  first_arm s (Err (Bad left)) m = bad_first s left m

  pub head_meets : (first : List ℕ → Result (S × List ℕ) Stop) → ((s : List ℕ) → Meets IsFirstLine s (first s)) → (s : List ℕ)
      → MeetsHead s (head_by first may_have s)
  unfolding head_by
  head_meets first meets s = first_arm s (first s) (meets s)
