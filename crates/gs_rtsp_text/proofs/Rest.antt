-- The rest of a head behind its first line is read exactly: header lines and the empty line.
use Rattle.std.proofs.Common.{◌≡◌, ℕ, zero, suc, ◌<◌, ◌≤◌, Bool, true, false, cond, List, [], ◌∷◌, ◌++◌, length, Option, Some, None, Result, Ok, Err, refl, sym}
use Rattle.std.proofs.Common.{ap, subst, ◌∙◌, append_assoc, arith, inl, inr, ◌⊎◌, length-append}
use Rattle.std.proofs.lemmas.List.{append-nil, append_cancel_left}
use Rattle.std.proofs.lemmas.Bool.{false≢true}
use Rattle.std.proofs.lemmas.Bool.Decides.{nat_tests}
use Rattle.gs_rtsp_text.specs.declared.header.Header.{Header}
use Rattle.gs_rtsp_text.specs.declared.stop.Stop.{Stop}
use Rattle.gs_rtsp_text.specs.declared.stop.Stop.TheVariants.{More, Bad}
use Rattle.gs_rtsp_text.specs.Bytes.{crlf, is_name_byte}
use Rattle.gs_rtsp_text.specs.Lines.{IsHeaderLine, AreHeaderLines}
use Rattle.gs_rtsp_text.specs.Reading.{HeadFields, head_fields}
use Rattle.gs_rtsp_text.specs.Reading.{◌>>=◌, header_at, length_if_right, empty_line_at, begins_with_cr, lines_at, rest_of_head}
use Rattle.gs_rtsp_text.proofs.Parts.{Opens, StopsAt, Takes, Meets, inside, stopped}
use Rattle.gs_rtsp_text.proofs.Tokens.{Exactly, literal_meets, literal_as, exactly_code}
use Rattle.gs_rtsp_text.proofs.HeaderLines.{header_meets, header_code, header_first, header_some}

module _ (may_have : ℕ → Bool) where
  -- the rest of a head behind some headers, and what the whole head then has
  pub record IsRest (hs : List Header) (w : List ℕ) (x : HeadFields) : Type 0 where
    pub new : List Header
    pub lines : List ℕ
    pub header_lines : AreHeaderLines lines new
    pub parts : w ≡ lines ++ crlf
    pub headers : x.headers ≡ hs ++ new
    pub right : length_if_right may_have x.headers ≡ Some x.size

  -- the bytes are lines, or begin with the rest of a head
  abbrev pub Goes : List Header → List ℕ → Type 0
  Goes hs s = ((new : List Header) × AreHeaderLines s new) ⊎ ((w rest : List ℕ) × (x : HeadFields) × IsRest hs w x × (s ≡ w ++ rest))

  -- reading stops at a byte
  pub record RestStops (hs : List Header) (s : List ℕ) (left : ℕ) : Type 0 where
    pub front : List ℕ
    pub byte : ℕ
    pub rest : List ℕ
    pub parts : s ≡ front ++ byte ∷ rest
    pub left_is : left ≡ suc (length rest)
    pub more : List ℕ
    pub begins : Goes hs (front ++ more)
    pub never : (q : List ℕ) → Goes hs (front ++ byte ∷ q) → ⊥

  pub record RestOpens (hs : List Header) (s : List ℕ) : Type 0 where
    pub more : List ℕ
    pub begins : Goes hs (s ++ more)
    pub unended : (w v : List ℕ) (x : HeadFields) → IsRest hs w x → s ≡ w ++ v → ⊥

  abbrev pub MeetsRest : List Header → List ℕ → Result (HeadFields × List ℕ) Stop → Type 0
  MeetsRest hs s (Ok x) = Takes (IsRest hs) s x.0 x.1
  MeetsRest hs s (Err More) = RestOpens hs s
  MeetsRest hs s (Err (Bad left)) = RestStops hs s left

  -- ---- what begins with CR

  first_is : (c : ℕ) (u v : List ℕ) (d : ℕ) (x : List ℕ) → c ∷ u ++ v ≡ d ∷ x → c ≡ d
  first_is c u v d x e = cc

  -- no header line begins with CR
  line_no_cr : (line v q : List ℕ) (h : Header) → IsHeaderLine line h → 13 ∷ q ≡ line ++ v → ⊥
  line_no_cr [] v q h l e = header_some [] h l refl
  line_no_cr (c ∷ line) v q h l e =
      let byte : 13 ≡ c = cc in
      false≢true (ap is_name_byte byte ∙ header_first c line h l)

  abbrev EndsHere : List Header → List ℕ → Type 0
  EndsHere hs s = (v : List ℕ) × (s ≡ crlf ++ v) × (n : ℕ) × (length_if_right may_have hs ≡ Some n)

  rest_with_cr : (hs : List Header) (q w rest : List ℕ) (x : HeadFields) (new : List Header) (lines : List ℕ) → AreHeaderLines lines new
      → w ≡ lines ++ crlf → x.headers ≡ hs ++ new → length_if_right may_have x.headers ≡ Some x.size → 13 ∷ q ≡ w ++ rest → EndsHere hs (13 ∷ q)
  rest_with_cr hs q w rest x [] lines l p h r e = (
    rest,
    e ∙ ap (λ (u : List ℕ). u ++ rest) p
        ∙ ap (λ (u : List ℕ). u ++ crlf ++ rest) l,
    x.size,
    ap (length_if_right may_have) (sym (append-nil hs) ∙ sym h) ∙ r,
  )
  rest_with_cr hs q w rest x (i ∷ new) lines l p h r e = absurd (line_no_cr l.0 (l.1 ++ crlf ++ rest) q i l.2
      (e ∙ ap (λ (u : List ℕ). u ++ rest) (p ∙ ap (λ (u : List ℕ). u ++ crlf) l.4) ∙ ap (λ (u : List ℕ). u ++ rest) (append_assoc l.0 l.1 crlf)
      ∙ append_assoc l.0 (l.1 ++ crlf) rest))

  goes_with_cr : (hs : List Header) (q : List ℕ) → Goes hs (13 ∷ q) → EndsHere hs (13 ∷ q)
  goes_with_cr hs q (inl ([], l)) = absurd cc
  goes_with_cr hs q (inl (i ∷ new, l)) = absurd (line_no_cr l.0 l.1 q i l.2 l.4)
  goes_with_cr hs q (inr g) = let r = g.3 in rest_with_cr hs q g.0 g.1 g.2 r.new r.lines r.header_lines r.parts r.headers r.right g.4

  -- ---- the empty line

  ends_now : (hs : List Header) (n : ℕ) → length_if_right may_have hs ≡ Some n → IsRest hs crlf (head_fields hs n)
  ends_now hs n r = record { new = []; lines = []; header_lines = refl; parts = refl; headers = sym (append-nil hs); right = r }

  crlf_in : (w : List ℕ) (x : HeadFields) (hs : List Header) → IsRest hs w x → 2 ≤ length w
  crlf_in w x hs r = omega (arith, ap length r.parts, length-append r.lines crlf)

  -- the bytes begin with CR
  at_cr : List ℕ → Type 0
  at_cr s = (q : List ℕ) × (s ≡ 13 ∷ q)

  wrong_here : (hs : List Header) (q : List ℕ) → length_if_right may_have hs ≡ None → RestStops hs (13 ∷ q) (suc (length q))
  wrong_here hs q r = record {
    front = [];
    byte = 13;
    rest = q;
    parts = refl;
    left_is = refl;
    more = [];
    begins = inl ([], refl);
    never = λ v g. let e = goes_with_cr hs v g in absurd (cc (sym r ∙ e.3));
  }

  front_cr : (q front : List ℕ) (byte : ℕ) (rest v : List ℕ) → 13 ∷ q ≡ front ++ byte ∷ rest → (u : List ℕ) × (front ++ byte ∷ v ≡ 13 ∷ u)
  front_cr q [] byte rest v e = (v, ap (λ (c : ℕ). c ∷ v) cc)
  front_cr q (c ∷ front) byte rest v e = (front ++ byte ∷ v, ap (λ (d : ℕ). d ∷ (front ++ byte ∷ v)) cc)

  empty_meets : (hs : List Header) (n : ℕ) (q : List ℕ) → length_if_right may_have hs ≡ Some n → (r : Result (HeadFields × List ℕ) Stop)
      → Meets (Exactly crlf (head_fields hs n)) (13 ∷ q) r → MeetsRest hs (13 ∷ q) r
  empty_meets hs n q right (Ok x) m = record { taken = m.taken; word = rw (m.word.word, m.word.value_is) (ends_now hs n right); parts = m.parts }
  empty_meets hs n q right (Err More) m = record {
    more = m.next ∷ m.more;
    begins = inr (crlf, [], head_fields hs n, ends_now hs n right, m.word.word);
    unended = λ w v x r e. absurd (omega (
      arith,
      ap length e,
      ap length m.word.word,
      length-append (13 ∷ q) (m.next ∷ m.more),
      length-append w v,
      crlf_in w x hs r,
    ));
  }
  empty_meets hs n q right (Err (Bad left)) m = record {
    front = m.front;
    byte = m.byte;
    rest = m.rest;
    parts = m.parts;
    left_is = m.left_is;
    more = m.begins.next ∷ m.begins.more;
    begins = inr (crlf, [], head_fields hs n, ends_now hs n right, m.begins.word.word);
    never = λ v g.
        let c = front_cr q m.front m.byte m.rest v m.parts in
        let e = goes_with_cr hs c.0 (subst (Goes hs) c.1 g) in
        let x = head_fields hs n in
        stopped (Exactly crlf x) (exactly_code crlf x) (13 ∷ q) left m v crlf e.0 x (record { word = refl; value_is = refl }) (c.1 ∙ e.1);
  }

  right_meets : (hs : List Header) (q : List ℕ) (o : Option ℕ) → length_if_right may_have hs ≡ o → MeetsRest hs (13 ∷ q) (empty_line_at hs o (13 ∷ q))
  right_meets hs q None e = wrong_here hs q e
  right_meets hs q (Some n) e = empty_meets hs n q e (literal_as crlf (head_fields hs n) (13 ∷ q)) (literal_meets crlf (head_fields hs n) (13 ∷ q))

  -- ---- a header line, and the rest behind it

  rest_more : (hs : List Header) (line : List ℕ) (h : Header) → IsHeaderLine line h → (w : List ℕ) (x : HeadFields) → IsRest (hs ++ h ∷ []) w x
      → IsRest hs (line ++ w) x
  rest_more hs line h l w x r = record {
    new = h ∷ r.new;
    lines = line ++ r.lines;
    header_lines = (line, r.lines, l, r.header_lines, refl);
    parts = ap (λ (u : List ℕ). line ++ u) r.parts ∙ sym (append_assoc line r.lines crlf);
    headers = r.headers ∙ append_assoc hs (h ∷ []) r.new;
    right = r.right;
  }

  goes_more : (hs : List Header) (line : List ℕ) (h : Header) → IsHeaderLine line h → (s : List ℕ) → Goes (hs ++ h ∷ []) s → Goes hs (line ++ s)
  goes_more hs line h l s (inl g) = inl (h ∷ g.0, (line, s, l, g.1, refl))
  goes_more hs line h l s (inr g) = inr (
    line ++ g.0,
    g.1,
    g.2,
    rest_more hs line h l g.0 g.2 g.3,
    ap (λ (u : List ℕ). line ++ u) g.4
        ∙ sym (append_assoc line g.0 g.1),
  )

  -- a list that begins with a header line isn't empty, and doesn't begin with CR LF
  line_some : (line s : List ℕ) (h : Header) → IsHeaderLine line h → line ++ s ≡ [] → ⊥
  line_some [] s h l e = header_some [] h l refl
  line_some (c ∷ line) s h l e = cc

  pub line_no_crlf : (line s v : List ℕ) (h : Header) → IsHeaderLine line h → line ++ s ≡ crlf ++ v → ⊥
  line_no_crlf line s v h l e = line_no_cr line s (10 ∷ v) h l (sym e)

  rest_less : (hs : List Header) (line : List ℕ) (h : Header) → IsHeaderLine line h
      → (s w v : List ℕ) (x : HeadFields) (new : List Header) (lines : List ℕ) → AreHeaderLines lines new → w ≡ lines ++ crlf → x.headers ≡ hs ++ new
      → length_if_right may_have x.headers ≡ Some x.size → line ++ s ≡ w ++ v → (u : List ℕ) × IsRest (hs ++ h ∷ []) u x × (s ≡ u ++ v)
  rest_less hs line h l s w v x [] lines ls p hd r e = absurd (line_no_crlf line s v h l
      (e ∙ ap (λ (u : List ℕ). u ++ v) (p ∙ ap (λ (u : List ℕ). u ++ crlf) ls)))
  rest_less hs line h l s w v x (i ∷ new) lines ls p hd r e =
      let whole : line ++ s ≡ ls.0 ++ ((ls.1 ++ crlf) ++ v) = e ∙ ap (λ (u : List ℕ). u ++ v)
      (p ∙ ap (λ (u : List ℕ). u ++ crlf) ls.4 ∙ append_assoc ls.0 ls.1 crlf) ∙ append_assoc ls.0 (ls.1 ++ crlf) v in
      let same = header_code line ls.0 s ((ls.1 ++ crlf) ++ v) h i l ls.2 whole in (
        ls.1 ++ crlf,
        record {
          new = new;
          lines = ls.1;
          header_lines = ls.3;
          parts = refl;
          headers = hd ∙ ap (λ (k : Header). hs ++ k ∷ new) (sym same.1) ∙ sym (append_assoc hs (h ∷ []) new);
          right = r;
        },
        append_cancel_left line s ((ls.1 ++ crlf) ++ v) (whole ∙ ap (λ (u : List ℕ). u ++ ((ls.1 ++ crlf) ++ v)) (sym same.0)),
      )

  goes_less : (hs : List Header) (line : List ℕ) (h : Header) → IsHeaderLine line h → (s : List ℕ) → Goes hs (line ++ s) → Goes (hs ++ h ∷ []) s
  goes_less hs line h l s (inl ([], g)) = absurd (line_some line s h l g)
  goes_less hs line h l s (inl (i ∷ new, g)) =
      let same = header_code line g.0 s g.1 h i l g.2 g.4 in
      inl (new, subst (λ (u : List ℕ). AreHeaderLines u new) (sym (append_cancel_left line s g.1 (g.4 ∙ ap (λ (u : List ℕ). u ++ g.1) (sym same.0)))) g.3)
  goes_less hs line h l s (inr g) =
      let r = g.3 in
      let k = rest_less hs line h l s g.0 g.1 g.2 r.new r.lines r.header_lines r.parts r.headers r.right g.4 in
      inr (k.0, g.1, g.2, k.1, k.2)

  behind_line : (hs : List Header) (s : List ℕ) (h : Header) (rest : List ℕ) → Takes IsHeaderLine s h rest → (r : Result (HeadFields × List ℕ) Stop)
      → MeetsRest (hs ++ h ∷ []) rest r → MeetsRest hs s r
  behind_line hs s h rest t (Ok x) m = record {
    taken = t.taken ++ m.taken;
    word = rest_more hs t.taken h t.word m.taken x.0 m.word;
    parts = t.parts ∙ ap (λ (u : List ℕ). t.taken ++ u) m.parts ∙ sym (append_assoc t.taken m.taken x.1);
  }
  behind_line hs s h rest t (Err More) m = record {
    more = m.more;
    begins = subst (Goes hs) (sym (append_assoc t.taken rest m.more) ∙ ap (λ (u : List ℕ). u ++ m.more) (sym t.parts))
        (goes_more hs t.taken h t.word (rest ++ m.more) m.begins);
    unended = λ w v x r e.
        let k = rest_less hs t.taken h t.word rest w v x r.new r.lines r.header_lines r.parts r.headers r.right (sym t.parts ∙ e) in
        m.unended k.0 v x k.1 k.2;
  }
  behind_line hs s h rest t (Err (Bad left)) m = record {
    front = t.taken ++ m.front;
    byte = m.byte;
    rest = m.rest;
    parts = t.parts ∙ ap (λ (u : List ℕ). t.taken ++ u) m.parts ∙ sym (append_assoc t.taken m.front (m.byte ∷ m.rest));
    left_is = m.left_is;
    more = m.more;
    begins = subst (Goes hs) (sym (append_assoc t.taken m.front m.more)) (goes_more hs t.taken h t.word (m.front ++ m.more) m.begins);
    never = λ q g. m.never q (goes_less hs t.taken h t.word (m.front ++ m.byte ∷ q) (subst (Goes hs) (append_assoc t.taken m.front (m.byte ∷ q)) g));
  }

  -- ---- no whole header line

  no_cr_front : (front rest q v : List ℕ) (byte : ℕ) → begins_with_cr (front ++ byte ∷ rest) ≡ false → front ++ byte ∷ q ≡ crlf ++ v → ⊥
  no_cr_front [] rest q v byte f e = let b : byte ≡ 13 = cc in grind (arith, nat_tests)
  no_cr_front (c ∷ front) rest q v byte f e = let b : c ≡ 13 = cc in grind (arith, nat_tests)

  no_cr_crlf : (s v : List ℕ) → begins_with_cr s ≡ false → s ≡ crlf ++ v → ⊥
  no_cr_crlf s v f e = false≢true (sym f ∙ ap begins_with_cr e)

  some_not_empty : (front q : List ℕ) (byte : ℕ) → front ++ byte ∷ q ≡ [] → ⊥
  some_not_empty [] q byte e = cc
  some_not_empty (c ∷ front) q byte e = cc

  open_line : (hs : List Header) (s : List ℕ) → begins_with_cr s ≡ false → Opens IsHeaderLine s → RestOpens hs s
  open_line hs s f m = record {
    more = m.next ∷ m.more;
    begins = inl (m.value ∷ [], (s ++ m.next ∷ m.more, [], m.word, refl, sym (append-nil (s ++ m.next ∷ m.more))));
    unended = λ w v x r e. unended w v x r.new r.lines r.header_lines r.parts e;
  }
    where
      unended : (w v : List ℕ) (x : HeadFields) (new : List Header) (lines : List ℕ) → AreHeaderLines lines new → w ≡ lines ++ crlf → s ≡ w ++ v → ⊥
      unended w v x [] lines l p e = no_cr_crlf s v f (e ∙ ap (λ (u : List ℕ). u ++ v) (p ∙ ap (λ (u : List ℕ). u ++ crlf) l))
      unended w v x (i ∷ new) lines l p e = inside IsHeaderLine header_code s l.0 ((l.1 ++ crlf) ++ v) i m l.2
          (e ∙ ap (λ (u : List ℕ). u ++ v) (p ∙ ap (λ (u : List ℕ). u ++ crlf) l.4 ∙ append_assoc l.0 l.1 crlf) ∙ append_assoc l.0 (l.1 ++ crlf) v)

  bad_line : (hs : List Header) (s : List ℕ) (left : ℕ) → begins_with_cr s ≡ false → StopsAt IsHeaderLine s left → RestStops hs s left
  bad_line hs s left f m = record {
    front = m.front;
    byte = m.byte;
    rest = m.rest;
    parts = m.parts;
    left_is = m.left_is;
    more = m.begins.next ∷ m.begins.more;
    begins = inl (
      m.begins.value ∷ [],
      (
        m.front ++ m.begins.next ∷ m.begins.more,
        [],
        m.begins.word,
        refl,
        sym (append-nil (m.front ++ m.begins.next ∷ m.begins.more)),
      ),
    );
    never = λ q g. never q g;
  }
    where
      in_rest : (q w v : List ℕ) (new : List Header) (lines : List ℕ) → AreHeaderLines lines new → w ≡ lines ++ crlf → m.front ++ m.byte ∷ q ≡ w ++ v → ⊥
      in_rest q w v [] lines l p e = no_cr_front m.front m.rest q v m.byte (ap begins_with_cr (sym m.parts) ∙ f)
          (e ∙ ap (λ (u : List ℕ). u ++ v) (p ∙ ap (λ (u : List ℕ). u ++ crlf) l))
      in_rest q w v (i ∷ new) lines l p e = stopped IsHeaderLine header_code s left m q l.0 ((l.1 ++ crlf) ++ v) i l.2
          (e ∙ ap (λ (u : List ℕ). u ++ v) (p ∙ ap (λ (u : List ℕ). u ++ crlf) l.4 ∙ append_assoc l.0 l.1 crlf) ∙ append_assoc l.0 (l.1 ++ crlf) v)

      never : (q : List ℕ) → Goes hs (m.front ++ m.byte ∷ q) → ⊥
      never q (inl ([], g)) = some_not_empty m.front q m.byte g
      never q (inl (i ∷ new, g)) = stopped IsHeaderLine header_code s left m q g.0 g.1 i g.2 g.4
      never q (inr g) = let r = g.3 in in_rest q g.0 g.1 r.new r.lines r.header_lines r.parts g.4

  -- ---- all the lines

  taken_some : (s rest : List ℕ) (h : Header) → Takes IsHeaderLine s h rest → length rest < length s
  taken_some s rest h t = by_taken t.taken t.word t.parts
    where
      by_taken : (w : List ℕ) → IsHeaderLine w h → s ≡ w ++ rest → length rest < length s
      by_taken [] l e = absurd (header_some [] h l refl)
      by_taken (c ∷ w) l e = omega (arith, ap length e, length-append w rest)

  abbrev Rests : ℕ → Type 0
  Rests n = (hs : List Header) (s : List ℕ) → length s < n → MeetsRest hs s (lines_at may_have n hs s)

  header_arm : (n : ℕ) (hs : List Header) (s : List ℕ) → length s < suc n → Rests n → begins_with_cr s ≡ false → (r : Result (Header × List ℕ) Stop)
      → Meets IsHeaderLine s r → MeetsRest hs s (r >>= λ h. lines_at may_have n (hs ++ h.0 ∷ []) h.1)
  header_arm n hs s lt rests f (Ok x) m = behind_line hs s x.0 x.1 m (lines_at may_have n (hs ++ x.0 ∷ []) x.1)
      (rests (hs ++ x.0 ∷ []) x.1 (omega (arith, taken_some s x.1 x.0 m)))
  header_arm n hs s lt rests f (Err More) m = open_line hs s f m
  header_arm n hs s lt rests f (Err (Bad left)) m = bad_line hs s left f m

  cr_arm : (hs : List Header) (s : List ℕ) → begins_with_cr s ≡ true → MeetsRest hs s (empty_line_at hs (length_if_right may_have hs) s)
  cr_arm hs [] e = absurd (false≢true e)
  cr_arm hs (b ∷ q) e =
      let byte : b ≡ 13 = grind (arith, nat_tests) in
      subst (λ (c : ℕ). MeetsRest hs (c ∷ q) (empty_line_at hs (length_if_right may_have hs) (c ∷ q))) (sym byte)
      (right_meets hs q (length_if_right may_have hs) refl)

  line_arm : (n : ℕ) (hs : List Header) (s : List ℕ) → length s < suc n → Rests n → (t : Bool) → begins_with_cr s ≡ t
      → MeetsRest hs s (cond t (empty_line_at hs (length_if_right may_have hs) s) (header_at s >>= λ h. lines_at may_have n (hs ++ h.0 ∷ []) h.1))
  line_arm n hs s lt rests true e = cr_arm hs s e
  line_arm n hs s lt rests false e = header_arm n hs s lt rests e (header_at s) (header_meets s)

  lines_meets : (n : ℕ) → Rests n
  unfolding lines_at
  lines_meets zero hs s lt = absurd (omega arith)
  lines_meets (suc n) hs s lt = line_arm n hs s lt (lines_meets n) (begins_with_cr s) refl

  pub rest_meets : (hs : List Header) (s : List ℕ) → MeetsRest hs s (rest_of_head may_have hs s)
  unfolding rest_of_head
  rest_meets hs s = lines_meets (suc (length s)) hs s (omega arith)

  -- ---- one line after the other, as the code goes

  abbrev SameLines : ℕ → ℕ → Type 0
  SameLines n m = (hs : List Header) (s : List ℕ) → length s < n → length s < m → lines_at may_have n hs s ≡ lines_at may_have m hs s

  same_header_arm : (n m : ℕ) (hs : List Header) (s : List ℕ) → length s < suc n → length s < suc m → SameLines n m → (r : Result (Header × List ℕ) Stop)
      → Meets IsHeaderLine s r → (r >>= λ h. lines_at may_have n (hs ++ h.0 ∷ []) h.1) ≡ (r >>= λ h. lines_at may_have m (hs ++ h.0 ∷ []) h.1)
  same_header_arm n m hs s l k same (Ok x) t = let short = taken_some s x.1 x.0 t in same (hs ++ x.0 ∷ []) x.1 (omega arith) (omega arith)
  same_header_arm n m hs s l k same (Err e) t = refl

  same_lines : (n m : ℕ) → SameLines n m
  unfolding lines_at
  same_lines zero m hs s l k = absurd (omega arith)
  same_lines (suc n) zero hs s l k = absurd (omega arith)
  same_lines (suc n) (suc m) hs s l k = ap (cond (begins_with_cr s) (empty_line_at hs (length_if_right may_have hs) s))
      (same_header_arm n m hs s l k (same_lines n m) (header_at s) (header_meets s))

  pub rest_at_empty_line : (hs : List Header) (s : List ℕ) → begins_with_cr s ≡ true
      → rest_of_head may_have hs s ≡ empty_line_at hs (length_if_right may_have hs) s
  unfolding rest_of_head lines_at
  rest_at_empty_line hs s e = ap (λ (t : Bool). cond t (empty_line_at hs (length_if_right may_have hs) s)
      (header_at s >>= λ h. lines_at may_have (length s) (hs ++ h.0 ∷ []) h.1)) e

  pub rest_at_stop : (hs : List Header) (s : List ℕ) (e : Stop) → begins_with_cr s ≡ false → header_at s ≡ Err e → rest_of_head may_have hs s ≡ Err e
  unfolding rest_of_head lines_at
  rest_at_stop hs s e f h = ap (λ (t : Bool). cond t (empty_line_at hs (length_if_right may_have hs) s)
      (header_at s >>= λ h. lines_at may_have (length s) (hs ++ h.0 ∷ []) h.1)) f
      ∙ ap (λ (r : Result (Header × List ℕ) Stop). r >>= λ h. lines_at may_have (length s) (hs ++ h.0 ∷ []) h.1) h

  header_takes : (s : List ℕ) (x : Header × List ℕ) → (r : Result (Header × List ℕ) Stop) → Meets IsHeaderLine s r → r ≡ Ok x → Takes IsHeaderLine s x.0 x.1
  header_takes s x r m e = let P : Result (Header × List ℕ) Stop → Type 0 = Meets IsHeaderLine s in subst P e m

  pub rest_at_header : (hs : List Header) (s : List ℕ) (h : Header) (rest : List ℕ) → begins_with_cr s ≡ false → header_at s ≡ Ok (h, rest)
      → rest_of_head may_have hs s ≡ rest_of_head may_have (hs ++ h ∷ []) rest
  unfolding rest_of_head lines_at
  rest_at_header hs s h rest f e =
      let short = taken_some s rest h (header_takes s (h, rest) (header_at s) (header_meets s) e) in
      ap (λ (t : Bool). cond t (empty_line_at hs (length_if_right may_have hs) s) (header_at s >>= λ h. lines_at may_have (length s) (hs ++ h.0 ∷ []) h.1)) f
      ∙ ap (λ (r : Result (Header × List ℕ) Stop). r >>= λ h. lines_at may_have (length s) (hs ++ h.0 ∷ []) h.1) e
      ∙ same_lines (length s) (suc (length rest)) (hs ++ h ∷ []) rest (omega arith) (omega arith)

-- a header that is read takes a byte or more
pub header_shorter : (s : List ℕ) (h : Header) (rest : List ℕ) → header_at s ≡ Ok (h, rest) → length rest < length s
header_shorter s h rest e = taken_some (λ n. true) s rest h (header_takes (λ n. true) s (h, rest) (header_at s) (header_meets s) e)
