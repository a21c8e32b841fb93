-- What it is to read a part exactly: a word of a language is read as its value, bytes that could go on to
-- a word stop as such, and a byte with which no word goes on is named.
use Rattle.std.proofs.Common.{◌≡◌, ℕ, suc, List, [], ◌∷◌, ◌++◌, length, Result, Ok, Err, refl, sym, ap, subst, ◌∙◌, append_assoc, arith, inl, inr, ◌⊎◌}
use Rattle.std.proofs.Common.{length-append}
use Rattle.std.proofs.lemmas.List.{append-nil, append_cancel_left}
use Rattle.gs_rtsp_text.specs.declared.stop.Stop.{Stop}
use Rattle.gs_rtsp_text.specs.declared.stop.Stop.TheVariants.{More, Bad}
use Rattle.gs_rtsp_text.specs.Reading.{◌>>=◌}

-- the bytes begin a word, and are not all of it
pub record Opens {A : Type 0} (L : List ℕ → A → Type 0) (s : List ℕ) : Type 0 where
  pub next : ℕ
  pub more : List ℕ
  pub value : A
  pub word : L (s ++ next ∷ more) value

-- reading stops at a byte: what stands before it begins a word, and with it no word goes on
pub record StopsAt {A : Type 0} (L : List ℕ → A → Type 0) (s : List ℕ) (left : ℕ) : Type 0 where
  pub front : List ℕ
  pub byte : ℕ
  pub rest : List ℕ
  pub parts : s ≡ front ++ byte ∷ rest
  pub left_is : left ≡ suc (length rest)
  pub begins : Opens L front
  pub never : (q : List ℕ) (x : A) → L (front ++ byte ∷ q) x → ⊥

-- a word of this value was read, and this is left
pub record Takes {A : Type 0} (L : List ℕ → A → Type 0) (s : List ℕ) (x : A) (rest : List ℕ) : Type 0 where
  pub taken : List ℕ
  pub word : L taken x
  pub parts : s ≡ taken ++ rest

abbrev pub Meets : {A : Type 0} → (List ℕ → A → Type 0) → List ℕ → Result (A × List ℕ) Stop → Type 0
Meets L s (Ok x) = Takes L s x.0 x.1
Meets L s (Err More) = Opens L s
Meets L s (Err (Bad left)) = StopsAt L s left

-- no word begins another, and a word has one value
abbrev pub IsCode : {A : Type 0} → (List ℕ → A → Type 0) → Type 0
IsCode {A} L = (a b x y : List ℕ) (m n : A) → L a m → L b n → a ++ x ≡ b ++ y → (a ≡ b) × (m ≡ n)

-- ---- one byte more

pub meets_more : {A B : Type 0} (L' : List ℕ → A → Type 0) (L : List ℕ → B → Type 0) (c : ℕ) (f : A → B) → ((w : List ℕ) (x : A) → L' w x → L (c ∷ w) (f x))
    → ((w : List ℕ) (y : B) → L (c ∷ w) y → (x : A) × L' w x) → (s : List ℕ) (r : Result (A × List ℕ) Stop) → Meets L' s r
    → Meets L (c ∷ s) (r >>= λ x. Ok (f x.0, x.1))
meets_more L' L c f forth back s (Ok x) m = record { taken = c ∷ m.taken; word = forth m.taken x.0 m.word; parts = ap (λ (t : List ℕ). c ∷ t) m.parts }
meets_more L' L c f forth back s (Err More) m = record { next = m.next; more = m.more; value = f m.value; word = forth _ _ m.word }
meets_more L' L c f forth back s (Err (Bad left)) m = record {
  front = c ∷ m.front;
  byte = m.byte;
  rest = m.rest;
  parts = ap (λ (t : List ℕ). c ∷ t) m.parts;
  left_is = m.left_is;
  begins = record { next = m.begins.next; more = m.begins.more; value = f m.begins.value; word = forth _ _ m.begins.word };
  never = λ q y w. let b = back (m.front ++ m.byte ∷ q) y w in m.never q b.0 b.1;
}

-- the first byte is one with which no word begins
pub meets_none : {A : Type 0} (L : List ℕ → A → Type 0) (b : ℕ) (s : List ℕ) → Opens L [] → ((q : List ℕ) (x : A) → L (b ∷ q) x → ⊥)
    → Meets L (b ∷ s) (Err (Bad (suc (length s))))
meets_none L b s some never = record { front = []; byte = b; rest = s; parts = refl; left_is = refl; begins = some; never = never }

-- ---- the same words under other values

pub meets_as : {A B : Type 0} (L' : List ℕ → A → Type 0) (L : List ℕ → B → Type 0) (f : A → B) → ((w : List ℕ) (x : A) → L' w x → L w (f x))
    → ((w : List ℕ) (y : B) → L w y → (x : A) × L' w x) → (s : List ℕ) (r : Result (A × List ℕ) Stop) → Meets L' s r → Meets L s (r >>= λ x. Ok (f x.0, x.1))
meets_as L' L f forth back s (Ok x) m = record { taken = m.taken; word = forth m.taken x.0 m.word; parts = m.parts }
meets_as L' L f forth back s (Err More) m = record { next = m.next; more = m.more; value = f m.value; word = forth _ _ m.word }
meets_as L' L f forth back s (Err (Bad left)) m = record {
  front = m.front;
  byte = m.byte;
  rest = m.rest;
  parts = m.parts;
  left_is = m.left_is;
  begins = record { next = m.begins.next; more = m.begins.more; value = f m.begins.value; word = forth _ _ m.begins.word };
  never = λ q y w. let b = back (m.front ++ m.byte ∷ q) y w in m.never q b.0 b.1;
}

-- languages with the same words
pub meets_same : {A : Type 0} (L' L : List ℕ → A → Type 0) → ((w : List ℕ) (x : A) → L' w x → L w x) → ((w : List ℕ) (x : A) → L w x → L' w x)
    → (s : List ℕ) (r : Result (A × List ℕ) Stop) → Meets L' s r → Meets L s r
meets_same L' L forth back s (Ok x) m = record { taken = m.taken; word = forth m.taken x.0 m.word; parts = m.parts }
meets_same L' L forth back s (Err More) m = record { next = m.next; more = m.more; value = m.value; word = forth _ _ m.word }
meets_same L' L forth back s (Err (Bad left)) m = record {
  front = m.front;
  byte = m.byte;
  rest = m.rest;
  parts = m.parts;
  left_is = m.left_is;
  begins = record { next = m.begins.next; more = m.begins.more; value = m.begins.value; word = forth _ _ m.begins.word };
  never = λ q y w. m.never q y (back (m.front ++ m.byte ∷ q) y w);
}

-- languages with the same words of one first byte
pub meets_at : {A B : Type 0} (L' : List ℕ → A → Type 0) (L : List ℕ → B → Type 0) (f : A → B) (b : ℕ) → ((w : List ℕ) (x : A) → L' w x → L w (f x))
    → ((w : List ℕ) (y : B) → L (b ∷ w) y → (x : A) × L' (b ∷ w) x) → (s : List ℕ) (r : Result (A × List ℕ) Stop) → Meets L' (b ∷ s) r
    → Meets L (b ∷ s) (r >>= λ x. Ok (f x.0, x.1))
meets_at L' L f b forth back s (Ok x) m = record { taken = m.taken; word = forth m.taken x.0 m.word; parts = m.parts }
meets_at L' L f b forth back s (Err More) m = record { next = m.next; more = m.more; value = f m.value; word = forth _ _ m.word }
meets_at {A} {B} L' L f b forth back s (Err (Bad left)) m = record {
  front = m.front;
  byte = m.byte;
  rest = m.rest;
  parts = m.parts;
  left_is = m.left_is;
  begins = record { next = m.begins.next; more = m.begins.more; value = f m.begins.value; word = forth _ _ m.begins.word };
  never = never m.front m.parts (λ q x. m.never q x);
}
  where
    never : (front : List ℕ) → b ∷ s ≡ front ++ m.byte ∷ m.rest → ((q : List ℕ) (x : A) → L' (front ++ m.byte ∷ q) x → ⊥) → (q : List ℕ) (y : B)
        → L (front ++ m.byte ∷ q) y → ⊥
    never [] e none q y w =
        let head : m.byte ≡ b = cc in
        let k = back q y (subst (λ (c : ℕ). L (c ∷ q) y) head w) in
        none q k.0 (subst (λ (c : ℕ). L' (c ∷ q) k.0) (sym head) k.1)
    never (c ∷ front) e none q y w =
        let head : c ≡ b = cc in
        let k = back (front ++ m.byte ∷ q) y (subst (λ (d : ℕ). L (d ∷ (front ++ m.byte ∷ q)) y) head w) in
        none q k.0 (subst (λ (d : ℕ). L' (d ∷ (front ++ m.byte ∷ q)) k.0) (sym head) k.1)

-- ---- one word, and then another

-- a word of L1 with value x, and a word of L2 x
pub record Then {A B : Type 0} (L1 : List ℕ → A → Type 0) (L2 : A → List ℕ → B → Type 0) (w : List ℕ) (y : B) : Type 0 where
  pub front : List ℕ
  pub back : List ℕ
  pub value : A
  pub parts : w ≡ front ++ back
  pub first : L1 front value
  pub second : L2 value back y

-- two fronts of one list: one of them begins the other
pub split : (a b x y : List ℕ) → a ++ x ≡ b ++ y → ((v : List ℕ) × (b ≡ a ++ v) × (x ≡ v ++ y))
    ⊎ ((c : ℕ) × (v : List ℕ) × (a ≡ b ++ c ∷ v) × (y ≡ c ∷ (v ++ x)))
split [] b x y e = inl (b, refl, e)
split (c ∷ a) [] x y e = inr (c, a, refl, sym e)
split (c ∷ a) (d ∷ b) x y e =
    let heads : c ≡ d = cc in
    let tails : a ++ x ≡ b ++ y = cc in
    elim (split a b x y tails) [
      | inl h ↦ inl (h.0, cc, h.2)
      | inr h ↦ inr (h.0, h.1, cc, h.3)
    ]

-- a word of a code that begins a list which stops inside a word: that can't be
pub inside : {A : Type 0} (L : List ℕ → A → Type 0) → IsCode L → (s w v : List ℕ) (x : A) → Opens L s → L w x → s ≡ w ++ v → ⊥
inside L code s w v x o l e =
    let same = code w (s ++ o.next ∷ o.more) (v ++ o.next ∷ o.more) [] x o.value l o.word
    (sym (append_assoc w v (o.next ∷ o.more)) ∙ ap (λ (t : List ℕ). t ++ o.next ∷ o.more) (sym e) ∙ sym (append-nil (s ++ o.next ∷ o.more))) in
    omega (arith, ap length same.0, ap length e, length-append s (o.next ∷ o.more), length-append w v)

-- a list that goes on from where reading stopped begins with no word
pub stopped : {A : Type 0} (L : List ℕ → A → Type 0) → IsCode L → (s : List ℕ) (left : ℕ) (m : StopsAt L s left) (q w v : List ℕ) (x : A) → L w x
    → m.front ++ m.byte ∷ q ≡ w ++ v → ⊥
stopped L code s left m q w v x l e =
    elim (split m.front w (m.byte ∷ q) v e) [
      | inl h ↦ first_cases L code s left m q w v x l h.0 h.1 h.2
      | inr h ↦ inside L code m.front w (h.0 ∷ h.1) x m.begins l h.2
    ]
  where
    first_cases : {A : Type 0} (L : List ℕ → A → Type 0) → IsCode L → (s : List ℕ) (left : ℕ) (m : StopsAt L s left) (q w v : List ℕ) (x : A) → L w x
        → (u : List ℕ) → w ≡ m.front ++ u → m.byte ∷ q ≡ u ++ v → ⊥
    first_cases L code s left m q w v x l [] a b = inside L code m.front w [] x m.begins l (sym (append-nil m.front) ∙ sym a ∙ sym (append-nil w))
    first_cases L code s left m q w v x l (c ∷ u) a b =
        let c-is : c ≡ m.byte = cc in
        m.never u x (subst (λ (t : List ℕ). L t x) (a ∙ ap (λ (n : ℕ). m.front ++ n ∷ u) c-is) l)

pub then_ok : {A B : Type 0} (L1 : List ℕ → A → Type 0) (L2 : A → List ℕ → B → Type 0) → IsCode L1 → (s : List ℕ) (x : A) (rest : List ℕ) → Takes L1 s x rest
    → (r : Result (B × List ℕ) Stop) → Meets (L2 x) rest r → Meets (Then L1 L2) s r
then_ok L1 L2 code s x rest t (Ok y) m = record {
  taken = t.taken ++ m.taken;
  word = record { front = t.taken; back = m.taken; value = x; parts = refl; first = t.word; second = m.word };
  parts = t.parts ∙ ap (λ (u : List ℕ). t.taken ++ u) m.parts ∙ sym (append_assoc t.taken m.taken y.1);
}
then_ok L1 L2 code s x rest t (Err More) m = record {
  next = m.next;
  more = m.more;
  value = m.value;
  word = record {
    front = t.taken;
    back = rest ++ m.next ∷ m.more;
    value = x;
    parts = ap (λ (u : List ℕ). u ++ m.next ∷ m.more) t.parts
        ∙ append_assoc t.taken rest (m.next ∷ m.more);
    first = t.word;
    second = m.word;
  };
}
then_ok {A} L1 L2 code s x rest t (Err (Bad left)) m = record {
  front = t.taken ++ m.front;
  byte = m.byte;
  rest = m.rest;
  parts = t.parts ∙ ap (λ (u : List ℕ). t.taken ++ u) m.parts ∙ sym (append_assoc t.taken m.front (m.byte ∷ m.rest));
  left_is = m.left_is;
  begins = record {
    next = m.begins.next;
    more = m.begins.more;
    value = m.begins.value;
    word = record {
      front = t.taken;
      back = m.front ++ m.begins.next ∷ m.begins.more;
      value = x;
      parts = append_assoc t.taken m.front (m.begins.next ∷ m.begins.more);
      first = t.word;
      second = m.begins.word;
    };
  };
  never = λ q y w.
      let same = code t.taken w.front (m.front ++ m.byte ∷ q) w.back x w.value t.word w.first (sym (append_assoc t.taken m.front (m.byte ∷ q)) ∙ w.parts) in
      let back_is : w.back ≡ m.front ++ m.byte ∷ q = append_cancel_left t.taken w.back (m.front ++ m.byte ∷ q)
      (ap (λ (u : List ℕ). u ++ w.back) same.0 ∙ sym w.parts ∙ append_assoc t.taken m.front (m.byte ∷ q)) in
      m.never q y (subst (λ (v : A). L2 v (m.front ++ m.byte ∷ q) y) (sym same.1) (subst (λ (u : List ℕ). L2 w.value u y) back_is w.second));
}

pub then_meets : {A B : Type 0} (L1 : List ℕ → A → Type 0) (L2 : A → List ℕ → B → Type 0) → IsCode L1 → ((x : A) → Opens (L2 x) [])
    → (s : List ℕ) (r : Result (A × List ℕ) Stop) (f : A × List ℕ → Result (B × List ℕ) Stop) → Meets L1 s r → ((x : A × List ℕ) → Meets (L2 x.0) x.1 (f x))
    → Meets (Then L1 L2) s (r >>= f)
then_meets L1 L2 code some s (Ok x) f m next = then_ok L1 L2 code s x.0 x.1 m (f x) (next x)
then_meets L1 L2 code some s (Err More) f m next =
    let o = some m.value in
    record {
      next = m.next;
      more = m.more ++ o.next ∷ o.more;
      value = o.value;
      word = record {
        front = s ++ m.next ∷ m.more;
        back = o.next ∷ o.more;
        value = m.value;
        parts = sym (append_assoc s (m.next ∷ m.more) (o.next ∷ o.more));
        first = m.word;
        second = o.word;
      };
    }
then_meets L1 L2 code some s (Err (Bad left)) f m next =
    let b = m.begins in
    let o = some b.value in
    record {
      front = m.front;
      byte = m.byte;
      rest = m.rest;
      parts = m.parts;
      left_is = m.left_is;
      begins = record {
        next = b.next;
        more = b.more ++ o.next ∷ o.more;
        value = o.value;
        word = record {
          front = m.front ++ b.next ∷ b.more;
          back = o.next ∷ o.more;
          value = b.value;
          parts = sym (append_assoc m.front (b.next ∷ b.more) (o.next ∷ o.more));
          first = b.word;
          second = o.word;
        };
      };
      never = λ q y w. stopped L1 code s left m q w.front w.back w.value w.first w.parts;
    }

pub then_code : {A B : Type 0} (L1 : List ℕ → A → Type 0) (L2 : A → List ℕ → B → Type 0) → IsCode L1 → ((x : A) → IsCode (L2 x)) → IsCode (Then L1 L2)
then_code {A} L1 L2 code1 code2 a b x y m n p q e =
    let same = code1 p.front q.front (p.back ++ x) (q.back ++ y) p.value q.value p.first q.first
    (sym (append_assoc p.front p.back x) ∙ ap (λ (t : List ℕ). t ++ x) (sym p.parts) ∙ e ∙ ap (λ (t : List ℕ). t ++ y) q.parts
    ∙ append_assoc q.front q.back y) in
    let tails = append_cancel_left p.front (p.back ++ x) (q.back ++ y)
    (sym (append_assoc p.front p.back x) ∙ ap (λ (t : List ℕ). t ++ x) (sym p.parts) ∙ e ∙ ap (λ (t : List ℕ). t ++ y) q.parts
    ∙ append_assoc q.front q.back y ∙ ap (λ (t : List ℕ). t ++ (q.back ++ y)) (sym same.0)) in
    let backs = code2 p.value p.back q.back x y m n p.second (subst (λ (v : A). L2 v q.back n) (sym same.1) q.second) tails in
    (p.parts ∙ ap (λ (t : List ℕ). t ++ p.back) same.0 ∙ ap (λ (t : List ℕ). q.front ++ t) backs.0 ∙ sym q.parts, backs.1)

pub then_some : {A B : Type 0} (L1 : List ℕ → A → Type 0) (L2 : A → List ℕ → B → Type 0) → Opens L1 [] → ((x : A) → Opens (L2 x) []) → Opens (Then L1 L2) []
then_some L1 L2 first some =
    let o = some first.value in
    record {
      next = first.next;
      more = first.more ++ o.next ∷ o.more;
      value = o.value;
      word = record { front = first.next ∷ first.more; back = o.next ∷ o.more; value = first.value; parts = refl; first = first.word; second = o.word };
    }

-- a result taken apart and put together
pub read_same : {A : Type 0} (r : Result (A × List ℕ) Stop) → r ≡ (r >>= λ x. Ok (x.0, x.1))
read_same (Ok x) = refl
read_same (Err e) = refl
