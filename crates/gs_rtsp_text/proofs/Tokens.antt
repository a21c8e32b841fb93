-- Literals, tokens and numbers are read exactly.
use Rattle.std.proofs.Common.{◌≡◌, ℕ, Bool, true, false, cond, eqb, List, [], ◌∷◌, ◌++◌, length, Result, Ok, Err, refl, sym, ap, ◌∙◌, append_assoc, arith, ◌&&◌}
use Rattle.std.specs.List.{list_all}
use Rattle.std.proofs.lemmas.Bool.{false≢true}
use Rattle.std.proofs.lemmas.Bool.Decides.{nat_tests}
use Rattle.gs_rtsp_text.specs.declared.stop.Stop.{Stop}
use Rattle.gs_rtsp_text.specs.declared.stop.Stop.TheVariants.{Bad}
use Rattle.gs_rtsp_text.specs.Reading.{◌>>=◌, with_first, literal_at, token_at}
use Rattle.gs_rtsp_text.proofs.Parts.{Opens, Meets, IsCode, meets_more, meets_none}

-- ---- literals

-- one word with one value
pub record Exactly {A : Type 0} (text : List ℕ) (value : A) (w : List ℕ) (x : A) : Type 0 where
  pub word : w ≡ text
  pub value_is : x ≡ value

pub exactly_code : {A : Type 0} (text : List ℕ) (value : A) → IsCode (Exactly text value)
exactly_code text value a b x y m n p q e = (p.word ∙ sym q.word, p.value_is ∙ sym q.value_is)

pub exactly_some : {A : Type 0} (c : ℕ) (text : List ℕ) (value : A) → Opens (Exactly (c ∷ text) value) []
exactly_some c text value = record { next = c; more = text; value = value; word = record { word = refl; value_is = refl } }

abbrev pub given : {A : Type 0} → A → Result (List ℕ) Stop → Result (A × List ℕ) Stop
given value r = r >>= λ rest. Ok (value, rest)

-- reading a literal, and giving its value
abbrev pub literal_as : {A : Type 0} → List ℕ → A → List ℕ → Result (A × List ℕ) Stop
literal_as text value s = given value (literal_at text s)

abbrev again : {A : Type 0} → Result (A × List ℕ) Stop → Result (A × List ℕ) Stop
again r = r >>= λ x. Ok (x.0, x.1)

as_more : {A : Type 0} (value : A) (r : Result (List ℕ) Stop) → given value r ≡ again (given value r)
as_more value (Ok x) = refl
as_more value (Err e) = refl

literal_byte : {A : Type 0} (c : ℕ) (text : List ℕ) (value : A) (b : ℕ) (s : List ℕ) → Meets (Exactly text value) s (literal_as text value s) → (t : Bool)
    → eqb b c ≡ t → Meets (Exactly (c ∷ text) value) (b ∷ s) (given value (cond t (literal_at text s) (Err (Bad (length (b ∷ s))))))
literal_byte {A} c text value b s rest true e =
    let same : b ≡ c = grind (arith, nat_tests) in
    rw (as_more value (literal_at text s)) (meets_more (Exactly text value) (Exactly (c ∷ text) value) b (λ (x : A). x)
    (λ w x h. record { word = cc; value_is = h.value_is }) (λ w y h. (y, record { word = cc; value_is = h.value_is })) s (literal_as text value s) rest)
literal_byte c text value b s rest false e =
    let other : b ≡ c → ⊥ = grind (arith, nat_tests) in
    meets_none (Exactly (c ∷ text) value) b s (exactly_some c text value) (λ q x h. other cc)

pub literal_meets : {A : Type 0} (text : List ℕ) (value : A) (s : List ℕ) → Meets (Exactly text value) s (literal_as text value s)
literal_meets [] value s = record { taken = []; word = record { word = refl; value_is = refl }; parts = refl }
literal_meets (c ∷ text) value [] = exactly_some c text value
literal_meets (c ∷ text) value (b ∷ s) = literal_byte c text value b s (literal_meets text value s) (eqb b c) refl

-- ---- tokens

-- bytes that pass, and the byte that ends them; one at least, unless may_end is true
pub record Token (passes : ℕ → Bool) (last : ℕ) (may_end : Bool) (w : List ℕ) (x : List ℕ) : Type 0 where
  pub each : list_all passes x ≡ true
  pub some : may_end ≡ false → x ≡ [] → ⊥
  pub word : w ≡ x ++ last ∷ []

token_parts : (passes : ℕ → Bool) (last : ℕ) → passes last ≡ false → (m n x y : List ℕ) → list_all passes m ≡ true → list_all passes n ≡ true
    → m ++ last ∷ x ≡ n ++ last ∷ y → m ≡ n
token_parts passes last ends [] [] x y p q e = refl
token_parts passes last ends [] (d ∷ n) x y p q e =
    let head : last ≡ d = cc in
    absurd (grind (arith, head, q, ends))
token_parts passes last ends (c ∷ m) [] x y p q e =
    let head : c ≡ last = cc in
    absurd (grind (arith, head, p, ends))
token_parts passes last ends (c ∷ m) (d ∷ n) x y p q e =
    let head : c ≡ d = cc in
    let pm : list_all passes m ≡ true = grind arith in
    let qn : list_all passes n ≡ true = grind arith in
    let tail = token_parts passes last ends m n x y pm qn cc in
    cc

pub token_code : (passes : ℕ → Bool) (last : ℕ) (may_end : Bool) → passes last ≡ false → IsCode (Token passes last may_end)
token_code passes last may_end ends a b x y m n p q e =
    let same = token_parts passes last ends m n x y p.each q.each
    (sym (append_assoc m (last ∷ []) x) ∙ ap (λ (t : List ℕ). t ++ x) (sym p.word) ∙ e ∙ ap (λ (t : List ℕ). t ++ y) q.word
    ∙ append_assoc n (last ∷ []) y) in
    (p.word ∙ ap (λ (t : List ℕ). t ++ last ∷ []) same ∙ sym q.word, same)

pub token_some : (passes : ℕ → Bool) (last : ℕ) (may_end : Bool) (c : ℕ) → passes c ≡ true → Opens (Token passes last may_end) []
token_some passes last may_end c p = record {
  next = c;
  more = last ∷ [];
  value = c ∷ [];
  word = record { each = grind (arith, p); some = λ e h. cc; word = refl };
}

token_tail : (passes : ℕ → Bool) (last : ℕ) (may_end : Bool) (b : ℕ) → passes b ≡ true → passes last ≡ false → (w y : List ℕ)
    → Token passes last may_end (b ∷ w) y → (x : List ℕ) × Token passes last true w x
token_tail passes last may_end b e ends w [] h =
    let head : b ≡ last = cc in
    absurd (grind (arith, head, e, ends))
token_tail passes last may_end b e ends w (d ∷ y) h =
    let head : b ≡ d = cc in
    let rest : list_all passes y ≡ true = grind (arith, h.each) in
    (y, record { each = rest; some = λ f g. absurd (false≢true (sym f)); word = cc })

token_none : (passes : ℕ → Bool) (last : ℕ) (may_end : Bool) (b : ℕ) → passes b ≡ false → (may_end && eqb b last) ≡ false → (q x : List ℕ)
    → Token passes last may_end (b ∷ q) x → ⊥
token_none passes last may_end b e f q [] h =
    let same : b ≡ last = cc in
    let test : eqb b last ≡ true = grind (arith, nat_tests) in
    let may : may_end ≡ false = grind (arith, nat_tests) in
    h.some may refl
token_none passes last may_end b e f q (d ∷ x) h =
    let head : b ≡ d = cc in
    false≢true (grind (arith, head, h.each, e))

token_end : (passes : ℕ → Bool) (last : ℕ) (may_end : Bool) (c : ℕ) → passes c ≡ true → (b : ℕ) (s : List ℕ) → passes b ≡ false → (t : Bool)
    → (may_end && eqb b last) ≡ t → Meets (Token passes last may_end) (b ∷ s) (cond t (Ok ([], s)) (Err (Bad (length (b ∷ s)))))
token_end passes last may_end c p b s e true f =
    let same : b ≡ last = grind (arith, nat_tests) in
    let may : may_end ≡ true = grind (arith, nat_tests) in
    record { taken = b ∷ []; word = record { each = refl; some = λ g h. false≢true (sym g ∙ may); word = cc }; parts = refl }
token_end passes last may_end c p b s e false f = meets_none (Token passes last may_end) b s (token_some passes last may_end c p)
    (token_none passes last may_end b e f)

token_byte : (passes : ℕ → Bool) (last : ℕ) (may_end : Bool) (c : ℕ) → passes c ≡ true → passes last ≡ false → (b : ℕ) (s : List ℕ)
    → Meets (Token passes last true) s (token_at passes last true s) → (t : Bool) → passes b ≡ t
    → Meets (Token passes last may_end) (b ∷ s) (cond t (with_first b (token_at passes last true s))
    (cond (may_end && eqb b last) (Ok ([], s)) (Err (Bad (length (b ∷ s))))))
token_byte passes last may_end c p ends b s rest true e =
    meets_more (Token passes last true) (Token passes last may_end) b (λ (x : List ℕ). b ∷ x)
    (λ w x h. record { each = grind (arith, e, h.each); some = λ f g. cc; word = ap (λ (t : List ℕ). b ∷ t) h.word })
    (token_tail passes last may_end b e ends) s (token_at passes last true s) rest
token_byte passes last may_end c p ends b s rest false e = token_end passes last may_end c p b s e (may_end && eqb b last) refl

pub token_meets : (passes : ℕ → Bool) (last : ℕ) (may_end : Bool) (c : ℕ) → passes c ≡ true → passes last ≡ false → (s : List ℕ)
    → Meets (Token passes last may_end) s (token_at passes last may_end s)
token_meets passes last may_end c p ends [] = token_some passes last may_end c p
token_meets passes last may_end c p ends (b ∷ s) = token_byte passes last may_end c p ends b s (token_meets passes last true c p ends s) (passes b) refl
