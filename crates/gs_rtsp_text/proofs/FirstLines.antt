-- Request lines and status lines are read exactly.
use Rattle.std.proofs.Common.{◌≡◌, ℕ, ◌+◌, ◌-◌, ◌*◌, ◌/◌, ◌%◌, ◌<◌, Bool, true, false, cond, eqb, List, [], ◌∷◌, ◌++◌, length, Result, Ok, Err, refl, sym, ap}
use Rattle.std.proofs.Common.{subst, ◌∙◌, append_assoc, arith}
use Rattle.std.specs.Prelude.{codes}
use Rattle.std.proofs.lemmas.Bool.{false≢true}
use Rattle.std.proofs.lemmas.Bool.Decides.{nat_tests}
use Rattle.gs_rtsp_text.specs.declared.message.Method.{Method}
use Rattle.gs_rtsp_text.specs.declared.message.Method.TheVariants.{Options, Describe, Setup, Announce, Play}
use Rattle.gs_rtsp_text.specs.declared.stop.Stop.{Stop}
use Rattle.gs_rtsp_text.specs.declared.stop.Stop.TheVariants.{Bad}
use Rattle.gs_rtsp_text.specs.Bytes.{crlf, is_value_byte, is_target_byte}
use Rattle.gs_bytes.specs.Numbers.{is_digit}
use Rattle.gs_rtsp_text.specs.Lines.{method_name, three_digits, IsRequestLine, IsStatusLine}
use Rattle.gs_rtsp_text.specs.Reading.{◌>>=◌, literal_at, token_at, word, this_method, method_at, request_line_at, digit_at, status_line_at}
use Rattle.gs_rtsp_text.proofs.Parts.{Opens, Meets, IsCode, Then, meets_at, meets_none, meets_same, then_meets, then_code, then_some, read_same}
use Rattle.gs_rtsp_text.proofs.Tokens.{Exactly, Token, token_meets, token_code, token_some, literal_meets, literal_as, given, exactly_some, exactly_code}

-- ---- methods

abbrev IsWord : List ℕ → Method → Type 0
IsWord w m = w ≡ word m

-- the first byte tells the method
abbrev first_of : Method → ℕ
first_of Options = 79
first_of Describe = 68
first_of Setup = 83
first_of Announce = 65
first_of Play = 80

abbrev method_by : ℕ → Method
method_by b = cond (eqb b 79) Options (cond (eqb b 68) Describe (cond (eqb b 83) Setup (cond (eqb b 65) Announce Play)))

method_by-first : (m : Method) → method_by (first_of m) ≡ m
method_by-first Options = refl
method_by-first Describe = refl
method_by-first Setup = refl
method_by-first Announce = refl
method_by-first Play = refl

word_first : (m : Method) (b : ℕ) (w : List ℕ) → b ∷ w ≡ word m → b ≡ first_of m
word_first Options b w e = cc
word_first Describe b w e = cc
word_first Setup b w e = cc
word_first Announce b w e = cc
word_first Play b w e = cc

word_split : (m : Method) → (w : List ℕ) × (word m ≡ first_of m ∷ w)
word_split Options = (_, refl)
word_split Describe = (_, refl)
word_split Setup = (_, refl)
word_split Announce = (_, refl)
word_split Play = (_, refl)

word_code : IsCode IsWord
word_code a b x y m n p q e =
    let s = word_split m in
    let t = word_split n in
    let whole : word m ++ x ≡ word n ++ y = ap (λ (u : List ℕ). u ++ x) (sym p) ∙ e ∙ ap (λ (u : List ℕ). u ++ y) q in
    let heads : first_of m ≡ first_of n = head_is (first_of m) (first_of n) (s.0 ++ x) (t.0 ++ y)
    (ap (λ (u : List ℕ). u ++ x) (sym s.1) ∙ whole ∙ ap (λ (u : List ℕ). u ++ y) t.1) in
    let same : m ≡ n = sym (method_by-first m) ∙ ap method_by heads ∙ method_by-first n in
    (p ∙ ap word same ∙ sym q, same)
  where
    head_is : (c d : ℕ) (u v : List ℕ) → c ∷ u ≡ d ∷ v → c ≡ d
    head_is c d u v h = cc

word_some : Opens IsWord []
word_some = record { next = 80; more = codes "LAY "; value = Play; word = refl }

-- bytes that begin as the word of m does
method_arm : (m : Method) (b : ℕ) (s : List ℕ) → b ≡ first_of m → Meets IsWord (b ∷ s) (this_method m (b ∷ s))
method_arm m b s first =
    rw (read_same (this_method m (b ∷ s))) (meets_at (Exactly (word m) m) IsWord (λ (x : Method). x) b (λ w x h. h.word ∙ ap word (sym h.value_is))
    (λ w y h. (m, back w y h)) s (this_method m (b ∷ s)) (literal_meets (word m) m (b ∷ s)))
  where
    back : (w : List ℕ) (y : Method) → b ∷ w ≡ word y → Exactly (word m) m (b ∷ w) m
    back w y h =
        let same : y ≡ m = sym (method_by-first y) ∙ ap method_by (sym (word_first y b w h) ∙ first) ∙ method_by-first m in
        record { word = h ∙ ap word same; value_is = refl }

method_none : (b : ℕ) → eqb b 79 ≡ false → eqb b 68 ≡ false → eqb b 83 ≡ false → eqb b 65 ≡ false → eqb b 80 ≡ false → (w : List ℕ) (m : Method)
    → IsWord (b ∷ w) m → ⊥
method_none b o d s a p w Options h = let e = word_first Options b w h in grind (arith, nat_tests)
method_none b o d s a p w Describe h = let e = word_first Describe b w h in grind (arith, nat_tests)
method_none b o d s a p w Setup h = let e = word_first Setup b w h in grind (arith, nat_tests)
method_none b o d s a p w Announce h = let e = word_first Announce b w h in grind (arith, nat_tests)
method_none b o d s a p w Play h = let e = word_first Play b w h in grind (arith, nat_tests)

method_choose : (b : ℕ) (s : List ℕ) (t : Bool) → eqb b 79 ≡ t → (u : Bool) → eqb b 68 ≡ u → (v : Bool) → eqb b 83 ≡ v → (x : Bool) → eqb b 65 ≡ x → (y : Bool)
    → eqb b 80 ≡ y → Meets IsWord (b ∷ s) (cond t (this_method Options (b ∷ s))
    (cond u (this_method Describe (b ∷ s)) (cond v (this_method Setup (b ∷ s))
    (cond x (this_method Announce (b ∷ s)) (cond y (this_method Play (b ∷ s)) (Err (Bad (length (b ∷ s)))))))))
method_choose b s true e u f v g x h y i = method_arm Options b s (grind (arith, nat_tests))
method_choose b s false e true f v g x h y i = method_arm Describe b s (grind (arith, nat_tests))
method_choose b s false e false f true g x h y i = method_arm Setup b s (grind (arith, nat_tests))
method_choose b s false e false f false g true h y i = method_arm Announce b s (grind (arith, nat_tests))
method_choose b s false e false f false g false h true i = method_arm Play b s (grind (arith, nat_tests))
method_choose b s false e false f false g false h false i = meets_none IsWord b s word_some (method_none b e f g h i)

method_meets : (s : List ℕ) → Meets IsWord s (method_at s)
unfolding method_at
method_meets [] = word_some
method_meets (b ∷ s) = method_choose b s (eqb b 79) refl (eqb b 68) refl (eqb b 83) refl (eqb b 65) refl (eqb b 80) refl

-- ---- request lines

abbrev Target : Method → List ℕ → Method × List ℕ → Type 0
Target m = Then (Token is_target_byte 32 false) (λ t. Exactly (codes "RTSP/1.0" ++ crlf) (m, t))

abbrev RequestParts : List ℕ → Method × List ℕ → Type 0
RequestParts = Then IsWord Target

target_some : (m : Method) → Opens (Target m) []
target_some m = then_some (Token is_target_byte 32 false) (λ t. Exactly (codes "RTSP/1.0" ++ crlf) (m, t)) (token_some is_target_byte 32 false 97 refl)
    (λ t. exactly_some 82 (codes "TSP/1.0" ++ crlf) (m, t))

target_meets : (m : Method) (s : List ℕ) → Meets (Target m) s (token_at is_target_byte 32 false s >>= λ t. literal_as (codes "RTSP/1.0" ++ crlf) (m, t.0) t.1)
target_meets m s = then_meets (Token is_target_byte 32 false) (λ t. Exactly (codes "RTSP/1.0" ++ crlf) (m, t)) (token_code is_target_byte 32 false refl)
    (λ t. exactly_some 82 (codes "TSP/1.0" ++ crlf) (m, t)) s (token_at is_target_byte 32 false s) (λ t. literal_as (codes "RTSP/1.0" ++ crlf) (m, t.0) t.1)
    (token_meets is_target_byte 32 false 97 refl refl s) (λ t. literal_meets (codes "RTSP/1.0" ++ crlf) (m, t.0) t.1)

request_parts_meets : (s : List ℕ) → Meets RequestParts s (request_line_at s)
unfolding request_line_at
request_parts_meets s = then_meets IsWord Target word_code target_some s (method_at s)
    (λ m. token_at is_target_byte 32 false m.1 >>= λ t. literal_as (codes "RTSP/1.0" ++ crlf) (m.0, t.0) t.1) (method_meets s) (λ m. target_meets m.0 m.1)

request_line_from_parts : (w : List ℕ) (x : Method × List ℕ) → RequestParts w x → IsRequestLine w x
request_line_from_parts w x p =
    let t = p.second in
    let x-is : x ≡ (p.value, t.value) = t.second.value_is in
    let line : w ≡ method_name p.value ++ 32 ∷ (t.value ++ codes " RTSP/1.0" ++ crlf) =
    p.parts ∙ ap (λ (u : List ℕ). u ++ p.back) p.first ∙ append_assoc (method_name p.value) (32 ∷ []) p.back
    ∙ ap (λ (u : List ℕ). method_name p.value ++ 32 ∷ u) (t.parts ∙ ap (λ (u : List ℕ). u ++ t.back) t.first.word ∙ append_assoc t.value (32 ∷ []) t.back
    ∙ ap (λ (u : List ℕ). t.value ++ 32 ∷ u) t.second.word ∙ sym (append_assoc t.value (codes " RTSP/1.0") crlf)) in
    subst (IsRequestLine w) (sym x-is) ((t.first.some refl, t.first.each), line)

parts_from_request_line : (w : List ℕ) (x : Method × List ℕ) → IsRequestLine w x → RequestParts w x
parts_from_request_line w x l = record {
  front = word x.0;
  back = x.1 ++ codes " RTSP/1.0" ++ crlf;
  value = x.0;
  parts = l.1 ∙ sym (append_assoc (method_name x.0) (32 ∷ []) (x.1 ++ codes " RTSP/1.0" ++ crlf));
  first = refl;
  second = record {
    front = x.1 ++ 32 ∷ [];
    back = codes "RTSP/1.0" ++ crlf;
    value = x.1;
    parts = append_assoc x.1 (codes " RTSP/1.0") crlf ∙ sym (append_assoc x.1 (32 ∷ []) (codes "RTSP/1.0" ++ crlf));
    first = record { each = l.0.1; some = λ e. l.0.0; word = refl };
    second = record { word = refl; value_is = refl };
  };
}

pub request_line_meets : (s : List ℕ) → Meets IsRequestLine s (request_line_at s)
request_line_meets s = meets_same RequestParts IsRequestLine request_line_from_parts parts_from_request_line s (request_line_at s) (request_parts_meets s)

pub request_line_code : IsCode IsRequestLine
request_line_code a b x y m n p q e = then_code IsWord Target word_code
    (λ k. then_code (Token is_target_byte 32 false) (λ t. Exactly (codes "RTSP/1.0" ++ crlf) (k, t)) (token_code is_target_byte 32 false refl)
    (λ t. exactly_code (codes "RTSP/1.0" ++ crlf) (k, t))) a b x y m n (parts_from_request_line a m p) (parts_from_request_line b n q) e

-- ---- status lines

record Digit (w : List ℕ) (d : ℕ) : Type 0 where
  below : d < 10
  word : w ≡ (48 + d) ∷ []

digit_code : IsCode Digit
digit_code a b x y m n p q e =
    let heads : 48 + m ≡ 48 + n = head_is (48 + m) (48 + n) x y (ap (λ (u : List ℕ). u ++ x) (sym p.word) ∙ e ∙ ap (λ (u : List ℕ). u ++ y) q.word) in
    let same : m ≡ n = omega arith in
    (p.word ∙ ap (λ (k : ℕ). (48 + k) ∷ []) same ∙ sym q.word, same)
  where
    head_is : (c d : ℕ) (u v : List ℕ) → c ∷ u ≡ d ∷ v → c ≡ d
    head_is c d u v h = cc

digit_some : Opens Digit []
digit_some = record { next = 48; more = []; value = 0; word = record { below = omega arith; word = refl } }

digit_byte : (b : ℕ) (s : List ℕ) (t : Bool) → is_digit b ≡ t → Meets Digit (b ∷ s) (cond t (Ok (b - 48, s)) (Err (Bad (length (b ∷ s)))))
digit_byte b s true e = record {
  taken = b ∷ [];
  word = record { below = grind (arith, nat_tests); word = ap (λ (k : ℕ). k ∷ []) (grind (arith, nat_tests)) };
  parts = refl;
}
digit_byte b s false e = meets_none Digit b s digit_some (λ q x h. none q x h)
  where
    none : (q : List ℕ) (x : ℕ) → Digit (b ∷ q) x → ⊥
    none q x h =
        let byte : b ≡ 48 + x = cc in
        let below = h.below in
        grind (arith, nat_tests)

digit_meets : (s : List ℕ) → Meets Digit s (digit_at s)
unfolding digit_at
digit_meets [] = digit_some
digit_meets (b ∷ s) = digit_byte b s (is_digit b) refl

-- a literal whose value nobody asks for
literal_then : {B : Type 0} (f : List ℕ → Result B Stop) (r : Result (List ℕ) Stop) → (given {A = ℕ} 0 r >>= λ x. f x.1) ≡ (r >>= f)
literal_then f (Ok x) = refl
literal_then f (Err e) = refl

abbrev Reason : ℕ → List ℕ → ℕ → Type 0
Reason code = Then (Token is_value_byte 13 true) (λ x. Exactly (10 ∷ []) code)

abbrev Space : ℕ → List ℕ → ℕ → Type 0
Space code = Then (Exactly {A = ℕ} (32 ∷ []) 0) (λ x. Reason code)

abbrev Third : ℕ → ℕ → List ℕ → ℕ → Type 0
Third a b = Then Digit (λ c. Space (100 * a + 10 * b + c))

abbrev Second : ℕ → List ℕ → ℕ → Type 0
Second a = Then Digit (Third a)

abbrev First : List ℕ → ℕ → Type 0
First = Then Digit Second

abbrev StatusParts : List ℕ → ℕ → Type 0
StatusParts = Then (Exactly {A = ℕ} (codes "RTSP/1.0 ") 0) (λ x. First)

reason_at : ℕ → List ℕ → Result (ℕ × List ℕ) Stop
reason_at code s = token_at is_value_byte 13 true s >>= λ x. literal_as (10 ∷ []) code x.1

space_at : ℕ → List ℕ → Result (ℕ × List ℕ) Stop
space_at code s = literal_at (32 ∷ []) s >>= reason_at code

third_at : ℕ → ℕ → List ℕ → Result (ℕ × List ℕ) Stop
third_at a b s = digit_at s >>= λ c. space_at (100 * a + 10 * b + c.0) c.1

second_at : ℕ → List ℕ → Result (ℕ × List ℕ) Stop
second_at a s = digit_at s >>= λ b. third_at a b.0 b.1

first_at : List ℕ → Result (ℕ × List ℕ) Stop
first_at s = digit_at s >>= λ a. second_at a.0 a.1

reason_some : (code : ℕ) → Opens (Reason code) []
reason_some code = then_some (Token is_value_byte 13 true) (λ x. Exactly (10 ∷ []) code) (token_some is_value_byte 13 true 32 refl)
    (λ x. exactly_some 10 [] code)

space_some : (code : ℕ) → Opens (Space code) []
space_some code = then_some (Exactly {A = ℕ} (32 ∷ []) 0) (λ x. Reason code) (exactly_some {A = ℕ} 32 [] 0) (λ x. reason_some code)

third_some : (a b : ℕ) → Opens (Third a b) []
third_some a b = then_some Digit (λ c. Space (100 * a + 10 * b + c)) digit_some (λ c. space_some (100 * a + 10 * b + c))

second_some : (a : ℕ) → Opens (Second a) []
second_some a = then_some Digit (Third a) digit_some (third_some a)

first_some : Opens First []
first_some = then_some Digit Second digit_some second_some

reason_meets : (code : ℕ) (s : List ℕ) → Meets (Reason code) s (reason_at code s)
unfolding reason_at
reason_meets code s = then_meets (Token is_value_byte 13 true) (λ x. Exactly (10 ∷ []) code) (token_code is_value_byte 13 true refl)
    (λ x. exactly_some 10 [] code) s (token_at is_value_byte 13 true s) (λ x. literal_as (10 ∷ []) code x.1) (token_meets is_value_byte 13 true 32 refl refl s)
    (λ x. literal_meets (10 ∷ []) code x.1)

space_meets : (code : ℕ) (s : List ℕ) → Meets (Space code) s (space_at code s)
unfolding space_at
space_meets code s = subst (λ (r : Result (ℕ × List ℕ) Stop). Meets (Space code) s r) (literal_then (reason_at code) (literal_at (32 ∷ []) s))
    (then_meets (Exactly {A = ℕ} (32 ∷ []) 0) (λ x. Reason code) (exactly_code {A = ℕ} (32 ∷ []) 0) (λ x. reason_some code) s (literal_as {A = ℕ} (32 ∷ []) 0 s)
    (λ x. reason_at code x.1) (literal_meets {A = ℕ} (32 ∷ []) 0 s) (λ x. reason_meets code x.1))

third_meets : (a b : ℕ) (s : List ℕ) → Meets (Third a b) s (third_at a b s)
unfolding third_at
third_meets a b s = then_meets Digit (λ c. Space (100 * a + 10 * b + c)) digit_code (λ c. space_some (100 * a + 10 * b + c)) s (digit_at s)
    (λ c. space_at (100 * a + 10 * b + c.0) c.1) (digit_meets s) (λ c. space_meets (100 * a + 10 * b + c.0) c.1)

second_meets : (a : ℕ) (s : List ℕ) → Meets (Second a) s (second_at a s)
unfolding second_at
second_meets a s = then_meets Digit (Third a) digit_code (third_some a) s (digit_at s) (λ b. third_at a b.0 b.1) (digit_meets s) (λ b. third_meets a b.0 b.1)

first_meets : (s : List ℕ) → Meets First s (first_at s)
unfolding first_at
first_meets s = then_meets Digit Second digit_code second_some s (digit_at s) (λ a. second_at a.0 a.1) (digit_meets s) (λ a. second_meets a.0 a.1)

status_parts_meets : (s : List ℕ) → Meets StatusParts s (status_line_at s)
unfolding status_line_at first_at second_at third_at space_at reason_at
status_parts_meets s = subst (λ (r : Result (ℕ × List ℕ) Stop). Meets StatusParts s r) (literal_then first_at (literal_at (codes "RTSP/1.0 ") s))
    (then_meets (Exactly {A = ℕ} (codes "RTSP/1.0 ") 0) (λ x. First) (exactly_code {A = ℕ} (codes "RTSP/1.0 ") 0) (λ x. first_some) s
    (literal_as {A = ℕ} (codes "RTSP/1.0 ") 0 s) (λ x. first_at x.1) (literal_meets {A = ℕ} (codes "RTSP/1.0 ") 0 s) (λ x. first_meets x.1))

status_line_from_parts : (w : List ℕ) (x : ℕ) → StatusParts w x → IsStatusLine w x
status_line_from_parts w x p =
    let a = p.second in
    let b = a.second in
    let c = b.second in
    let space = c.second in
    let reason = space.second in
    let x-is : x ≡ 100 * a.value + 10 * b.value + c.value = reason.second.value_is in
    let la = a.first.below in
    let lb = b.first.below in
    let lc = c.first.below in
    let ea : a.value ≡ x / 100 = omega arith in
    let eb : b.value ≡ x / 10 % 10 = omega arith in
    let ec : c.value ≡ x % 10 = omega arith in
    let digits : (48 + a.value) ∷ (48 + b.value) ∷ (48 + c.value) ∷ [] ≡ three_digits x = cc in
    let back : space.back ≡ reason.value ++ crlf = reason.parts ∙ ap (λ (u : List ℕ). u ++ reason.back) reason.first.word
    ∙ ap (λ (u : List ℕ). reason.value ++ 13 ∷ [] ++ u) reason.second.word ∙ append_assoc reason.value (13 ∷ []) (10 ∷ []) in
    let fourth : c.back ≡ 32 ∷ (reason.value ++ crlf) = space.parts ∙ ap (λ (u : List ℕ). u ++ space.back) space.first.word
    ∙ ap (λ (u : List ℕ). 32 ∷ u) back in
    let third : b.back ≡ (48 + c.value) ∷ 32 ∷ (reason.value ++ crlf) = c.parts ∙ ap (λ (u : List ℕ). u ++ c.back) c.first.word
    ∙ ap (λ (u : List ℕ). (48 + c.value) ∷ u) fourth in
    let second : a.back ≡ (48 + b.value) ∷ (48 + c.value) ∷ 32 ∷ (reason.value ++ crlf) = b.parts ∙ ap (λ (u : List ℕ). u ++ b.back) b.first.word
    ∙ ap (λ (u : List ℕ). (48 + b.value) ∷ u) third in
    let first : p.back ≡ three_digits x ++ 32 ∷ (reason.value ++ crlf) = a.parts ∙ ap (λ (u : List ℕ). u ++ a.back) a.first.word
    ∙ ap (λ (u : List ℕ). (48 + a.value) ∷ u) second ∙ ap (λ (u : List ℕ). u ++ 32 ∷ (reason.value ++ crlf)) digits in (
      omega arith,
      reason.value,
      reason.first.each,
      p.parts ∙ ap (λ (u : List ℕ). u ++ p.back) p.first.word ∙ ap (λ (u : List ℕ). codes "RTSP/1.0 " ++ u) first
          ∙ sym (append_assoc (codes "RTSP/1.0 ") (three_digits x) (32 ∷ (reason.value ++ crlf))),
    )

parts_from_status_line : (w : List ℕ) (x : ℕ) → IsStatusLine w x → StatusParts w x
parts_from_status_line w x l =
    let below = l.0 in
    let code-is : 100 * (x / 100) + 10 * (x / 10 % 10) + x % 10 ≡ x = omega arith in
    record {
      front = codes "RTSP/1.0 ";
      back = three_digits x ++ 32 ∷ (l.1 ++ crlf);
      value = 0;
      parts = l.3 ∙ append_assoc (codes "RTSP/1.0 ") (three_digits x) (32 ∷ (l.1 ++ crlf));
      first = record { word = refl; value_is = refl };
      second = record {
        front = (48 + x / 100) ∷ [];
        back = (48 + x / 10 % 10) ∷ (48 + x % 10) ∷ 32 ∷ (l.1 ++ crlf);
        value = x / 100;
        parts = refl;
        first = record { below = omega arith; word = refl };
        second = record {
          front = (48 + x / 10 % 10) ∷ [];
          back = (48 + x % 10) ∷ 32 ∷ (l.1 ++ crlf);
          value = x / 10 % 10;
          parts = refl;
          first = record { below = omega arith; word = refl };
          second = record {
            front = (48 + x % 10) ∷ [];
            back = 32 ∷ (l.1 ++ crlf);
            value = x % 10;
            parts = refl;
            first = record { below = omega arith; word = refl };
            second = record {
              front = 32 ∷ [];
              back = l.1 ++ crlf;
              value = 0;
              parts = refl;
              first = record { word = refl; value_is = refl };
              second = record {
                front = l.1 ++ 13 ∷ [];
                back = 10 ∷ [];
                value = l.1;
                parts = sym (append_assoc l.1 (13 ∷ []) (10 ∷ []));
                first = record { each = l.2; some = λ e g. false≢true (sym e); word = refl };
                second = record { word = refl; value_is = sym code-is };
              };
            };
          };
        };
      };
    }

pub status_line_meets : (s : List ℕ) → Meets IsStatusLine s (status_line_at s)
status_line_meets s = meets_same StatusParts IsStatusLine status_line_from_parts parts_from_status_line s (status_line_at s) (status_parts_meets s)

reason_code : (code : ℕ) → IsCode (Reason code)
reason_code code = then_code (Token is_value_byte 13 true) (λ x. Exactly (10 ∷ []) code) (token_code is_value_byte 13 true refl)
    (λ x. exactly_code (10 ∷ []) code)

space_code : (code : ℕ) → IsCode (Space code)
space_code code = then_code (Exactly {A = ℕ} (32 ∷ []) 0) (λ x. Reason code) (exactly_code {A = ℕ} (32 ∷ []) 0) (λ x. reason_code code)

third_code : (a b : ℕ) → IsCode (Third a b)
third_code a b = then_code Digit (λ c. Space (100 * a + 10 * b + c)) digit_code (λ c. space_code (100 * a + 10 * b + c))

second_code : (a : ℕ) → IsCode (Second a)
second_code a = then_code Digit (Third a) digit_code (third_code a)

first_code : IsCode First
first_code = then_code Digit Second digit_code second_code

pub status_line_code : IsCode IsStatusLine
status_line_code a b x y m n p q e = then_code (Exactly {A = ℕ} (codes "RTSP/1.0 ") 0) (λ k. First) (exactly_code {A = ℕ} (codes "RTSP/1.0 ") 0)
    (λ k. first_code) a b x y m n (parts_from_status_line a m p) (parts_from_status_line b n q) e
