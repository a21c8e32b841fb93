-- The value of a CSeq is read exactly.
use Rattle.std.proofs.Common.{◌≡◌, ℕ, zero, suc, ◌+◌, ◌-◌, ◌*◌, ◌^◌, ◌<◌, ◌≤◌, Bool, true, false, cond, eqb, leb, ltb, List, [], ◌∷◌, ◌++◌, length, Result, Ok}
use Rattle.std.proofs.Common.{Err, refl, sym, ap, subst, ◌∙◌, arith, ◌||◌, zero-add}
use Rattle.std.specs.List.{list_all}
use Rattle.std.proofs.lemmas.Bool.{false≢true}
use Rattle.std.proofs.lemmas.Bool.Decides.{nat_tests}
use Rattle.gs_rtsp_text.specs.declared.stop.Stop.{Stop}
use Rattle.gs_rtsp_text.specs.declared.stop.Stop.TheVariants.{More, Bad}
use Rattle.gs_bytes.specs.Words.{without_first_spaces, is_space, spaces}
use Rattle.gs_bytes.specs.Numbers.{is_digit, number_from, number_of}
use Rattle.gs_rtsp_text.specs.Bytes.{is_sequence_number}
use Rattle.gs_rtsp_text.specs.Reading.{◌>>=◌, with_first, literal_at, token_at, digits_at, decimal_at, sequence_at}
use Rattle.gs_rtsp_text.proofs.Parts.{Opens, Meets, Then, meets_more, meets_none, meets_at, then_meets, read_same}
use Rattle.gs_bytes.proofs.SpaceLemmas.{without_first-cons}
use Rattle.gs_rtsp_text.proofs.Tokens.{Exactly, Token, token_meets, token_code, literal_meets, literal_as, exactly_some}

-- spaces to the end of a line
abbrev pub Trailing : List ℕ → List ℕ → Type 0
Trailing = Then (Token is_space 13 true) (λ x. Exactly (10 ∷ []) x)

abbrev pub trailing_at : List ℕ → Result (List ℕ × List ℕ) Stop
trailing_at s = token_at is_space 13 true s >>= λ x. literal_as (10 ∷ []) x.0 x.1

trailing_meets : (s : List ℕ) → Meets Trailing s (trailing_at s)
trailing_meets s = then_meets (Token is_space 13 true) (λ x. Exactly (10 ∷ []) x) (token_code is_space 13 true refl) (λ x. exactly_some 10 [] x) s
    (token_at is_space 13 true s) (λ x. literal_as (10 ∷ []) x.0 x.1) (token_meets is_space 13 true 32 refl refl s) (λ x. literal_meets (10 ∷ []) x.0 x.1)

-- further digits of a number below 2 ^ 31, to the end of a line
pub record Digits (n : ℕ) (w : List ℕ) (ds : List ℕ) : Type 0 where
  pub each : list_all is_digit ds ≡ true
  pub zero_is : n ≡ 0 → ds ≡ []
  pub below : number_from n ds < 2 ^ 31
  pub back : List ℕ
  pub blank : List ℕ
  pub trailing : Trailing back blank
  pub parts : w ≡ ds ++ back

abbrev pub digits_to_end : ℕ → List ℕ → Result (List ℕ × List ℕ) Stop
digits_to_end n [] = Err More
digits_to_end n (b ∷ s) =
    cond (is_digit b) (cond (eqb n 0 || leb (2 ^ 31) (10 * n + (b - 48))) (Err (Bad (length (b ∷ s)))) (with_first b (digits_to_end (10 * n + (b - 48)) s)))
    (trailing_at (b ∷ s) >>= λ x. Ok ([], x.1))

pub number_from-le : (n : ℕ) (ds : List ℕ) → n ≤ number_from n ds
number_from-le n [] = omega arith
number_from-le n (d ∷ ds) = omega (arith, number_from-le (10 * n + (d - 48)) ds)

line_end : Trailing (13 ∷ 10 ∷ []) []
line_end = record {
  front = 13 ∷ [];
  back = 10 ∷ [];
  value = [];
  parts = refl;
  first = record { each = refl; some = λ e h. false≢true (sym e); word = refl };
  second = record { word = refl; value_is = refl };
}

digits_open : (n : ℕ) → n < 2 ^ 31 → Opens (Digits n) []
digits_open n lt = record {
  next = 13;
  more = 10 ∷ [];
  value = [];
  word = record { each = refl; zero_is = λ e. refl; below = lt; back = 13 ∷ 10 ∷ []; blank = []; trailing = line_end; parts = refl };
}

-- a trailing part begins with a space or CR
trailing_first : (b : ℕ) (w x : List ℕ) → Trailing (b ∷ w) x → is_digit b ≡ true → ⊥
trailing_first b w x t d = by_value t.value t.first t.parts
  where
    by_value : (v : List ℕ) → Token is_space 13 true t.front v → b ∷ w ≡ t.front ++ t.back → ⊥
    by_value [] f p =
        let byte : b ≡ 13 = cc in
        false≢true (grind (arith, byte, d))
    by_value (c ∷ v) f p =
        let byte : b ≡ c = cc in
        let space : eqb c 32 ≡ true = grind (arith, f.each) in
        grind (arith, nat_tests, byte, d, space)

digits_more : (n b : ℕ) (s : List ℕ) → n < 2 ^ 31 → is_digit b ≡ true
    → (10 * n + (b - 48) < 2 ^ 31 → Meets (Digits (10 * n + (b - 48))) s (digits_to_end (10 * n + (b - 48)) s)) → (t : Bool)
    → (eqb n 0 || leb (2 ^ 31) (10 * n + (b - 48))) ≡ t → Meets (Digits n) (b ∷ s)
    (cond t (Err (Bad (length (b ∷ s)))) (with_first b (digits_to_end (10 * n + (b - 48)) s)))
digits_more n b s lt d rest true e = meets_none (Digits n) b s (digits_open n lt) (λ q x h. none q x h)
  where
    none : (q x : List ℕ) → Digits n (b ∷ q) x → ⊥
    none q [] h = trailing_first b q h.blank (subst (λ (t : List ℕ). Trailing t h.blank) (sym h.parts) h.trailing) d
    none q (c ∷ x) h =
        let byte : b ≡ c = cc in
        let le = number_from-le (10 * n + (c - 48)) x in
        let some : n ≡ 0 → ⊥ = λ z. absurd (cc (h.zero_is z)) in
        let far : 10 * n + (b - 48) < 2 ^ 31 = omega (arith, h.below, byte, le) in
        grind (arith, nat_tests)
digits_more n b s lt d rest false e =
    let some : n ≡ 0 → ⊥ = grind (arith, nat_tests) in
    let small : 10 * n + (b - 48) < 2 ^ 31 = grind (arith, nat_tests) in
    meets_more (Digits (10 * n + (b - 48))) (Digits n) b (λ (x : List ℕ). b ∷ x)
    (λ w x h. record {
      each = grind (arith, d, h.each);
      zero_is = λ z. absurd (some z);
      below = h.below;
      back = h.back;
      blank = h.blank;
      trailing = h.trailing;
      parts = ap (λ (t : List ℕ). b ∷ t) h.parts;
    }) (λ w y h. tail w y h) s (digits_to_end (10 * n + (b - 48)) s) (rest small)
  where
    tail : (w y : List ℕ) → Digits n (b ∷ w) y → (x : List ℕ) × Digits (10 * n + (b - 48)) w x
    tail w [] h = absurd (trailing_first b w h.blank (subst (λ (t : List ℕ). Trailing t h.blank) (sym h.parts) h.trailing) d)
    tail w (c ∷ y) h =
        let byte : c ≡ b = cc in
        let some : n ≡ 0 → ⊥ = grind (arith, nat_tests) in
        let far : number_from (10 * n + (b - 48)) y < 2 ^ 31 = subst (λ (k : ℕ). number_from (10 * n + (k - 48)) y < 2 ^ 31) byte h.below in
        let le = number_from-le (10 * n + (b - 48)) y in (
          y,
          record {
            each = grind (arith, h.each);
            zero_is = λ z. absurd (some (omega arith));
            below = far;
            back = h.back;
            blank = h.blank;
            trailing = h.trailing;
            parts = cc;
          },
        )

digits_byte : (n b : ℕ) (s : List ℕ) → n < 2 ^ 31 → (10 * n + (b - 48) < 2 ^ 31 → Meets (Digits (10 * n + (b - 48))) s (digits_to_end (10 * n + (b - 48)) s))
    → (t : Bool) → is_digit b ≡ t → Meets (Digits n) (b ∷ s) (cond t
    (cond (eqb n 0 || leb (2 ^ 31) (10 * n + (b - 48))) (Err (Bad (length (b ∷ s)))) (with_first b (digits_to_end (10 * n + (b - 48)) s)))
    (trailing_at (b ∷ s) >>= λ x. Ok ([], x.1)))
digits_byte n b s lt rest true e = digits_more n b s lt e rest (eqb n 0 || leb (2 ^ 31) (10 * n + (b - 48))) refl
digits_byte n b s lt rest false e = meets_at Trailing (Digits n) (λ x. []) b
    (λ w x h. record { each = refl; zero_is = λ z. refl; below = lt; back = w; blank = x; trailing = h; parts = refl }) (λ w y h. back w y h) s
    (trailing_at (b ∷ s)) (trailing_meets (b ∷ s))
  where
    back : (w y : List ℕ) → Digits n (b ∷ w) y → (x : List ℕ) × Trailing (b ∷ w) x
    back w [] h = (h.blank, subst (λ (t : List ℕ). Trailing t h.blank) (sym h.parts) h.trailing)
    back w (c ∷ y) h =
        let byte : b ≡ c = cc in
        absurd (false≢true (grind (arith, byte, h.each, e)))

digits_meets : (n : ℕ) (s : List ℕ) → n < 2 ^ 31 → Meets (Digits n) s (digits_to_end n s)
digits_meets n [] lt = digits_open n lt
digits_meets n (b ∷ s) lt = digits_byte n b s lt (λ h. digits_meets (10 * n + (b - 48)) s h) (is_digit b) refl

-- a number of a CSeq, to the end of its line
pub record Numbered (w : List ℕ) (ds : List ℕ) : Type 0 where
  pub number : is_sequence_number ds ≡ true
  pub back : List ℕ
  pub blank : List ℕ
  pub trailing : Trailing back blank
  pub parts : w ≡ ds ++ back

abbrev pub number_to_end : List ℕ → Result (List ℕ × List ℕ) Stop
number_to_end [] = Err More
number_to_end (b ∷ s) = cond (is_digit b) (with_first b (digits_to_end (b - 48) s)) (Err (Bad (length (b ∷ s))))

-- what the number's first digit and the others must be
pub number_parts : (d : ℕ) (ds : List ℕ) → is_sequence_number (d ∷ ds) ≡ true → (is_digit d ≡ true) × (list_all is_digit ds ≡ true) × (d - 48 ≡ 0 → ds ≡ [])
    × (number_from (d - 48) ds < 2 ^ 31)
number_parts d [] e = (grind (arith, nat_tests), refl, λ z. refl, grind (arith, nat_tests))
number_parts d (c ∷ ds) e =
    let value : number_of (d ∷ c ∷ ds) ≡ number_from (d - 48) (c ∷ ds) = ap (λ (n : ℕ). number_from n (c ∷ ds)) (zero-add (d - 48)) in
    let below : ltb (number_of (d ∷ c ∷ ds)) (2 ^ 31) ≡ true = grind arith in
    let large : ltb 48 d ≡ true = grind arith in
    let all : list_all is_digit (d ∷ c ∷ ds) ≡ true = grind arith in
    (grind arith, grind arith, λ z. absurd (grind (arith, nat_tests)), grind (arith, nat_tests))

number_from_parts : (d : ℕ) (ds : List ℕ) → is_digit d ≡ true → list_all is_digit ds ≡ true → (d - 48 ≡ 0 → ds ≡ []) → number_from (d - 48) ds < 2 ^ 31
    → is_sequence_number (d ∷ ds) ≡ true
number_from_parts d [] a b c e = grind (arith, nat_tests)
number_from_parts d (x ∷ ds) a b c e =
    let value : number_of (d ∷ x ∷ ds) ≡ number_from (d - 48) (x ∷ ds) = ap (λ (n : ℕ). number_from n (x ∷ ds)) (zero-add (d - 48)) in
    let some : d - 48 ≡ 0 → ⊥ = λ z. absurd (cc (c z)) in
    let large : ltb 48 d ≡ true = grind (arith, nat_tests) in
    let below : ltb (number_of (d ∷ x ∷ ds)) (2 ^ 31) ≡ true = grind (arith, nat_tests) in
    let all : list_all is_digit (d ∷ x ∷ ds) ≡ true = grind (arith, a, b) in
    rw (large, all, below) refl

one_digit : is_sequence_number (48 ∷ []) ≡ true
one_digit = refl

number_open : Opens Numbered []
number_open = record {
  next = 48;
  more = 13 ∷ 10 ∷ [];
  value = 48 ∷ [];
  word = record { number = one_digit; back = 13 ∷ 10 ∷ []; blank = []; trailing = line_end; parts = refl };
}

number_byte : (b : ℕ) (s : List ℕ) → (t : Bool) → is_digit b ≡ t
    → Meets Numbered (b ∷ s) (cond t (with_first b (digits_to_end (b - 48) s)) (Err (Bad (length (b ∷ s)))))
number_byte b s true e =
    let small : b - 48 < 2 ^ 31 = grind (arith, nat_tests) in
    meets_more (Digits (b - 48)) Numbered b (λ (x : List ℕ). b ∷ x)
    (λ w x h. record {
      number = number_from_parts b x e h.each h.zero_is h.below;
      back = h.back;
      blank = h.blank;
      trailing = h.trailing;
      parts = ap (λ (t : List ℕ). b ∷ t) h.parts;
    }) (λ w y h. tail w y h) s (digits_to_end (b - 48) s) (digits_meets (b - 48) s small)
  where
    tail : (w y : List ℕ) → Numbered (b ∷ w) y → (x : List ℕ) × Digits (b - 48) w x
    tail w [] h = absurd (false≢true h.number)
    tail w (c ∷ y) h =
        let byte : c ≡ b = cc in
        let p = number_parts c y h.number in (
          y,
          record {
            each = p.1;
            zero_is = subst (λ (k : ℕ). k - 48 ≡ 0 → y ≡ []) byte p.2;
            below = subst (λ (k : ℕ). number_from (k - 48) y < 2 ^ 31) byte p.3;
            back = h.back;
            blank = h.blank;
            trailing = h.trailing;
            parts = cc;
          },
        )
number_byte b s false e = meets_none Numbered b s number_open (λ q x h. none q x h)
  where
    none : (q x : List ℕ) → Numbered (b ∷ q) x → ⊥
    none q [] h = false≢true h.number
    none q (c ∷ x) h =
        let byte : c ≡ b = cc in
        let p = number_parts c x h.number in
        false≢true (sym e ∙ subst (λ (k : ℕ). is_digit k ≡ true) byte p.0)

number_meets : (s : List ℕ) → Meets Numbered s (number_to_end s)
number_meets [] = number_open
number_meets (b ∷ s) = number_byte b s (is_digit b) refl

-- the same behind any spaces
pub record Spaced (w : List ℕ) (ds : List ℕ) : Type 0 where
  pub count : ℕ
  pub rest : List ℕ
  pub numbered : Numbered rest ds
  pub parts : w ≡ spaces count ++ rest

pub spaced_open : Opens Spaced []
unfolding number_open
spaced_open = record {
  next = 48;
  more = 13 ∷ 10 ∷ [];
  value = 48 ∷ [];
  word = record { count = 0; rest = 48 ∷ 13 ∷ 10 ∷ []; numbered = number_open.word; parts = refl };
}

abbrev pub spaced_to_end : List ℕ → Result (List ℕ × List ℕ) Stop
spaced_to_end s = number_to_end (without_first_spaces s)

numbered_first : (b : ℕ) (w y : List ℕ) → Numbered (b ∷ w) y → is_digit b ≡ true
numbered_first b w [] h = absurd (false≢true h.number)
numbered_first b w (c ∷ y) h =
    let byte : c ≡ b = cc in
    subst (λ (k : ℕ). is_digit k ≡ true) byte (number_parts c y h.number).0

spaced_byte : (b : ℕ) (s : List ℕ) → Meets Spaced s (spaced_to_end s) → (t : Bool) → eqb b 32 ≡ t
    → Meets Spaced (b ∷ s) (number_to_end (cond t (without_first_spaces s) (b ∷ s)))
spaced_byte b s rest true e =
    let byte : b ≡ 32 = grind (arith, nat_tests) in
    rw (read_same (number_to_end (without_first_spaces s))) (meets_more Spaced Spaced b (λ (x : List ℕ). x)
    (λ w x h. record { count = suc h.count; rest = h.rest; numbered = h.numbered; parts = rw (byte) (ap (λ (t : List ℕ). 32 ∷ t) h.parts) })
    (λ w y h. (y, tail w y h h.count h.parts)) s (number_to_end (without_first_spaces s)) rest)
  where
    tail : (w y : List ℕ) → (h : Spaced (b ∷ w) y) → (k : ℕ) → b ∷ w ≡ spaces k ++ h.rest → Spaced w y
    tail w y h zero p =
        let digit = numbered_first b w y (subst (λ (t : List ℕ). Numbered t y) (sym p) h.numbered) in
        absurd (grind (arith, nat_tests))
    tail w y h (suc k) p = record { count = k; rest = h.rest; numbered = h.numbered; parts = cc }
spaced_byte b s rest false e =
    rw (read_same (number_to_end (b ∷ s))) (meets_at Numbered Spaced (λ (x : List ℕ). x) b (λ w x h. record { count = 0; rest = w; numbered = h; parts = refl })
    (λ w y h. (y, back w y h h.count h.parts)) s (number_to_end (b ∷ s)) (number_meets (b ∷ s)))
  where
    back : (w y : List ℕ) → (h : Spaced (b ∷ w) y) → (k : ℕ) → b ∷ w ≡ spaces k ++ h.rest → Numbered (b ∷ w) y
    back w y h zero p = subst (λ (t : List ℕ). Numbered t y) (sym p) h.numbered
    back w y h (suc k) p =
        let byte : b ≡ 32 = cc in
        absurd (grind (arith, nat_tests))

spaced_meets : (s : List ℕ) → Meets Spaced s (spaced_to_end s)
spaced_meets [] = spaced_open
spaced_meets (b ∷ s) = rw (without_first-cons b s) (spaced_byte b s (spaced_meets s) (eqb b 32) refl)

-- ---- the same, in the steps that the code takes

abbrev with_rest : List ℕ → Result (List ℕ) Stop → Result (List ℕ × List ℕ) Stop
with_rest ds r = r >>= λ z. Ok (ds, z)

abbrev finish : List ℕ → Result (List ℕ × List ℕ) Stop → Result (List ℕ × List ℕ) Stop
finish ds r = r >>= λ y. with_rest ds (literal_at (10 ∷ []) y.1)

abbrev after_digits : List ℕ × List ℕ → Result (List ℕ × List ℕ) Stop
after_digits x = finish x.0 (token_at is_space 13 true x.1)

rest_first : (b : ℕ) (ds : List ℕ) (r : Result (List ℕ) Stop) → with_first b (with_rest ds r) ≡ with_rest (b ∷ ds) r
rest_first b ds (Ok z) = refl
rest_first b ds (Err e) = refl

finish_first : (b : ℕ) (ds : List ℕ) (r : Result (List ℕ × List ℕ) Stop) → with_first b (finish ds r) ≡ finish (b ∷ ds) r
finish_first b ds (Ok y) = rest_first b ds (literal_at (10 ∷ []) y.1)
finish_first b ds (Err e) = refl

digits_first : (b : ℕ) (r : Result (List ℕ × List ℕ) Stop) → with_first b (r >>= after_digits) ≡ (with_first b r >>= after_digits)
digits_first b (Ok x) = finish_first b x.0 (token_at is_space 13 true x.1)
digits_first b (Err e) = refl

abbrev without_blank : Result (List ℕ × List ℕ) Stop → Result (List ℕ × List ℕ) Stop
without_blank r = r >>= λ x. Ok ([], x.1)

blank_rest : (x : List ℕ) (r : Result (List ℕ) Stop) → without_blank (with_rest x r) ≡ with_rest [] r
blank_rest x (Ok z) = refl
blank_rest x (Err e) = refl

blank_same : (r : Result (List ℕ × List ℕ) Stop) → without_blank (r >>= λ x. literal_as (10 ∷ []) x.0 x.1) ≡ finish [] r
blank_same (Ok y) = blank_rest y.0 (literal_at (10 ∷ []) y.1)
blank_same (Err e) = refl

digits_choose : (b m : ℕ) (s : List ℕ) (r : Result (List ℕ × List ℕ) Stop) → r ≡ (digits_at m s >>= after_digits) → (t u : Bool)
    → cond t (cond u (Err (Bad (length (b ∷ s)))) (with_first b r)) (without_blank (trailing_at (b ∷ s)))
    ≡ (cond t (cond u (Err (Bad (length (b ∷ s)))) (with_first b (digits_at m s))) (Ok ([], b ∷ s)) >>= after_digits)
digits_choose b m s r e true true = refl
digits_choose b m s r e true false = ap (with_first b) e ∙ digits_first b (digits_at m s)
digits_choose b m s r e false u = blank_same (token_at is_space 13 true (b ∷ s))

digits_same : (n : ℕ) (s : List ℕ) → digits_to_end n s ≡ (digits_at n s >>= after_digits)
digits_same n [] = refl
digits_same n (b ∷ s) = digits_choose b (10 * n + (b - 48)) s (digits_to_end (10 * n + (b - 48)) s) (digits_same (10 * n + (b - 48)) s) (is_digit b)
    (eqb n 0 || leb (2 ^ 31) (10 * n + (b - 48)))

number_choose : (b : ℕ) (s : List ℕ) (t : Bool) → cond t (with_first b (digits_to_end (b - 48) s)) (Err (Bad (length (b ∷ s))))
    ≡ (cond t (with_first b (digits_at (b - 48) s)) (Err (Bad (length (b ∷ s)))) >>= after_digits)
number_choose b s true = ap (with_first b) (digits_same (b - 48) s) ∙ digits_first b (digits_at (b - 48) s)
number_choose b s false = refl

number_same : (s : List ℕ) → number_to_end s ≡ (decimal_at s >>= after_digits)
number_same [] = refl
number_same (b ∷ s) = number_choose b s (is_digit b)

pub sequence_meets : (s : List ℕ) → Meets Spaced s (sequence_at s)
unfolding sequence_at
sequence_meets s = subst (λ (r : Result (List ℕ × List ℕ) Stop). Meets Spaced s r) (number_same (without_first_spaces s)) (spaced_meets s)
