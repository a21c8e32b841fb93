-- The number of a header is read exactly where it is written so.
use Rattle.std.proofs.Common.{◌≡◌, ℕ, zero, suc, ◌+◌, ◌-◌, ◌^◌, ◌<◌, ◌≤◌, Bool, true, false, cond, eqb, leb, ltb, ◌&&◌, List, [], ◌∷◌, ◌++◌, length, drop}
use Rattle.std.proofs.Common.{replicate, Option, Some, None, refl, sym, ap, ◌∙◌, arith, length-append, lit<}
use Rattle.std.specs.Prelude.{decimal, option_and_then, nat_eq, IfSome}
use Rattle.std.specs.List.{starts_with}
use Rattle.std.proofs.lemmas.Bool.{false≢true}
use Rattle.std.proofs.lemmas.Bool.Decides.{nat_tests, Decides-eqb}
use Rattle.std.proofs.lemmas.List.{length-replicate}
use Rattle.std.proofs.lemmas.Slice.Eq.{starts_is}
use Rattle.gs_bytes.specs.Numbers.{is_decimal, number_of, decimal_up_to}
use Rattle.gs_bytes.proofs.Decimals.{decimal_is_decimal, decimal_is_printed, decimal_up_to-decimal}
use Rattle.gs_sdp.specs.Lines.{behind_prefix}
use Rattle.gs_rtsp.specs.declared.field.Field.{Field}
use Rattle.gs_rtsp.specs.declared.field.Field.TheVariants.{Sequence, ClientVersion, Session, Port, PingPayload, ConnectData, ContentLength}
use Rattle.gs_rtsp.specs.Fields.{field_prefix, field_text, field_number, least_digits, padded, padded_number, unpadded, without_zeros}

-- ---- decimal digits

is_nonempty : (ds : List ℕ) → is_decimal ds ≡ true → 0 < length ds
is_nonempty [] e = absurd (false≢true e)
is_nonempty (d ∷ ds) e = omega arith

abbrev number_if : Bool → ℕ → Option ℕ
number_if t n = cond t (Some n) None

up_to_parts : (most n : ℕ) (ds : List ℕ) → decimal_up_to most ds ≡ Some n → (is_decimal ds ≡ true) × (number_of ds ≡ n) × (n ≤ most)
up_to_parts most n ds e = by_tests (is_decimal ds) (leb (number_of ds) most) refl refl e
  where
    by_tests : (s t : Bool) → is_decimal ds ≡ s → leb (number_of ds) most ≡ t → number_if (s && t) (number_of ds) ≡ Some n → (is_decimal ds ≡ true)
        × (number_of ds ≡ n) × (n ≤ most)
    by_tests true true p q h = let v : number_of ds ≡ n = cc in (p, v, grind (arith, nat_tests, v, q))
    by_tests true false p q h = absurd (cc)
    by_tests false t p q h = absurd (cc)

-- a number that is read is written so
pub is_written : (most n : ℕ) (ds : List ℕ) → most < 2 ^ 64 → decimal_up_to most ds ≡ Some n → ds ≡ decimal n
is_written most n ds lt e =
    let p = up_to_parts most n ds e in
    let small : number_of ds < 2 ^ 64 = omega (arith, p.1, p.2) in
    decimal_is_printed ds p.0 small ∙ ap decimal p.1

-- ---- zeros before it

zeros_step : (x : List ℕ) → 0 < length x → without_zeros (48 ∷ x) ≡ without_zeros x
zeros_step [] h = absurd (omega arith)
zeros_step (d ∷ x) h = refl

zeros_none : (ds : List ℕ) → is_decimal ds ≡ true → without_zeros ds ≡ ds
zeros_none [] e = refl
zeros_none (d ∷ []) e = refl
zeros_none (d ∷ c ∷ ds) e =
    let other : eqb d 48 ≡ false = grind (arith, nat_tests, e) in
    ap (λ (t : Bool). cond t (without_zeros (c ∷ ds)) (d ∷ c ∷ ds)) other

zeros_off : (k : ℕ) (ds : List ℕ) → is_decimal ds ≡ true → without_zeros (replicate k 48 ++ ds) ≡ ds
zeros_off zero ds e = zeros_none ds e
zeros_off (suc k) ds e =
    let some : 0 < length (replicate k 48 ++ ds) = omega (arith, is_nonempty ds e, length-append (replicate k 48) ds) in
    zeros_step (replicate k 48 ++ ds) some ∙ zeros_off k ds e

-- the zeros that were taken off
pub record Taken (ds es : List ℕ) : Type 0 where
  pub zeros : ℕ
  pub count : length ds ≡ zeros + length es
  pub parts : ds ≡ replicate zeros 48 ++ es

zeros_taken : (ds : List ℕ) → Taken ds (without_zeros ds)
zeros_taken [] = record { zeros = 0; count = refl; parts = refl }
zeros_taken (d ∷ []) = record { zeros = 0; count = refl; parts = refl }
zeros_taken (d ∷ c ∷ ds) = by_test (eqb d 48) refl (zeros_taken (c ∷ ds))
  where
    by_test : (t : Bool) → eqb d 48 ≡ t → Taken (c ∷ ds) (without_zeros (c ∷ ds)) → Taken (d ∷ c ∷ ds) (cond t (without_zeros (c ∷ ds)) (d ∷ c ∷ ds))
    by_test false e h = record { zeros = 0; count = omega arith; parts = refl }
    by_test true e h =
        let byte : d ≡ 48 = grind (arith, nat_tests, e) in
        record { zeros = suc h.zeros; count = omega (arith, h.count); parts = ap (λ (b : ℕ). b ∷ c ∷ ds) byte ∙ ap (λ (s : List ℕ). 48 ∷ s) h.parts }

-- ---- padded numbers

abbrev above : ℕ
above = 2 ^ 32 - 1

padded_read : (least n : ℕ) → n < 2 ^ 32 → padded_number least (padded least n) ≡ Some n
unfolding padded padded_number
padded_read least n lt = by_length (leb (length (decimal n)) least) refl
  where
    zeros : ℕ
    zeros = least - length (decimal n)

    whole : List ℕ
    whole = replicate (least - length (decimal n)) 48 ++ decimal n

    wide : n < 2 ^ 64
    wide = omega arith

    read : decimal_up_to (2 ^ 32 - 1) (decimal n) ≡ Some n
    read = decimal_up_to-decimal (2 ^ 32 - 1) n (omega arith) wide

    count : length whole ≡ least - length (decimal n) + length (decimal n)
    count = length-append (replicate (least - length (decimal n)) 48) (decimal n)
        ∙ ap (λ (k : ℕ). k + length (decimal n)) (length-replicate (least - length (decimal n)) 48)

    by_length : (t : Bool) → leb (length (decimal n)) least ≡ t → option_and_then (decimal_up_to (2 ^ 32 - 1)) (unpadded least whole) ≡ Some n
    by_length true e =
        let le : length (decimal n) ≤ least = grind (arith, nat_tests, e) in
        let same : length whole ≡ least = omega (arith, count) in
        let no : ltb (length whole) least ≡ false = grind (arith, nat_tests, same) in
        let yes : eqb (length whole) least ≡ true = grind (arith, nat_tests, same) in
        rw (no, yes, zeros_off (least - length (decimal n)) (decimal n) (decimal_is_decimal n wide)) read
    by_length false e =
        let lt : least < length (decimal n) = grind (arith, nat_tests, e) in
        let none : least - length (decimal n) ≡ 0 = omega arith in
        let bare : whole ≡ decimal n = ap (λ (k : ℕ). replicate k 48 ++ decimal n) none in
        let no : ltb (length (decimal n)) least ≡ false = grind (arith, nat_tests) in
        let no_more : eqb (length (decimal n)) least ≡ false = grind (arith, nat_tests) in
        rw (bare, no, no_more) read

padded_back : (least n : ℕ) (ds : List ℕ) → padded_number least ds ≡ Some n → ds ≡ padded least n
unfolding padded padded_number
padded_back least n ds h = by_tests (ltb (length ds) least) (eqb (length ds) least) refl refl h
  where
    read : Option (List ℕ) → Option ℕ
    read o = option_and_then (decimal_up_to (2 ^ 32 - 1)) o

    by_tests : (s t : Bool) → ltb (length ds) least ≡ s → eqb (length ds) least ≡ t
        → option_and_then (decimal_up_to (2 ^ 32 - 1)) (cond s None (cond t (Some (without_zeros ds)) (Some ds))) ≡ Some n
        → ds ≡ replicate (least - length (decimal n)) 48 ++ decimal n
    by_tests true t p q e = absurd (cc)
    by_tests false true p q e =
        let same : length ds ≡ least = grind (arith, nat_tests, q) in
        let number = is_written (2 ^ 32 - 1) n (without_zeros ds) (lit< tt) e in
        let taken = zeros_taken ds in
        let count : taken.zeros ≡ least - length (decimal n) = omega (arith, taken.count, ap length number, same) in
        taken.parts ∙ ap (λ (k : ℕ). replicate k 48 ++ without_zeros ds) count
        ∙ ap (λ (es : List ℕ). replicate (least - length (decimal n)) 48 ++ es) number
    by_tests false false p q e =
        let number = is_written (2 ^ 32 - 1) n ds (lit< tt) e in
        let lt : least < length ds = grind (arith, nat_tests, p, q) in
        let none : 0 ≡ least - length (decimal n) = omega (arith, lt, ap length number) in
        number ∙ ap (λ (k : ℕ). replicate k 48 ++ decimal n) none

-- ---- behind a prefix

behind_back : (p s rest : List ℕ) → behind_prefix p s ≡ Some rest → s ≡ p ++ rest
behind_back p s rest h = by_test (starts_with nat_eq s p) refl h
  where
    by_test : (t : Bool) → starts_with nat_eq s p ≡ t → cond t (Some (drop (length p) s)) None ≡ Some rest → s ≡ p ++ rest
    by_test true e f = let same : drop (length p) s ≡ rest = cc in (starts_is Decides-eqb s p (starts_with nat_eq s p) refl).0 e
        ∙ ap (λ (r : List ℕ). p ++ r) same
    by_test false e f = absurd (cc)

read_behind : (f : Field) (digits : List ℕ) → field_number f (field_prefix f ++ digits) ≡ padded_number (least_digits f) digits
read_behind Sequence digits = refl
read_behind ClientVersion digits = refl
read_behind Session digits = refl
read_behind Port digits = refl
read_behind PingPayload digits = refl
read_behind ConnectData digits = refl
read_behind ContentLength digits = refl

-- what is written is read
pub written_is_read : (f : Field) (n : ℕ) → n < 2 ^ 32 → field_number f (field_text f n) ≡ Some n
written_is_read f n lt = read_behind f (padded (least_digits f) n) ∙ padded_read (least_digits f) n lt

-- what is read was written
pub read_was_written : (f : Field) (n : ℕ) (value : List ℕ) → field_number f value ≡ Some n → value ≡ field_text f n
read_was_written f n value h = by_rest (behind_prefix (field_prefix f) value) refl h
  where
    by_rest : (o : Option (List ℕ)) → behind_prefix (field_prefix f) value ≡ o → option_and_then (padded_number (least_digits f)) o ≡ Some n
        → value ≡ field_text f n
    by_rest None e k = absurd (cc)
    by_rest (Some digits) e k = behind_back (field_prefix f) value digits e
        ∙ ap (λ (ds : List ℕ). field_prefix f ++ ds) (padded_back (least_digits f) n digits k)

pub number_was_written : (f : Field) (value : List ℕ) (r : Option ℕ) → r ≡ field_number f value → IfSome r (λ n. value ≡ field_text f n)
number_was_written f value None e = tt
number_was_written f value (Some n) e = read_was_written f n value (sym e)
