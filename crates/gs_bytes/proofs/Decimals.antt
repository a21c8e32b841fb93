-- What std prints of a number is a decimal number and stands for it, and nothing else is one.
use Rattle.std.proofs.Common.{◌≡◌, ◌↔◌, false, length, get_or, sym, ℕ, ℤ, FitsSigned, w64, ◌+◌, ◌-◌, ◌*◌, ◌/◌, ◌%◌, ◌^◌, ◌<◌, ◌≤◌, Bool, true, cond, leb, ltb}
use Rattle.std.proofs.Common.{List, [], ◌∷◌, ◌++◌, Option, Some, None, refl, ap, ◌∙◌, arith, ◌&&◌}
use Rattle.std.specs.Fmt.{decimal, signed_decimal}
use Rattle.std.specs.Char.{digit_value}
use Rattle.std.specs.List.{list_all}
use Rattle.std.specs.Str.Parse.{AllDigits, digits_value_after}
use Rattle.std.proofs.lemmas.Fmt.{decimal_by_steps, decimal-digits_value, decimal_injective, signed_decimal_injective, length-decimal-le}
use Rattle.std.proofs.lemmas.Str.{digit_value_digit}
use Rattle.std.proofs.lemmas.Str.Parse.{numerals_by_value, tells_digits}
use Rattle.std.proofs.lemmas.Bool.{false≢true}
use Rattle.std.proofs.lemmas.Bool.Decides.{nat_tests}
use Rattle.gs_bytes.specs.Numbers.{SpellsNumber, is_digit, is_decimal, number_from, number_of, decimal_up_to}

-- the digits stand for the number, and the first of a positive one isn't 0
record Stands (n : ℕ) (ds : List ℕ) : Type 0 where
  decimal_is : is_decimal ds ≡ true
  value : number_of ds ≡ n
  first : 0 < n → (d : ℕ) (rest : List ℕ) → ds ≡ d ∷ rest → 48 < d

number_from-push : (n : ℕ) (ds : List ℕ) (c : ℕ) → number_from n (ds ++ c ∷ []) ≡ 10 * number_from n ds + (c - 48)
number_from-push n [] c = refl
number_from-push n (d ∷ ds) c = number_from-push (10 * n + (d - 48)) ds c

one_digit : (n : ℕ) → n < 10 → Stands n ((48 + n) ∷ [])
one_digit n lt = record {
  decimal_is = grind (arith, nat_tests);
  value = omega arith;
  first = λ some d rest e. let byte : 48 + n ≡ d = cc in omega arith;
}

all_push : (ds : List ℕ) (c : ℕ) → list_all is_digit ds ≡ true → is_digit c ≡ true → list_all is_digit (ds ++ c ∷ []) ≡ true
all_push [] c h k = grind (arith, k)
all_push (d ∷ ds) c h k = let rest = all_push ds c (grind (arith, h)) k in grind (arith, h, rest)

pub decimal_digits : (ds : List ℕ) → is_decimal ds ≡ true → list_all is_digit ds ≡ true
decimal_digits [] e = refl
decimal_digits (d ∷ []) e = grind (arith, e)
decimal_digits (d ∷ c ∷ ds) e = grind (arith, e)

decimal_push : (ds : List ℕ) (c : ℕ) → is_decimal ds ≡ true → ((d : ℕ) (rest : List ℕ) → ds ≡ d ∷ rest → 48 < d) → is_digit c ≡ true
    → is_decimal (ds ++ c ∷ []) ≡ true
decimal_push [] c e first k = absurd (false≢true e)
decimal_push (d ∷ []) c e first k =
    let large = first d [] refl in
    let test : ltb 48 d ≡ true = grind (arith, nat_tests) in
    grind (arith, test, e, k)
decimal_push (d ∷ b ∷ ds) c e first k =
    let test : ltb 48 d ≡ true = grind (arith, e) in
    let all : list_all is_digit (d ∷ b ∷ ds ++ c ∷ []) ≡ true = all_push (d ∷ b ∷ ds) c (decimal_digits (d ∷ b ∷ ds) e) k in
    grind (arith, test, all)

one_more : (n : ℕ) (ds : List ℕ) → 10 ≤ n → Stands (n / 10) ds → Stands n (ds ++ (48 + n % 10) ∷ [])
one_more n ds le s =
    let some : 0 < n / 10 = omega arith in
    let below : n % 10 < 10 = omega arith in
    record {
      decimal_is = decimal_push ds (48 + n % 10) s.decimal_is (s.first some) (grind (arith, nat_tests));
      value = number_from-push 0 ds (48 + n % 10) ∙ omega (arith, s.value);
      first = λ h. first_of ds s.decimal_is (s.first some);
    }
  where
    first_of : (ds : List ℕ) → is_decimal ds ≡ true → ((d : ℕ) (rest : List ℕ) → ds ≡ d ∷ rest → 48 < d) → (d : ℕ) (rest : List ℕ)
        → ds ++ (48 + n % 10) ∷ [] ≡ d ∷ rest → 48 < d
    first_of [] e first d rest h = absurd (false≢true e)
    first_of (c ∷ ds) e first d rest h = let byte : c ≡ d = cc in let large = first c ds refl in omega arith

stands : (n : ℕ) → n < 2 ^ 64 → Stands n (decimal n)
stands = decimal_by_steps Stands one_digit one_more

pub decimal_is_decimal : (n : ℕ) → n < 2 ^ 64 → is_decimal (decimal n) ≡ true
decimal_is_decimal n lt = (stands n lt).decimal_is

pub number_of-decimal : (n : ℕ) → n < 2 ^ 64 → number_of (decimal n) ≡ n
number_of-decimal n lt = (stands n lt).value

pub decimal_up_to-decimal : (most n : ℕ) → n ≤ most → n < 2 ^ 64 → decimal_up_to most (decimal n) ≡ Some n
decimal_up_to-decimal most n le lt =
    let a = decimal_is_decimal n lt in
    let v = number_of-decimal n lt in
    let test : leb (number_of (decimal n)) most ≡ true = grind (arith, nat_tests) in
    ap (λ (b : Bool). cond (b && leb (number_of (decimal n)) most) (Some (number_of (decimal n))) None) a
    ∙ ap (λ (b : Bool). cond b (Some (number_of (decimal n))) None) test ∙ ap (λ (k : ℕ). some k) v
  where
    some : ℕ → Option ℕ
    some k = Some k

-- a test that digits pass
pub digits_all : (p : ℕ → Bool) → ((b : ℕ) → is_digit b ≡ true → p b ≡ true) → (ds : List ℕ) → list_all is_digit ds ≡ true → list_all p ds ≡ true
digits_all p h [] e = refl
digits_all p h (d ∷ ds) e =
    let t = digits_all p h ds (grind (arith, e)) in
    let first = h d (grind (arith, e)) in
    grind (arith, t, first)

-- ---- and every decimal number is what std prints of what it stands for

-- digits stand for what std reads of them
value_from : (n : ℕ) (ds : List ℕ) → list_all is_digit ds ≡ true → AllDigits 10 ds × (number_from n ds ≡ digits_value_after 10 n ds)
value_from n [] e = (tt, refl)
value_from n (d ∷ ds) e =
    let first : is_digit d ≡ true = grind (arith, e) in
    let low : 48 ≤ d = grind (arith, nat_tests) in
    let high : d ≤ 57 = grind (arith, nat_tests) in
    let value = digit_value_digit d (low, high) in
    let rest = value_from (10 * n + (d - 48)) ds (grind (arith, e)) in
    let step : 10 * n + (d - 48) ≡ n * 10 + digit_value d = omega arith in
    ((omega arith, rest.0), rest.1 ∙ ap (λ (m : ℕ). digits_value_after 10 m ds) step)

leads : (ds : List ℕ) → is_decimal ds ≡ true → (0 < length ds) × (get_or ds 0 0 ≡ 48 → length ds ≡ 1)
leads [] e = absurd (false≢true e)
leads (d ∷ []) e = (omega arith, λ _. refl)
leads (d ∷ c ∷ ds) e =
    let test : ltb 48 d ≡ true = grind (arith, e) in
    let large : 48 < d = grind (arith, nat_tests) in
    (omega arith, λ zero. absurd (omega arith))

pub decimal_is_printed : (ds : List ℕ) → is_decimal ds ≡ true → number_of ds < 2 ^ 64 → ds ≡ decimal (number_of ds)
decimal_is_printed ds e small =
    let read = value_from 0 ds (decimal_digits ds e) in
    let lead = leads ds e in
    sym (decimal-digits_value (numerals_by_value (AllDigits 10) tells_digits) ds read.0 lead.0 lead.1 (omega (arith, read.1))) ∙ ap decimal (sym read.1)

-- ---- what a reader up to a limit answers

-- the answer is the number that a word spells, if it spells one up to the limit
abbrev pub IsReadUpTo : ℕ → List ℕ → Option ℕ → Type 0
IsReadUpTo most word r = (n : ℕ) → (r ≡ Some n) ↔ SpellsNumber (most + 1) word n

over : (most : ℕ) (word : List ℕ) → most < 2 ^ 32 → ((n : ℕ) → SpellsNumber (most + 1) word n → ⊥) → (a b : Bool) → is_decimal word ≡ a
    → leb (number_of word) most ≡ b
    → cond (a && b) (Some (number_of word)) None ≡ None
over most word small none false b ea eb = refl
over most word small none true false ea eb = refl
over most word small none true true ea eb =
    let le : number_of word ≤ most = grind (arith, nat_tests) in
    absurd (none (number_of word) (omega arith, decimal_is_printed word ea (omega arith)))

-- that is what the definition computes
pub answers_value : (most : ℕ) (word : List ℕ) (r : Option ℕ) → most < 2 ^ 32 → IsReadUpTo most word r → r ≡ decimal_up_to most word
answers_value most word None small h = sym (over most word small (λ n spelled. let e = (h n).1 spelled in absurd cc) (is_decimal word)
    (leb (number_of word) most) refl refl)
answers_value most word (Some n) small h =
    let spelled = (h n).0 refl in
    let le : n ≤ most = omega (arith, spelled.0) in
    sym (ap (decimal_up_to most) spelled.1 ∙ decimal_up_to-decimal most n le (omega arith))

-- a reader of 32 bits and a test against the limit
pub answers_none : (most : ℕ) (word : List ℕ) (o : Option ℕ) → most < 2 ^ 32 → ((n : ℕ) → (o ≡ Some n) ↔ SpellsNumber (2 ^ 32) word n)
    → ((n : ℕ) → o ≡ Some n → most < n) → IsReadUpTo most word None
answers_none most word o small read far n =
    (λ e. absurd cc, λ spelled. let e = (read n).1 (omega (arith, spelled.0), spelled.1) in let lt = far n e in absurd (omega (arith, spelled.0)))

pub answers_some : (most : ℕ) (word : List ℕ) (o : Option ℕ) (k : ℕ) → most < 2 ^ 32 → ((n : ℕ) → (o ≡ Some n) ↔ SpellsNumber (2 ^ 32) word n)
    → o ≡ Some k → k ≤ most → IsReadUpTo most word (Some k)
answers_some most word o k small read is le n =
    let spelled = (read k).0 is in (
      λ e. let same : k ≡ n = cc in (omega (arith, same), spelled.1 ∙ ap decimal same),
      λ other. let e = (read n).1 (omega (arith, other.0), other.1) in sym is ∙ e,
    )

-- nothing is above the limit, or what there is
pub none_is_far : (most : ℕ) (o : Option ℕ) → o ≡ None → (n : ℕ) → o ≡ Some n → most < n
none_is_far most o none n e = absurd cc

pub some_is_far : (most : ℕ) (o : Option ℕ) (k : ℕ) → o ≡ Some k → most < k → (n : ℕ) → o ≡ Some n → most < n
some_is_far most o k is lt n e = let same : k ≡ n = cc in omega arith

-- ---- one spelling, one number

pub decimal_once : (m n : ℕ) → m < 2 ^ 32 → n < 2 ^ 32 → decimal m ≡ decimal n → m ≡ n
decimal_once m n lm ln e = decimal_injective m n (omega arith) (omega arith) e

pub signed_decimal_once : (y z : ℤ) → FitsSigned w64 y → FitsSigned w64 z → signed_decimal y ≡ signed_decimal z → y ≡ z
signed_decimal_once y z fy fz e = signed_decimal_injective y z (omega (arith, fy.sfits)) (omega (arith, fz.sfits)) e

-- a number of 32 bits takes ten digits at most
pub length-decimal_most : (n : ℕ) → n < 2 ^ 32 → length (decimal n) ≤ 10
length-decimal_most n below = length-decimal-le 10 n (omega arith) (omega arith) (omega arith)
