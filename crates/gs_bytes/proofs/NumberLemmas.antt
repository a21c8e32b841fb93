-- What a word that begins plainly is parsed to, and that no other word spells a number.
use Rattle.std.proofs.Common.{◌≡◌, ◌≢◌, ◌↔◌, ℕ, zero, suc, ◌^◌, ◌<◌, ◌≤◌, true, false, List, ◌∷◌, length, get_or, Option, Some, None, Result, Ok, Err, ℤ, pos}
use Rattle.std.proofs.Common.{negsuc, refl, sym, ap, subst, ◌∙◌, arith}
use Rattle.std.specs.Result.{result_ok, MatchResult}
use Rattle.std.specs.Fmt.{decimal}
use Rattle.std.specs.Str.{IsUtf8}
use Rattle.std.specs.Str.Parse.{AllDigits, digits_value, ParsesUnsigned}
use Rattle.std.proofs.lemmas.Bool.Decides.{nat_tests}
use Rattle.std.proofs.lemmas.Fmt.{decimal_digit, decimal_nonempty, first_decimal, digits_decimal, digits_value-decimal, decimal-digits_value, IsAscii-decimal}
use Rattle.std.proofs.lemmas.Str.{IsUtf8-from_ascii}
use Rattle.std.proofs.lemmas.Str.Parse.{IsNumeralModel, numerals_by_value, tells_digits, digit_at, parse_plain}
use Rattle.gs_bytes.specs.NumberForms.{IsBelowZero, begins_plainly}
use Rattle.gs_bytes.specs.Numbers.{SpellsNumber, SpellsSigned}

numerals : IsNumeralModel (AllDigits 10) (digits_value 10)
numerals = numerals_by_value (AllDigits 10) tells_digits

-- a number is spelled plainly
pub decimal_begins_plainly : (n : ℕ) → n < 2 ^ 64 → begins_plainly (decimal n) ≡ true
decimal_begins_plainly zero small = rw (decimal_digit zero (omega arith)) refl
decimal_begins_plainly (suc n) small =
    let some = decimal_nonempty (suc n) small in
    let low = first_decimal (suc n) (omega arith) small in
    let digit = digit_at (decimal (suc n)) 0 (digits_decimal numerals (suc n) small) some in
    grind (arith, nat_tests)

-- the parts of a plain beginning
pub record Plain (word : List ℕ) : Type 0 where
  pub low : 48 ≤ get_or word 0 0
  pub high : get_or word 0 0 ≤ 57
  pub single : get_or word 0 0 ≡ 48 → length word ≡ 1

plain : (word : List ℕ) → begins_plainly word ≡ true → Plain word
plain word h = record { low = grind (arith, nat_tests); high = grind (arith, nat_tests); single = grind (arith, nat_tests) }

-- what a word that begins plainly is parsed to is the number that it spells
pub parsed_is_spelled : {E : Type 0} (word : List ℕ) (r : Result ℕ E) → begins_plainly word ≡ true → ParsesUnsigned 32 10 word r → (n : ℕ)
    → (result_ok r ≡ Some n) ↔ SpellsNumber (2 ^ 32) word n
parsed_is_spelled {E} word (Ok x) h parsed n =
    let p = plain word h in
    let first : get_or word 0 0 ≢ 43 = λ e. absurd (omega (arith, p.low)) in
    let ok = parse_plain numerals {E = E} 32 word (Ok x) parsed first in
    let written : decimal (digits_value 10 word) ≡ word = decimal-digits_value numerals word ok.0.0 ok.0.1 p.single (omega (arith, ok.0.2)) in (
      λ e. let same : x ≡ n = cc in (omega (arith, ok.0.2, ok.1), sym written ∙ ap decimal (sym ok.1 ∙ same)),
      λ spelled. let v : digits_value 10 word ≡ n = ap (digits_value 10) spelled.1
          ∙ digits_value-decimal numerals n (omega (arith, spelled.0)) in ap (λ (y : ℕ). Some y) (ok.1 ∙ v),
    )
parsed_is_spelled {E} word (Err e) h parsed n =
    let p = plain word h in
    let first : get_or word 0 0 ≢ 43 = λ e. absurd (omega (arith, p.low)) in
    let no = parse_plain numerals {E = E} 32 word (Err e) parsed first in (
      λ e. absurd cc,
      λ spelled.
          let small : n < 2 ^ 64 = omega (arith, spelled.0) in
          let v : digits_value 10 word ≡ n = ap (digits_value 10) spelled.1 ∙ digits_value-decimal numerals n small in
          let digits : AllDigits 10 word = subst (AllDigits 10) (sym spelled.1) (digits_decimal numerals n small) in
          let some : 0 < length word = rw (spelled.1) (decimal_nonempty n small) in
          absurd (no (digits, some, omega (arith, v, spelled.0))),
    )

-- a word that doesn't begin so spells no number
pub not_plain_spells_none : (word : List ℕ) → begins_plainly word ≡ false → (n : ℕ) → SpellsNumber (2 ^ 32) word n → ⊥
not_plain_spells_none word h n spelled =
    let yes : begins_plainly word ≡ true = ap begins_plainly spelled.1 ∙ decimal_begins_plainly n (omega (arith, spelled.0)) in
    absurd cc

-- nor does one that is no text
pub not_text_spells_none : (word : List ℕ) → (IsUtf8 word → ⊥) → (n : ℕ) → SpellsNumber (2 ^ 32) word n → ⊥
not_text_spells_none word h n spelled =
    h (subst IsUtf8 (sym spelled.1) (IsUtf8-from_ascii (decimal n) (IsAscii-decimal n (omega (arith, spelled.0)))))

-- what `ok` of a result keeps, and what it drops
pub kept : {X E : Type 0} (P : X → Type 0) (Q : E → Type 0) (r : Result X E) (o : Option X) (x : X) → o ≡ result_ok r → o ≡ Some x → MatchResult r P Q → P x
kept P Q (Ok y) o x made is given = let same : y ≡ x = cc in subst P same given
kept P Q (Err e) o x made is given = absurd cc

pub dropped : {X E : Type 0} (P : X → Type 0) (Q : E → Type 0) (r : Result X E) (o : Option X) → o ≡ result_ok r → o ≡ None → MatchResult r P Q → (e : E) × Q e
dropped P Q (Ok y) o made is given = absurd cc
dropped P Q (Err e) o made is given = (e, given)

-- no number where none is spelled
pub none_is_spelled : (word : List ℕ) (o : Option ℕ) → o ≡ None → ((n : ℕ) → SpellsNumber (2 ^ 32) word n → ⊥) → (n : ℕ)
    → (o ≡ Some n) ↔ SpellsNumber (2 ^ 32) word n
none_is_spelled word o is none n = (λ e. absurd cc, λ spelled. absurd (none n spelled))

-- the first byte of a number is no '-'
first_of_decimal : (n : ℕ) → n < 2 ^ 64 → 48 ≤ get_or (decimal n) 0 0
first_of_decimal n small = (plain (decimal n) (decimal_begins_plainly n small)).low

-- a word that begins with '-' spells what is below 0 by the number that the rest spells
pub minus_spells : (word digits : List ℕ) (z : ℤ) → word ≡ 45 ∷ digits → SpellsSigned word z
    → (below : ℕ) × (z ≡ negsuc below) × SpellsNumber (2 ^ 32) digits (suc below) × (below < 2 ^ 15)
minus_spells word digits (pos n) e spelled =
    let small : n < 2 ^ 15 = omega (arith, spelled.0.sfits) in
    let first = first_of_decimal n (omega arith) in
    let same : get_or (decimal n) 0 0 ≡ 45 = ap (λ (bs : List ℕ). get_or bs 0 0) (sym spelled.1 ∙ e) in
    absurd (omega arith)
minus_spells word digits (negsuc k) e spelled =
    let small : k < 2 ^ 15 = omega (arith, spelled.0.sfits) in
    let rest : digits ≡ decimal (suc k) = cc in
    (k, refl, (omega arith, rest), small)

-- where the rest spells no number, nothing is spelled
pub minus_spells_none : (word digits : List ℕ) (size : Option ℕ) (r : Option ℤ) → word ≡ 45 ∷ digits → size ≡ None → r ≡ None
    → ((n : ℕ) → (size ≡ Some n) ↔ SpellsNumber (2 ^ 32) digits n) → (z : ℤ) → (r ≡ Some z) ↔ SpellsSigned word z
minus_spells_none word digits size r e none is read z =
    (λ some. absurd cc, λ spelled. let m = minus_spells word digits z e spelled in let some = (read (suc m.0)).1 m.2 in absurd cc)

-- where it spells one, the number of that size below 0 is spelled
pub minus_spells_one : (word digits : List ℕ) (size : ℕ) (o : Option ℕ) (r : Option ℤ) → word ≡ 45 ∷ digits → o ≡ Some size
    → ((n : ℕ) → (o ≡ Some n) ↔ SpellsNumber (2 ^ 32) digits n) → ((z : ℤ) → (r ≡ Some z) ↔ IsBelowZero size z) → (z : ℤ) → (r ≡ Some z) ↔ SpellsSigned word z
minus_spells_one word digits size o r e some read negative (pos n) =
    (λ is. absurd ((negative (pos n)).0 is), λ spelled. let m = minus_spells word digits (pos n) e spelled in absurd cc)
minus_spells_one word digits size o r e some read negative (negsuc k) =
    let digits_are = (read size).0 some in (
      λ is. let below = (negative (negsuc k)).0 is in
          (record { sfits = below.1 }, e ∙ ap (λ (ds : List ℕ). 45 ∷ ds) (digits_are.1 ∙ ap decimal below.0)),
      λ spelled. let m = minus_spells word digits (negsuc k) e spelled in
          let same : k ≡ m.0 = cc in
          let size_is : size ≡ suc m.0 = (let one = (read (suc m.0)).1 m.2 in cc) in
          (negative (negsuc k)).1 (size_is ∙ ap suc (sym same), omega (arith, m.3, same)),
    )
