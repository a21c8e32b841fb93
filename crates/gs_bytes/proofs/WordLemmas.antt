-- The first word of a line, and the words behind it; and words that numbers spell, which have no space.
use Rattle.std.proofs.Common.{◌≡◌, ℕ, suc, ◌+◌, ◌^◌, ◌<◌, ◌≤◌, Bool, true, false, cond, ltb, List, [], ◌∷◌, ◌++◌, length, take, drop, All, Some, None, ℤ, pos}
use Rattle.std.proofs.Common.{negsuc, FitsSigned, w16, w64, refl, ap, ◌∙◌, arith}
use Rattle.std.specs.List.{AllByRecursion, position, position_or_len}
use Rattle.std.specs.Fmt.{decimal, signed_decimal}
use Rattle.std.specs.Str.Parse.{AllDigits}
use Rattle.std.proofs.lemmas.Bool.Decides.{nat_tests}
use Rattle.std.proofs.lemmas.Fmt.{decimal_is_IsNumeral}
use Rattle.std.proofs.lemmas.List.Elements.{All-from_recursion}
use Rattle.std.proofs.lemmas.Str.Parse.{digit_from_value}
use Rattle.std.proofs.lemmas.Bool.{ltb-true, ltb-false}
use Rattle.std.proofs.lemmas.List.Splits.{slice_split_at, slice_split_first, slice_split_none, join_with_byte-slice_split}
use Rattle.std.proofs.lemmas.List.Sums.{fails_before_first}
use Rattle.gs_bytes.specs.Words.{is_space, line_of, words_of}

found : (b : Bool) (n i : ℕ) → cond b (Some n) None ≡ Some i → (b ≡ true) × (n ≡ i)
found true n i e = (refl, cc)
found false n i e = absurd cc

not_found : (b : Bool) (n : ℕ) → cond b (Some n) None ≡ None → b ≡ false
not_found true n e = absurd cc
not_found false n e = refl

-- a space parts the first word from the others
pub words_split : (line : List ℕ) (at : ℕ) → position is_space line ≡ Some at → words_of line ≡ take at line ∷ words_of (drop (at + 1) line)
words_split line at e =
    let f = found (ltb (position_or_len is_space line) (length line)) (position_or_len is_space line) at e in
    slice_split_first is_space line 0 (ltb-true _ _ f.0) ∙ ap (λ (i : ℕ). take i line ∷ words_of (drop (i + 1) line)) f.1

-- a line without a space is one word
pub words_single : (line : List ℕ) → position is_space line ≡ None → words_of line ≡ line ∷ []
words_single line e =
    let past : length line ≤ position_or_len is_space line = ltb-false _ _ (not_found _ _ e) in
    slice_split_none is_space line (λ k d lt. fails_before_first is_space line k d (omega arith))

-- ---- words without a space

-- no byte of the word is a space
abbrev pub HasNoSpace : List ℕ → Type 0
HasNoSpace word = AllByRecursion (λ byte. is_space byte ≡ false) word

-- nor of any of the words
abbrev pub HaveNoSpace : List (List ℕ) → Type 0
HaveNoSpace words = AllByRecursion HasNoSpace words

each_is_no_space : (word : List ℕ) → HasNoSpace word → All (λ byte. is_space byte ≡ false) word
each_is_no_space word h = All-from_recursion (λ byte. is_space byte ≡ false) word h

digits-no_space : (word : List ℕ) → AllDigits 10 word → HasNoSpace word
digits-no_space [] h = tt
digits-no_space (byte ∷ word) h =
    let digit = digit_from_value byte h.0 in (grind (arith, nat_tests), digits-no_space word h.1)

pub decimal-no_space : (n : ℕ) → n < 2 ^ 64 → HasNoSpace (decimal n)
decimal-no_space n small = digits-no_space (decimal n) (decimal_is_IsNumeral n small).0.1

pub signed_decimal-no_space : (z : ℤ) → FitsSigned w64 z → HasNoSpace (signed_decimal z)
signed_decimal-no_space (pos n) fits = decimal-no_space n (omega (arith, fits.sfits))
signed_decimal-no_space (negsuc n) fits = (refl, decimal-no_space (suc n) (omega (arith, fits.sfits)))

-- a number of 16 bits is one of 64
pub FitsSigned-wider : (z : ℤ) → FitsSigned w16 z → FitsSigned w64 z
FitsSigned-wider (pos n) fits = record { sfits = omega (arith, fits.sfits) }
FitsSigned-wider (negsuc n) fits = record { sfits = omega (arith, fits.sfits) }

-- the first word of a line and the words of the rest
pub words_of-front : (word rest : List ℕ) → HasNoSpace word → words_of (word ++ 32 ∷ rest) ≡ word ∷ words_of rest
words_of-front word rest h = slice_split_at is_space word 32 rest (each_is_no_space word h) refl

-- the words of a line are those that were joined
pub words_of-line_of : (word : List ℕ) (words : List (List ℕ)) → HasNoSpace word → HaveNoSpace words
    → words_of (line_of (word ∷ words)) ≡ word ∷ words
words_of-line_of word [] h hs = slice_split_none is_space word (each_is_no_space word h)
words_of-line_of word (next ∷ words) h hs =
    words_of-front word (line_of (next ∷ words)) h
    ∙ ap (λ (ws : List (List ℕ)). word ∷ ws) (words_of-line_of next words hs.0 hs.1)

-- a line is its words, joined
pub line_of-words_of : (line : List ℕ) → line_of (words_of line) ≡ line
line_of-words_of line = join_with_byte-slice_split 32 line
