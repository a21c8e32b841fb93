-- The first line of a text, and the lines behind it.
use Rattle.std.proofs.Common.{◌≡◌, ◌≢◌, ◌==◌, inl, inr, ℕ, suc, ◌+◌, ◌-◌, ◌^◌, ◌<◌, ◌≤◌, min, nat_lt, Bool, true, false, ◌||◌, List, [], ◌∷◌, ◌++◌, length}
use Rattle.std.proofs.Common.{take, drop, Option, None, Some, Ok, Err, refl, sym, ap, subst, ◌∙◌, append_assoc, take-append-drop, length-drop, length-take-le}
use Rattle.std.proofs.Common.{arith}
use Rattle.std.specs.Prelude.{IfSome}
use Rattle.std.specs.List.{list_any, onto_first}
use Rattle.std.proofs.lemmas.List.{append-nil, take_all}
use Rattle.std.proofs.lemmas.Bool.{cases_Bool, le-ltb, lt-ltb, ltb-true, ltb-false}
use Rattle.std.proofs.Math.ListN.{drop_of_length-le}
use Rattle.std.specs.Io.KnownBytes.{IsAtEnd, Keeps, prepend_known}
use Rattle.gs_schedule.specs.Lines.{lines_of, newline, most_line, next_line, IsUnbroken, IsFront, LosesLine, holds_line}

lines_of-nil : lines_of [] ≡ []
unfolding lines_of
lines_of-nil = refl

-- a newline ends the first line
lines_of-first : (line rest : List ℕ) → IsUnbroken line → lines_of (line ++ newline ∷ rest) ≡ line ∷ lines_of rest
unfolding lines_of
lines_of-first [] rest h = refl
lines_of-first (b ∷ line) rest h =
    let apart : (b == newline) ≡ false = grind (arith, h.0) in
    rw apart (ap (onto_first b) (lines_of-first line rest h.1))

-- what has no newline is one line
lines_of-last : (b : ℕ) (line : List ℕ) → IsUnbroken (b ∷ line) → lines_of (b ∷ line) ≡ (b ∷ line) ∷ []
unfolding lines_of
lines_of-last b [] h = let apart : (b == newline) ≡ false = grind (arith, h.0) in rw apart refl
lines_of-last b (x ∷ line) h =
    let apart : (b == newline) ≡ false = grind (arith, h.0) in
    rw apart (ap (onto_first b) (lines_of-last x line h.1))

-- a text has a first line that is at least so long
HasFirst : List ℕ → ℕ → Type 0
HasFirst bytes least = (line : List ℕ) × (rest : List (List ℕ)) × (lines_of bytes ≡ line ∷ rest) × (least ≤ length line)

onto : (b : ℕ) (bytes : List ℕ) (least : ℕ) → HasFirst bytes least → (b ≢ newline) → HasFirst (b ∷ bytes) (suc least)
unfolding HasFirst lines_of
onto b bytes least h other =
    let apart : (b == newline) ≡ false = grind (arith, other) in
    (b ∷ h.0, h.1, rw (apart, h.2) refl, omega (arith, h.3))

alone : (b : ℕ) (bytes : List ℕ) → (b ≢ newline) → HasFirst (b ∷ bytes) 1
unfolding HasFirst lines_of
alone b bytes other =
    let apart : (b == newline) ≡ false = grind (arith, other) in
    rw apart (starts (lines_of bytes))
  where
    starts : (ls : List (List ℕ)) → (line : List ℕ) × (rest : List (List ℕ)) × (onto_first b ls ≡ line ∷ rest) × (1 ≤ length line)
    starts [] = (b ∷ [], [], refl, omega arith)
    starts (line ∷ rest) = (b ∷ line, rest, refl, omega arith)

lines_of-open : (b : ℕ) (line more : List ℕ) → IsUnbroken (b ∷ line) → HasFirst ((b ∷ line) ++ more) (length (b ∷ line))
lines_of-open b [] more h = alone b more h.0
lines_of-open b (x ∷ line) more h = onto b ((x ∷ line) ++ more) (length (x ∷ line)) (lines_of-open x line more h.1) h.0

-- the first so many bytes that are held, and what follows them
record IsFirstLine (held more : List ℕ) (count : ℕ) : Type 0 where
  line : List ℕ
  rest : List (List ℕ)
  first : lines_of (held ++ more) ≡ line ∷ rest
  short : count ≤ most_line → (line ≡ take count held) × (rest ≡ lines_of (drop (min (length held) (count + 1)) held ++ more))
  long : most_line < count → most_line < length line

open_line : (held more : List ℕ) → 0 < length held → IsUnbroken held → HasFirst (held ++ more) (length held)
open_line [] more some h = absurd (omega arith)
open_line (b ∷ line) more some h = lines_of-open b line more h

last_line : (held : List ℕ) → 0 < length held → IsUnbroken held → lines_of held ≡ held ∷ []
last_line [] some h = absurd (omega arith)
last_line (b ∷ line) some h = lines_of-last b line h

broken_line : (held more : List ℕ) (count : ℕ) → count ≤ length held → IsUnbroken (take count held) → drop count held ≡ newline ∷ drop (count + 1) held
    → IsFirstLine held more count
broken_line held more count within unbroken broken =
    let behind : count + 1 ≤ length held = omega (arith, length-drop count held, ap length broken) in
    let used : min (length held) (count + 1) ≡ count + 1 = omega arith in
    let shape : held ≡ take count held ++ newline ∷ drop (count + 1) held = sym (take-append-drop count held) ∙ ap (λ ys. take count held ++ ys) broken in
    let all : held ++ more ≡ take count held ++ newline ∷ (drop (count + 1) held ++ more) =
    ap (λ ys. ys ++ more) shape ∙ append_assoc (take count held) _ more in
    record {
      line = take count held;
      rest = lines_of (drop (count + 1) held ++ more);
      first = ap lines_of all ∙ lines_of-first _ _ unbroken;
      short = λ few. (refl, ap (λ (n : ℕ). lines_of (drop n held ++ more)) (sym used));
      long = λ many. omega (arith, length-take-le count held within);
    }

long_line : (held more : List ℕ) (count : ℕ) → 0 < length held → IsUnbroken held → count ≡ length held → most_line < count → IsFirstLine held more count
unfolding HasFirst
long_line held more count some unbroken all many =
    let h = open_line held more some unbroken in
    record {
      line = h.0;
      rest = h.1;
      first = h.2;
      short = λ few. absurd (omega arith);
      long = λ _. omega (arith, h.3);
    }

final_line : (held more : List ℕ) (count : ℕ) → 0 < length held → IsUnbroken held → count ≡ length held → more ≡ [] → IsFirstLine held more count
final_line held more count some unbroken all none =
    let used : min (length held) (count + 1) ≡ length held = omega arith in
    let gone : drop (min (length held) (count + 1)) held ++ more ≡ [] =
    ap (λ (n : ℕ). drop n held ++ more) used ∙ ap (λ ys. ys ++ more) (drop_of_length-le held (omega arith)) ∙ none in
    record {
      line = held;
      rest = [];
      first = ap (λ ys. lines_of (held ++ ys)) none ∙ ap lines_of (append-nil held) ∙ last_line held some unbroken;
      short = λ few. (sym (ap (λ (n : ℕ). take n held) all ∙ take_all _ held (omega arith)), sym (ap lines_of gone ∙ lines_of-nil));
      long = λ many. omega arith;
    }

first_line : (held more : List ℕ) (count : ℕ) → IsFront held (Some more) count → IsFirstLine held more count
first_line held more count front =
    elim front.ends [
      | inl broken ↦ broken_line held more count front.within front.unbroken broken
      | inr whole ↦
          let unbroken : IsUnbroken held = subst IsUnbroken (ap (λ (n : ℕ). take n held) whole.1 ∙ take_all _ held (omega arith)) front.unbroken in
          let some : 0 < length held = omega (arith, whole.0, whole.1) in
          elim whole.2 [
            | inl many ↦ long_line held more count some unbroken whole.1 many
            | inr none ↦ final_line held more count some unbroken whole.1 none
          ]
    ]

-- what is said of bytes to come that are told
pub told : (old held held' : List ℕ) (left left' : Option (List ℕ)) (P : List ℕ → Type 0) → held ≡ old
    → Keeps (prepend_known held left) (prepend_known held' left')
    → ((more : List ℕ) → left' ≡ Some more → P (held' ++ more)) → IfSome (prepend_known old left) P
told old held held' None left' P is keeps h = tt
told old held held' (Some xs) None P is keeps h = absurd keeps
told old held held' (Some xs) (Some more) P is keeps h = subst P (keeps ∙ ap (λ ys. ys ++ xs) is) (h more refl)

-- nothing is to come
pub none_to_come : (given : ℕ) (held more : List ℕ) → length held ≡ 0 → IsAtEnd (Some more) → next_line given (lines_of (held ++ more)) ≡ Ok None
none_to_come given [] more none end = ap (λ ys. next_line given (lines_of ys)) end ∙ ap (next_line given) lines_of-nil
none_to_come given (b ∷ held) more none end = absurd (omega arith)

first_fails : (a b : Bool) → (a || b) ≡ false → a ≡ false
first_fails true b e = e
first_fails false b e = refl

-- what is held of the first line tells whether the line is too long
same_test : (held more : List ℕ) (count : ℕ) (f : IsFirstLine held more count) → count ≤ length held → nat_lt most_line (length f.line) ≡ nat_lt most_line count
same_test held more count f within =
    elim (cases_Bool (nat_lt most_line count)) [
      | inl many ↦ lt-ltb most_line (length f.line) (f.long (ltb-true _ _ many)) ∙ sym many
      | inr few ↦ ap (nat_lt most_line) (ap length (f.short (ltb-false _ _ few)).0 ∙ length-take-le count held within)
    ]

-- the first line is refused where what is held of it is
pub refused_line : (given count : ℕ) (held more : List ℕ) → IsFront held (Some more) count → (nat_lt most_line count || given + 1 == 2 ^ 32 - 1) ≡ true
    → next_line given (lines_of (held ++ more)) ≡ Err (given + 1)
refused_line given count held more front refused =
    let f = first_line held more count front in
    let test : (nat_lt most_line (length f.line) || given + 1 == 2 ^ 32 - 1) ≡ true =
    ap (λ (b : Bool). b || given + 1 == 2 ^ 32 - 1) (same_test held more count f front.within) ∙ refused in
    ap (next_line given) f.first ∙ rw test refl

-- and else given
pub given_line : (given count : ℕ) (held more : List ℕ) → IsFront held (Some more) count → (nat_lt most_line count || given + 1 == 2 ^ 32 - 1) ≡ false
    → next_line given (lines_of (held ++ more)) ≡ Ok (Some (record { number = given + 1; bytes = take count held }))
given_line given count held more front fine =
    let f = first_line held more count front in
    let test : (nat_lt most_line (length f.line) || given + 1 == 2 ^ 32 - 1) ≡ false =
    ap (λ (b : Bool). b || given + 1 == 2 ^ 32 - 1) (same_test held more count f front.within) ∙ fine in
    let few : count ≤ most_line = ltb-false _ _ (first_fails _ _ fine) in
    ap (next_line given) f.first ∙ rw (test, (f.short few).0) refl

-- the lines behind the first are still to come
pub others : (old held held' used line : List ℕ) (left left' : Option (List ℕ)) (count : ℕ) (last : Bool) → held ≡ old
    → Keeps (prepend_known held left) (prepend_known held' left') → IsFront held' left' count → (nat_lt most_line count || last) ≡ false
    → used ≡ drop (min (length held') (count + 1)) held' → line ≡ take count held' → LosesLine (prepend_known old left) (prepend_known used left') line
others old held held' used line None left' count last same keeps front fine is taken = tt
others old held held' used line (Some xs) None count last same keeps front fine is taken = absurd keeps
others old held held' used line (Some xs) (Some more) count last same keeps front fine is taken =
    let f = first_line held' more count front in
    let short = f.short (ltb-false _ _ (first_fails _ _ fine)) in
    ap lines_of (sym (keeps ∙ ap (λ ys. ys ++ xs) same)) ∙ f.first ∙ ap (λ l. l ∷ f.rest) (short.0 ∙ sym taken)
    ∙ ap (λ ls. line ∷ ls) (short.1 ∙ ap (λ ys. lines_of (ys ++ more)) (sym is))

no_newline : (bytes : List ℕ) → IsUnbroken bytes → list_any (λ byte. byte == newline) bytes ≡ false
no_newline [] h = refl
no_newline (b ∷ bytes) h = let apart : (b == newline) ≡ false = grind (arith, h.0) in rw apart (no_newline bytes h.1)

-- few bytes without a newline hold no line
pub no_line_held : (held : List ℕ) → IsUnbroken held → length held ≤ most_line → holds_line held ≡ true → ⊥
no_line_held held unbroken few holds =
    let short : nat_lt most_line (length held) ≡ false = le-ltb most_line (length held) few in
    let none : holds_line held ≡ false = rw short (no_newline held unbroken) in
    absurd cc
