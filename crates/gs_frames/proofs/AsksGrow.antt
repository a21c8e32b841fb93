-- What one more arrival asks for.
use Rattle.std.proofs.Common.{◌≡◌, ◌<◌, ◌≤◌, ◌+◌, ◌-◌, ℕ, zero, suc, Bool, true, false, not, List, [], ◌∷◌, ◌++◌, Option, Some, None, refl, sym, ap, subst, ◌∙◌}
use Rattle.std.proofs.Common.{arith, inl, inr}
use Rattle.std.specs.Prelude.{is_some}
use Rattle.std.specs.List.{cons_option, find, range_with_len}
use Rattle.std.proofs.lemmas.Bool.{cases_Bool, cases_lt, cond-true, cond-false, both_ways, ne_eqb}
use Rattle.std.proofs.lemmas.List.{append-nil}
use Rattle.gs_frames.specs.declared.range.Range.{Range}
use Rattle.gs_frames.specs.Client.{ClientSettings, HasWindow, Arrival}
use Rattle.gs_frames.specs.Image.{Frame}
use Rattle.gs_frames.specs.Received.{Received, greatest, is_left, taken_one, taken}
use Rattle.gs_frames.specs.Complete.{complete}
use Rattle.gs_frames.specs.Asks.{newly_left, lost_to, lost_by, as_list, asks_of, asks, asked_by, newly_asked}
use Rattle.gs_frames.specs.AskLaws.{ArrivalAsksNewRange, IsLost, IsLostRange, ArrivalAsksForLost, ArrivalAsksForNothing}
use Rattle.gs_frames.proofs.Counting.{complete-other, greatest-new, greatest-kept}
use Rattle.gs_frames.proofs.SettledUp.{left-from, left-says, left-not_from, left-not_says}

-- ---- behind what was asked for

pub asks_of-empty : (c : ClientSettings) → asks_of c [] ≡ []
unfolding asks_of
asks_of-empty c = refl

pub asks_of-more : (c : ClientSettings) (r : Received) (rs : List Received) → asks_of c (r ∷ rs) ≡ asks_of c rs ++ as_list (lost_by c r rs)
unfolding asks_of
asks_of-more c r rs = refl

pub asks-is : (c : ClientSettings) (came : List Arrival) → asks c came ≡ asks_of c (taken c came)
unfolding asks
asks-is c came = refl

asked_more : (c : ClientSettings) (rs : List Received) (o : Option Received) → asks_of c (cons_option o rs) ≡ asks_of c rs ++ as_list (asked_by c rs o)
asked_more c rs None = sym (append-nil (asks_of c rs))
asked_more c rs (Some r) = asks_of-more c r rs

pub arrival_asks : ArrivalAsksNewRange
arrival_asks c arrival came =
    asks-is c (arrival ∷ came) ∙ asked_more c (taken c came) (taken_one c arrival)
    ∙ ap (λ (before : List Range). before ++ as_list (newly_asked c arrival came)) (sym (asks-is c came))

-- ---- the first of consecutive numbers that passes a test

-- it passes, and none before it does
record IsFirst (test : ℕ → Bool) (a n k : ℕ) : Type 0 where
  least : a ≤ k
  below : k < a + n
  passes : test k ≡ true
  none_before : (j : ℕ) → a ≤ j → j < k → test j ≡ false

find-first : (test : ℕ → Bool) (a n k : ℕ) → find test (range_with_len a n) ≡ Some k → IsFirst test a n k
find-first test a zero k e = cc
find-first test a (suc n) k e = elim (cases_Bool (test a)) [
  | inl passes ↦
      let same : Some a ≡ Some k = sym (cond-true (test a) (Some a) (find test (range_with_len (a + 1) n)) passes) ∙ e in
      let is : a ≡ k = cc in
      record {
        least = omega arith;
        below = omega arith;
        passes = ap test (sym is) ∙ passes;
        none_before = λ j more less. absurd (omega arith);
      }
  | inr fails ↦
      let rest = find-first test (a + 1) n k (sym (cond-false (test a) (Some a) (find test (range_with_len (a + 1) n)) fails) ∙ e) in
      record {
        least = omega (arith, rest.least);
        below = omega (arith, rest.below);
        passes = rest.passes;
        none_before = λ j more less. elim (cases_lt a j) [
          | inl above ↦ rest.none_before j (omega arith) less
          | inr at_it ↦ let same : a ≡ j = omega arith in ap test (sym same) ∙ fails
        ];
      }
]

find-no_first : (test : ℕ → Bool) (a n : ℕ) → find test (range_with_len a n) ≡ None → (k : ℕ) → a ≤ k → k < a + n → test k ≡ false
find-no_first test a zero e k more less = absurd (omega arith)
find-no_first test a (suc n) e k more less = elim (cases_Bool (test a)) [
  | inl passes ↦ let none : Some a ≡ None = sym (cond-true (test a) (Some a) (find test (range_with_len (a + 1) n)) passes) ∙ e in cc
  | inr fails ↦
      elim (cases_lt a k) [
        | inl above ↦
            find-no_first test (a + 1) n (sym (cond-false (test a) (Some a) (find test (range_with_len (a + 1) n)) fails) ∙ e) k (omega arith) (omega arith)
        | inr at_it ↦ let same : a ≡ k = omega arith in ap test (sym same) ∙ fails
      ]
]

-- ---- frames that are lost

-- the test of the definition
abbrev pub not_held : ClientSettings → List Received → ℕ → Bool
not_held c rs f = not (is_some (complete c rs f))

pub not_held-none : (o : Option Frame) → not (is_some o) ≡ true → o ≡ None
not_held-none None e = refl
not_held-none (Some held) e = cc

none-not_held : (o : Option Frame) → not (is_some o) ≡ false → o ≡ None → ⊥
none-not_held None e none = cc
none-not_held (Some held) e none = cc

-- a frame that r leaves isn't its own
left-other : (c : ClientSettings) (r : Received) (rs : List Received) (f : ℕ) → HasWindow c → f + c.window ≤ r.head.frame
    → complete c (r ∷ rs) f ≡ complete c rs f
left-other c r rs f window left =
    let least : 1 ≤ c.window = window.least in
    complete-other c r rs f (ne_eqb r.head.frame f (λ e. absurd (omega (arith, e))))

-- where a frame is left now and wasn't, a greater one came
newer : (c : ClientSettings) (r : Received) (rs : List Received) (f : ℕ) → is_left c.window rs f ≡ false → is_left c.window (r ∷ rs) f ≡ true
    → greatest rs < r.head.frame
newer c r rs f was now = elim (cases_lt (greatest rs) r.head.frame) [
  | inl new ↦ new
  | inr old ↦ absurd (omega (arith, left-not_says c.window rs f was, left-says c.window (r ∷ rs) f now, greatest-kept r rs old))
]

-- the newly left frames are those of the definition
lost-in : (c : ClientSettings) (r : Received) (rs : List Received) (f : ℕ) → HasWindow c → IsLost c rs (r ∷ rs) f
    → ((greatest rs - c.window) + 1 ≤ f)
    × (f < ((greatest rs - c.window) + 1) + ((r.head.frame - c.window) - (greatest rs - c.window)))
    × (complete c rs f ≡ None)
lost-in c r rs f window lost =
    let least : 1 ≤ f = lost.least in
    let was = left-not_says c.window rs f lost.was_open in
    let new = newer c r rs f lost.was_open lost.is_left_now in
    let now = left-says c.window (r ∷ rs) f lost.is_left_now in
    let far : f + c.window ≤ r.head.frame = omega (arith, greatest-new r rs new) in
    (omega arith, omega arith, sym (left-other c r rs f window far) ∙ lost.not_complete)

in-lost : (c : ClientSettings) (r : Received) (rs : List Received) (f : ℕ) → HasWindow c → (greatest rs - c.window) + 1 ≤ f
    → f < ((greatest rs - c.window) + 1) + ((r.head.frame - c.window) - (greatest rs - c.window)) → complete c rs f ≡ None
    → IsLost c rs (r ∷ rs) f
in-lost c r rs f window more less none =
    let far : f + c.window ≤ r.head.frame = omega arith in
    let was : greatest rs < f + c.window = omega arith in
    record {
      least = omega arith;
      was_open = left-not_from c.window rs f was;
      is_left_now = left-from c.window (r ∷ rs) f (omega (arith, greatest-new r rs (omega arith)));
      not_complete = left-other c r rs f window far ∙ none;
    }

-- ---- the range

lost_by-some : (c : ClientSettings) (r : Received) (rs : List Received) (o : Option ℕ) (range : Range) → HasWindow c
    → find (not_held c rs) (newly_left c.window (greatest rs) r.head.frame) ≡ o → lost_to (r.head.frame - c.window) o ≡ Some range
    → IsLostRange c rs (r ∷ rs) range
lost_by-some c r rs None range window found e = let none : None ≡ Some range = e in cc
lost_by-some c r rs (Some first) range window found e =
    let is : Some (record { first = first; last = r.head.frame - c.window }) ≡ Some range = e in
    let same : record { first = first; last = r.head.frame - c.window } ≡ range = cc in
    let least = (greatest rs - c.window) + 1 in
    let count = (r.head.frame - c.window) - (greatest rs - c.window) in
    let here = find-first (not_held c rs) least count first found in
    let lost = in-lost c r rs first window here.least here.below (not_held-none (complete c rs first) here.passes) in
    let new = newer c r rs first lost.was_open lost.is_left_now in
    let far = left-says c.window (r ∷ rs) first lost.is_left_now in
    let Is : Range → Type 0 = IsLostRange c rs (r ∷ rs) in
    subst Is same (record {
      first_lost = lost;
      none_below = λ f other. elim (cases_lt f first) [
        | inr not_less ↦ not_less
        | inl less ↦
            let within = lost-in c r rs f window other in
            absurd (none-not_held (complete c rs f) (here.none_before f within.0 less) within.2)
      ];
      last_left = omega (arith, greatest-new r rs new);
    })

lost_by-none : (c : ClientSettings) (r : Received) (rs : List Received) (o : Option ℕ) → HasWindow c
    → find (not_held c rs) (newly_left c.window (greatest rs) r.head.frame) ≡ o → lost_to (r.head.frame - c.window) o ≡ None
    → (f : ℕ) → IsLost c rs (r ∷ rs) f → ⊥
lost_by-none c r rs (Some first) window found e f lost =
    let none : lost_to (r.head.frame - c.window) (Some first) ≡ None = e in cc
lost_by-none c r rs None window found e f lost =
    let least = (greatest rs - c.window) + 1 in
    let count = (r.head.frame - c.window) - (greatest rs - c.window) in
    let within = lost-in c r rs f window lost in
    none-not_held (complete c rs f) (find-no_first (not_held c rs) least count found f within.0 within.1) within.2

-- nothing is lost where nothing more is taken
none-lost : (c : ClientSettings) (rs : List Received) (f : ℕ) → IsLost c rs rs f → ⊥
none-lost c rs f lost = both_ways (is_left c.window rs f) lost.was_open lost.is_left_now

asked-some : (c : ClientSettings) (rs : List Received) (o : Option Received) (range : Range) → HasWindow c → asked_by c rs o ≡ Some range
    → IsLostRange c rs (cons_option o rs) range
asked-some c rs None range window e = let none : None ≡ Some range = e in cc
asked-some c rs (Some r) range window e =
    lost_by-some c r rs (find (not_held c rs) (newly_left c.window (greatest rs) r.head.frame)) range window refl e

asked-none : (c : ClientSettings) (rs : List Received) (o : Option Received) → HasWindow c → asked_by c rs o ≡ None
    → (f : ℕ) → IsLost c rs (cons_option o rs) f → ⊥
asked-none c rs None window e f lost = none-lost c rs f lost
asked-none c rs (Some r) window e f lost =
    lost_by-none c r rs (find (not_held c rs) (newly_left c.window (greatest rs) r.head.frame)) window refl e f lost

-- there is one range at most
lost_range-one : (c : ClientSettings) (before now : List Received) (x y : Range) → IsLostRange c before now x → IsLostRange c before now y → x ≡ y
lost_range-one c before now x y is_x is_y =
    let above = is_x.none_below y.first is_y.first_lost in
    let below = is_y.none_below x.first is_x.first_lost in
    let first : x.first ≡ y.first = omega arith in
    let last : x.last ≡ y.last = omega (arith, is_x.last_left, is_y.last_left) in
    ap (λ (n : ℕ). record { first = n; last = x.last }) first ∙ ap (λ (n : ℕ). record { first = y.first; last = n }) last

-- what is asked for is the lost range
range-asked : (c : ClientSettings) (before now : List Received) (o : Option Range) (range : Range)
    → ((x : Range) → o ≡ Some x → IsLostRange c before now x) → (o ≡ None → (f : ℕ) → IsLost c before now f → ⊥)
    → IsLostRange c before now range → o ≡ Some range
range-asked c before now None range some none is = absurd (none refl range.first is.first_lost)
range-asked c before now (Some x) range some none is =
    ap (λ (y : Range). Some y) (lost_range-one c before now x range (some x refl) is)

nothing-asked : (c : ClientSettings) (before now : List Received) (o : Option Range) → ((x : Range) → o ≡ Some x → IsLostRange c before now x)
    → ((f : ℕ) → IsLost c before now f → ⊥) → o ≡ None
nothing-asked c before now None some none = refl
nothing-asked c before now (Some x) some none = let is = some x refl in absurd (none x.first is.first_lost)

pub arrival_asks_for_lost : ArrivalAsksForLost
arrival_asks_for_lost c arrival came range window =
    let rs = taken c came in
    let one = taken_one c arrival in (
      asked-some c rs one range window,
      range-asked c rs (cons_option one rs) (asked_by c rs one) range (λ x. asked-some c rs one x window) (asked-none c rs one window),
    )

pub arrival_asks_for_nothing : ArrivalAsksForNothing
arrival_asks_for_nothing c arrival came window =
    let rs = taken c came in
    let one = taken_one c arrival in (
      asked-none c rs one window,
      nothing-asked c rs (cons_option one rs) (asked_by c rs one) (λ x. asked-some c rs one x window),
    )
