-- The least place that no cut parts from another, and what stands between the two.
use Rattle.std.proofs.Common.{ℕ, ◌≡◌, ◌+◌, ◌-◌, ◌<◌, ◌≤◌, ◌↔◌, Bool, true, false, List, length, get_or, take, drop, Result, Ok, Err, eqb, refl, sym, ◌∙◌, subst}
use Rattle.std.proofs.Common.{arith, inl, inr}
use Rattle.std.specs.Prelude.{nat_le, nat_lt, MatchResult}
use Rattle.std.specs.Bool.{Decides}
use Rattle.std.specs.Ordering.{nat_cmp}
use Rattle.std.specs.Result.{is_ok}
use Rattle.std.specs.List.{IsAnyAnswer, IsAllAdjacentAnswer}
use Rattle.std.specs.List.Sorted.{IsNonDecreasing, IsStrictlyIncreasing, IsPartitionPoint, IsBinarySearchResult}
use Rattle.std.proofs.lemmas.Bool.{cases_lt, le-leb, leb-true, ltb-true, false≢true}
use Rattle.std.proofs.lemmas.Bool.Decides.{Decides-eqb}
use Rattle.std.proofs.lemmas.List.{get_or_default, get_or-take, get_or-drop, length-take-le, length-drop}
use Rattle.std.proofs.lemmas.List.Elements.{contains_decides}
use Rattle.std.proofs.lemmas.List.Kept.{AllPairs-from_increasing}
use Rattle.std.proofs.lemmas.List.Sorted.{searched}
use Rattle.gs_pair.specs.References.{AreTogether, StandsBefore}

-- ---- cuts

-- of the cuts at or below a place, which stand in front
abbrev pub Point : List ℕ → ℕ → ℕ → Type 0
Point cuts place n = IsPartitionPoint (λ y. nat_le y place ≡ true) (λ y. nat_le y place ≡ false) cuts n

-- a cut at or below the place is one of them
is_in_front : (cuts : List ℕ) (place n k d : ℕ) → Point cuts place n → k < length cuts → get_or cuts k d ≤ place → k < n
is_in_front cuts place n k d point within below = elim (cases_lt k n) [
  | inl front ↦ front
  | inr behind ↦ absurd (false≢true (sym (point.1 k d behind within) ∙ le-leb (get_or cuts k d) place below))
]

-- the place is the least that no cut parts from the other
pub record IsLeast (cuts : List ℕ) (place from : ℕ) : Type 0 where
  pub within : from ≤ place
  pub least : (at : ℕ) → from ≤ at ↔ AreTogether cuts at place

pub last_is_least : (cuts : List ℕ) (place n last : ℕ) → IsNonDecreasing cuts → Point cuts place n → n ≡ last + 1 → n ≤ length cuts
    → IsLeast cuts place (get_or cuts last 0)
last_is_least cuts place n last rise point count most =
    let here : get_or cuts last 0 ≤ place = leb-true (get_or cuts last 0) place (point.0 last 0 (omega arith) (omega arith)) in
    record {
      within = here;
      least = λ at. (
        λ from k d within below.
            let front = is_in_front cuts place n k d point within below in
            let same : get_or cuts last d ≡ get_or cuts last 0 = get_or_default cuts last d 0 (omega arith) in
            let up = rise k last d (omega arith) (omega arith) in
            omega arith,
        λ together. together last 0 (omega arith) here,
      );
    }

pub none_is_least : (cuts : List ℕ) (place n : ℕ) → Point cuts place n → n ≡ 0 → IsLeast cuts place 0
none_is_least cuts place n point none = record {
  within = omega arith;
  least = λ at. (λ from k d within below. let front = is_in_front cuts place n k d point within below in absurd (omega arith), λ together. omega arith);
}

-- ---- frames that rise

pub rise_is : (xs : List ℕ) (r : Bool) → IsAllAdjacentAnswer (λ x y b. b ≡ nat_lt x y) xs r → r ≡ true → IsStrictlyIncreasing xs
rise_is xs true are e k within = ltb-true (get_or xs k 0) (get_or xs (k + 1) 0) (sym (are k 0 within))
rise_is xs false are e k within = absurd (false≢true e)

pub rises_far : (xs : List ℕ) (i j : ℕ) → IsStrictlyIncreasing xs → i ≤ j → j < length xs → get_or xs i 0 ≤ get_or xs j 0
rises_far xs i j rise up within = elim (cases_lt i j) [
  | inl less ↦ let below = AllPairs-from_increasing xs rise i j 0 less within in omega arith
  | inr at ↦
      let same : i ≡ j = omega arith in
      let Below : ℕ → Type 0 = λ k. get_or xs i 0 ≤ get_or xs k 0 in
      subst Below same (omega arith)
]

-- a frame stands at one place of them alone
pub stands_once : (xs : List ℕ) (i j : ℕ) → IsStrictlyIncreasing xs → i < length xs → j < length xs → get_or xs i 0 ≡ get_or xs j 0 → i ≡ j
stands_once xs i j rise within within' same = elim (cases_lt i j) [
  | inl less ↦ let below = AllPairs-from_increasing xs rise i j 0 less within' in absurd (omega arith)
  | inr up ↦ elim (cases_lt j i) [
    | inl less ↦ let below = AllPairs-from_increasing xs rise j i 0 less within in absurd (omega arith)
    | inr down ↦ omega arith
  ]
]

-- ---- the frames from one place up to another

abbrev pub part : List ℕ → ℕ → ℕ → List ℕ
part xs from to = take (to - from) (drop from xs)

part-at : (xs : List ℕ) (from to k d : ℕ) → k < to - from → get_or (part xs from to) k d ≡ get_or xs (from + k) d
part-at xs from to k d within = get_or-take (to - from) (drop from xs) k d within ∙ get_or-drop from xs k d

part-length : (xs : List ℕ) (from to : ℕ) → from ≤ to → to ≤ length xs → length (part xs from to) ≡ to - from
part-length xs from to up within = length-take-le (to - from) (drop from xs) (omega (arith, length-drop from xs))

-- the frame is among those from the least place on that no cut parts from this one
abbrev IsAmong : List ℕ → ℕ → ℕ → ℕ → Type 0
IsAmong handed from place frame = (k : ℕ) × (k < length (part handed from place)) × (get_or (part handed from place) k 0 ≡ frame)

among_is_before : (handed cuts : List ℕ) (from place frame : ℕ) → IsLeast cuts place from → place < length handed → IsAmong handed from place frame
    → StandsBefore handed cuts place frame
among_is_before handed cuts from place frame is within among =
    let k = among.0 in
    let count = part-length handed from place is.within (omega arith) in
    let up_to : k < place - from = omega (arith, among.1, count) in
    record {
      at = from + k;
      earlier = omega arith;
      there = sym (part-at handed from place k 0 up_to) ∙ among.2;
      together = (is.least (from + k)).0 (omega arith);
    }

before_is_among : (handed cuts : List ℕ) (from place frame : ℕ) → IsLeast cuts place from → place < length handed → StandsBefore handed cuts place frame
    → IsAmong handed from place frame
before_is_among handed cuts from place frame is within stands =
    let from_there : from ≤ stands.at = (is.least stands.at).1 stands.together in
    let earlier : stands.at < place = stands.earlier in
    let count = part-length handed from place is.within (omega arith) in
    let up_to : stands.at - from < place - from = omega arith in
    let it : from + (stands.at - from) ≡ stands.at = omega arith in
    let There : ℕ → Type 0 = λ at. get_or handed at 0 ≡ frame in
    (stands.at - from, omega (arith, count), part-at handed from place (stands.at - from) 0 up_to ∙ subst There (sym it) stands.there)

-- a look through them
pub look_decides : (handed cuts : List ℕ) (from place frame : ℕ) (r : Bool) → IsLeast cuts place from → place < length handed
    → IsAnyAnswer (λ y b. eqb y frame ≡ b) (part handed from place) r → Decides r (StandsBefore handed cuts place frame)
look_decides handed cuts from place frame r is within any =
    let decides = contains_decides eqb (λ a b. Decides-eqb a b) (part handed from place) frame r any in (
      λ e. let found = decides.0 e in among_is_before handed cuts from place frame is within (found.0, found.1, found.2 0),
      λ stands. let found = before_is_among handed cuts from place frame is within stands in
          decides.1 (found.0, found.1, λ d. get_or_default (part handed from place) found.0 d 0 found.1 ∙ found.2),
    )

-- a binary search among them
pub search_decides : (handed cuts : List ℕ) (from place frame : ℕ) (r : Result ℕ ℕ) → IsLeast cuts place from → place < length handed
    → IsStrictlyIncreasing handed → IsBinarySearchResult (λ y. nat_cmp y frame) (part handed from place) r
    → Decides (is_ok r) (StandsBefore handed cuts place frame)
search_decides handed cuts from place frame r is within rise result = by r (searched (part handed from place) frame r result up)
  where
    count : length (part handed from place) ≡ place - from
    count = part-length handed from place is.within (omega arith)

    up : (i j : ℕ) → i ≤ j → j < length (part handed from place) → get_or (part handed from place) i 0 ≤ get_or (part handed from place) j 0
    up i j below less =
        let a = part-at handed from place i 0 (omega (arith, count)) in
        let b = part-at handed from place j 0 (omega (arith, count)) in
        let far = rises_far handed (from + i) (from + j) rise (omega arith) (omega (arith, count)) in
        omega arith

    by : (r' : Result ℕ ℕ) → MatchResult r' (λ i. (i < length (part handed from place)) × (get_or (part handed from place) i 0 ≡ frame))
        (λ i. (i ≤ length (part handed from place)) × ((k : ℕ) → k < i → get_or (part handed from place) k 0 < frame)
        × ((k : ℕ) → i ≤ k → k < length (part handed from place) → frame < get_or (part handed from place) k 0))
        → Decides (is_ok r') (StandsBefore handed cuts place frame)
    by (Ok i) found = (λ e. among_is_before handed cuts from place frame is within (i, found.0, found.1), λ stands. refl)
    by (Err i) none = (
      λ e. absurd (false≢true e),
      λ stands. let found = before_is_among handed cuts from place frame is within stands in elim (cases_lt found.0 i) [
        | inl below ↦ let less = none.1 found.0 below in absurd (omega (arith, found.2))
        | inr above ↦ let more = none.2 found.0 above found.1 in absurd (omega (arith, found.2))
      ],
    )
