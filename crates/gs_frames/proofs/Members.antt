-- What holds of each that passes a test, and that a block's shards that count are distinct.
use Rattle.std.proofs.Common.{◌≡◌, ◌≢◌, ℕ, Bool, true, false, List, [], ◌∷◌, get_or, Option, Some, None, sym, subst, arith, inl, inr}
use Rattle.std.specs.Prelude.{◌==◌}
use Rattle.std.specs.List.{All, AllPairs, Contains, filter, list_any}
use Rattle.std.proofs.lemmas.Bool.{cases_Bool, cond-true, cond-false, and_from, eq-eqb, not-true, both_ways, false_from_ne_true}
use Rattle.std.proofs.lemmas.List.Elements.{All-weaker, All-contains, All-filter, filter_passes}
use Rattle.std.proofs.lemmas.List.Folds.{list_any_at}
use Rattle.std.proofs.lemmas.List.Kept.{AllPairs-cons}
use Rattle.std.proofs.lemmas.Option.{same_Some}
use Rattle.gs_frames.specs.Received.{Received, oldest, is_of_block}
use Rattle.gs_frames.specs.Verdict.{counting}
use Rattle.gs_frames.specs.CompleteLaws.{ComesFrom}
use Rattle.gs_frames.proofs.Judged.{is_shard, counts, counting-empty}
use Rattle.gs_frames.proofs.Counting.{of_block-frame, counting-not, counting-one}
use Rattle.gs_frames.proofs.Fills.{oldest-each}
use Rattle.gs_frames.proofs.CompleteStays.{counts-parts}

-- ---- what holds of each that passes a test

-- what holds of each that passes the test holds of what the test keeps
pub kept-each : {X : Type 0} (test : X → Bool) (Q : X → Type 0) (xs : List X) → All (λ x. test x ≡ true → Q x) xs → All Q (filter test xs)
kept-each test Q xs all = λ k d h. All-filter test (λ x. test x ≡ true → Q x) xs all k d h (filter_passes test xs k d h)

-- and of the first that came
pub first-each : (test : Received → Bool) (Q : Received → Type 0) (rs : List Received) (first : Received) → All (λ r. test r ≡ true → Q r) rs
    → oldest test rs ≡ Some first → Q first
first-each test Q rs first all =
    let IsFirst : Option Received → Type 0 = λ o. o ≡ Some first → Q first in
    oldest-each IsFirst test rs (λ e. let none : None ≡ Some first = e in cc)
    (All-weaker (λ r. test r ≡ true → Q r) (λ r. test r ≡ true → IsFirst (Some r)) (λ r is passes e. subst Q (same_Some r first e) (is passes)) rs all)

-- what holds of what a frame was sent as holds of what came of it
pub comes-each : (P : Received → Type 0) (sent : List Received) (frame : ℕ) (rs : List Received) → All P sent → ComesFrom sent frame rs
    → All (λ r. r.head.frame ≡ frame → P r) rs
comes-each P sent frame rs all comes =
    All-weaker (λ r. r.head.frame ≡ frame → Contains sent r) (λ r. r.head.frame ≡ frame → P r) (λ r among at. All-contains P sent r all (among at)) rs comes

-- ---- distinct shards

-- where none passes, each fails
fails-each : {X : Type 0} (test : X → Bool) (xs : List X) → list_any test xs ≡ false → All (λ x. test x ≡ false) xs
fails-each test xs none = λ k d h.
    false_from_ne_true (test (get_or xs k d)) (λ passes. both_ways (list_any test xs) none (list_any_at test xs k d h passes))

-- two of different numbers
abbrev HasOtherNumber : Received → Received → Type 0
HasOtherNumber r s = r.head.index ≢ s.head.index

-- one whose shard isn't there has another number than those of its block
other_number : (f block : ℕ) (r : Received) (counted : List Received) → is_of_block f block r ≡ true
    → list_any (is_shard r.head.frame r.head.block r.head.index) counted ≡ false → All (HasOtherNumber r) (filter (is_of_block f block) counted)
other_number f block r counted passes none =
    let of = of_block-frame f block r passes in
    let NoneOfFrame : ℕ → Type 0 = λ g. list_any (is_shard g r.head.block r.head.index) counted ≡ false in
    let NoneOfBlock : ℕ → Type 0 = λ b. list_any (is_shard f b r.head.index) counted ≡ false in
    let here = subst NoneOfBlock of.1 (subst NoneOfFrame of.0 none) in
    kept-each (is_of_block f block) (HasOtherNumber r) counted
    (All-weaker (λ c. is_shard f block r.head.index c ≡ false) (λ c. is_of_block f block c ≡ true → r.head.index ≢ c.head.index)
    (λ c fails is same. both_ways (is_shard f block r.head.index c) fails
    (and_from (is_of_block f block c) (c.head.index == r.head.index) is (eq-eqb c.head.index r.head.index (sym same))))
    counted (fails-each (is_shard f block r.head.index) counted here))

-- a block's shards that count are distinct
pub counting-distinct : (w f block : ℕ) (rs : List Received) → AllPairs (λ r s. r.head.index ≢ s.head.index) (filter (is_of_block f block) (counting w rs))
counting-distinct w f block [] = rw counting-empty (λ i j d less h. absurd (omega arith))
counting-distinct w f block (r ∷ rs) =
    let Distinct : List Received → Type 0 = λ l. AllPairs (λ s t. s.head.index ≢ t.head.index) l in
    let kept = filter (is_of_block f block) (counting w rs) in
    let rest = counting-distinct w f block rs in
    elim (cases_Bool (counts w r rs (counting w rs))) [
      | inr not_one ↦ subst (λ (l : List Received). Distinct (filter (is_of_block f block) l)) (sym (counting-not w r rs not_one)) rest
      | inl one ↦
          subst (λ (l : List Received). Distinct (filter (is_of_block f block) l)) (sym (counting-one w r rs one))
          (elim (cases_Bool (is_of_block f block r)) [
            | inr other ↦ subst Distinct (sym (cond-false (is_of_block f block r) (r ∷ kept) kept other)) rest
            | inl passes ↦
                let parts = counts-parts w r rs (counting w rs) one in
                subst Distinct (sym (cond-true (is_of_block f block r) (r ∷ kept) kept passes))
                (AllPairs-cons HasOtherNumber r kept
                (other_number f block r (counting w rs) passes
                (not-true (list_any (is_shard r.head.frame r.head.block r.head.index) (counting w rs)) parts.other))
                rest)
          ])
    ]
