-- When a datagram counts: five tests, all of which it passes.
use Rattle.std.proofs.Common.{◌≡◌, ℕ, Bool, true, false, ◌&&◌, not, List, [], ◌∷◌, length, Option, Some, None, refl, sym, ap, ◌∙◌, arith, inl, inr}
use Rattle.std.specs.Prelude.{nat_le, nat_lt, ◌==◌, if◌then◌else◌}
use Rattle.std.specs.List.{filter, list_any}
use Rattle.std.proofs.lemmas.Bool.{cases_Bool, eq-eqb}
use Rattle.std.proofs.lemmas.Bool.Decides.{nat_tests}
use Rattle.std.proofs.Math.Bool.{and_assoc}
use Rattle.gs_frames.specs.declared.verdict.Added.{Added}
use Rattle.gs_frames.specs.declared.verdict.Added.TheVariants.{Foreign, Old, Repeat, Spare}
use Rattle.gs_frames.specs.declared.verdict.Why.TheVariants.{Shape as OtherShape}
use Rattle.gs_frames.specs.Received.{Received, greatest, is_left, oldest, is_of_frame, is_of_block}
use Rattle.gs_frames.specs.Verdict.{shape_came, shape_had, is_same_shape, shape_said, first_or, is_repeat, is_spare, is_frame_whole, is_block_whole, made_whole}
use Rattle.gs_frames.specs.Verdict.{judged, is_counting, counting}

-- ---- the five tests

-- it agrees with the first that came of its frame on the last block
abbrev pub same_frame : Received → Option Received → Bool
same_frame r None = true
same_frame r (Some first) = r.head.last_block == first.head.last_block

-- it agrees with the first that counted of its block on the data shards and the percentage
abbrev pub same_block : Received → Option Received → Bool
same_block r None = true
same_block r (Some first) = r.head.shards == first.head.shards && r.head.percentage == first.head.percentage

abbrev pub is_shard : ℕ → ℕ → ℕ → Received → Bool
is_shard f block index c = is_of_block f block c && c.head.index == index

-- its frame wasn't left, it agrees with its frame and its block, its shard isn't there, and its block has fewer
-- shards than data shards
abbrev pub counts : ℕ → Received → List Received → List Received → Bool
counts w r before counted =
    not (is_left w before r.head.frame)
    && same_frame r (oldest (is_of_frame r.head.frame) before)
    && same_block r (oldest (is_of_block r.head.frame r.head.block) counted)
    && not (list_any (is_shard r.head.frame r.head.block r.head.index) counted)
    && nat_lt (length (filter (is_of_block r.head.frame r.head.block) counted)) r.head.shards

-- ---- they are the verdict's

-- some one of those that pass a test passes another: some one passes both
any_of-filter : (test other : Received → Bool) (rs : List Received) → list_any other (filter test rs) ≡ list_any (λ c. test c && other c) rs
any_of-filter test other [] = refl
any_of-filter test other (r ∷ rs) =
    let rest = any_of-filter test other rs in
    elim (cases_Bool (test r)) [
      | inl passes ↦ rw (passes, rest) refl
      | inr fails ↦ rw (fails, rest) refl
    ]

-- equality of numbers is the same both ways
flip : (m n : ℕ) → (m == n) ≡ (n == m)
flip m n = grind (arith, nat_tests)

-- the shape is the same where each part is
same_shape-parts : (r : Received) (first_of_frame first_of_block : Option Received)
    → is_same_shape (shape_said (first_or r first_of_frame) (first_or r first_of_block)) (shape_came r)
    ≡ (same_frame r first_of_frame && same_block r first_of_block)
same_shape-parts r None None =
    rw (eq-eqb r.head.last_block r.head.last_block refl, eq-eqb r.head.shards r.head.shards refl, eq-eqb r.head.percentage r.head.percentage refl) refl
same_shape-parts r (Some f) None =
    rw (flip f.head.last_block r.head.last_block, eq-eqb r.head.shards r.head.shards refl, eq-eqb r.head.percentage r.head.percentage refl)
    (and_assoc (r.head.last_block == f.head.last_block) true true)
same_shape-parts r None (Some b) =
    rw (flip b.head.shards r.head.shards, flip b.head.percentage r.head.percentage, eq-eqb r.head.last_block r.head.last_block refl) refl
same_shape-parts r (Some f) (Some b) =
    rw (flip f.head.last_block r.head.last_block, flip b.head.shards r.head.shards, flip b.head.percentage r.head.percentage)
    (and_assoc (r.head.last_block == f.head.last_block) (r.head.shards == b.head.shards) (r.head.percentage == b.head.percentage))

-- what a shard makes whole, it counts
pub made_whole-counts : (r : Received) (counted : List Received) → is_counting (made_whole r counted) ≡ true
made_whole-counts r counted = elim (cases_Bool (is_frame_whole counted r.head.frame r.head.last_block)) [
  | inl frame ↦ rw frame refl
  | inr not_frame ↦
      elim (cases_Bool (is_block_whole counted r.head.frame r.head.block)) [
        | inl block ↦ rw (not_frame, block) refl
        | inr not_block ↦ rw (not_frame, not_block) refl
      ]
]

-- a verdict by its tests
abbrev pub by_tests : Bool → Bool → Bool → Bool → Added → Added → Added → Added
by_tests left same repeat spare old foreign made =
    if left then old else (if not same then foreign else (if repeat then Repeat else (if spare then Spare else made)))

by_tests-counts : (left same repeat spare : Bool) (old foreign made : Added) → is_counting old ≡ false → is_counting foreign ≡ false → is_counting made ≡ true
    → is_counting (by_tests left same repeat spare old foreign made) ≡ (not left && same && not repeat && not spare)
by_tests-counts true same repeat spare old foreign made o f m = o
by_tests-counts false false repeat spare old foreign made o f m = f
by_tests-counts false true true spare old foreign made o f m = refl
by_tests-counts false true false true old foreign made o f m = refl
by_tests-counts false true false false old foreign made o f m = m

less-not : (m n : ℕ) → not (nat_le n m) ≡ nat_lt m n
less-not m n = grind (arith, nat_tests)

-- a datagram of the session counts where it passes the five tests
pub judged-counts : (w : ℕ) (r : Received) (before counted : List Received) → is_counting (judged w r before counted) ≡ counts w r before counted
judged-counts w r before counted =
    let left = is_left w before r.head.frame in
    let of_frame = same_frame r (oldest (is_of_frame r.head.frame) before) in
    let of_block = same_block r (oldest (is_of_block r.head.frame r.head.block) counted) in
    let held = filter (is_of_block r.head.frame r.head.block) counted in
    let room = nat_lt (length held) r.head.shards in
    let same = is_same_shape (shape_had r before counted) (shape_came r) in
    by_tests-counts left same (is_repeat r counted) (is_spare r counted) (Old (greatest before))
    (Foreign (OtherShape (shape_had r before counted) (shape_came r))) (made_whole r (r ∷ counted)) refl refl (made_whole-counts r (r ∷ counted))
    ∙ ap (λ (b : Bool). not left && b && not (is_repeat r counted) && not (is_spare r counted))
    (same_shape-parts r (oldest (is_of_frame r.head.frame) before) (oldest (is_of_block r.head.frame r.head.block) counted))
    ∙ ap (λ (b : Bool). not left && (of_frame && of_block) && not b && not (is_spare r counted))
    (any_of-filter (is_of_block r.head.frame r.head.block) (λ c. c.head.index == r.head.index) counted)
    ∙ ap (λ (b : Bool). not left && (of_frame && of_block) && not (list_any (is_shard r.head.frame r.head.block r.head.index) counted) && b)
    (less-not (length held) r.head.shards)
    ∙ ap (λ (b : Bool). b && not (list_any (is_shard r.head.frame r.head.block r.head.index) counted) && room) (sym (and_assoc (not left) of_frame of_block))

-- ---- what counts

pub counting-empty : (w : ℕ) → counting w [] ≡ []
unfolding counting
counting-empty w = refl

pub counting-first : (w : ℕ) (r : Received) (rs : List Received)
    → counting w (r ∷ rs) ≡ (if counts w r rs (counting w rs) then r ∷ counting w rs else counting w rs)
unfolding counting
counting-first w r rs = ap (λ (b : Bool). if b then r ∷ counting w rs else counting w rs) (judged-counts w r rs (counting w rs))
