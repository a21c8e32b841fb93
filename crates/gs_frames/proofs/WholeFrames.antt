-- When the blocks of a frame are whole, and what the verdict says then.
use Rattle.std.proofs.Common.{◌≡◌, ◌≤◌, ◌+◌, ℕ, zero, suc, Bool, true, false, ◌&&◌, List, [], ◌∷◌, length, map, get_or, Option, Some, None, refl, sym, ap}
use Rattle.std.proofs.Common.{subst, ◌∙◌, arith, inl, inr}
use Rattle.std.specs.Prelude.{nat_lt, ◌==◌, is_some, if◌then◌else◌}
use Rattle.std.specs.List.{filter, list_all, range_with_len}
use Rattle.std.proofs.lemmas.Bool.{cases_Bool, cases_eq, cond-true, cond-false, and_parts, eq-eqb, eqb-true, ne_eqb, ltb-true, both_ways, false_from_ne_true}
use Rattle.std.proofs.lemmas.List.Folds.{list_all-append, list_all-map, list_all_at}
use Rattle.std.proofs.lemmas.List.FromFn.{length-range_with_len, get_or-range_with_len, map-range_with_len_more}
use Rattle.gs_rtp.specs.Stream.{StreamSettings}
use Rattle.gs_frames.specs.Shards.{payload_of}
use Rattle.gs_frames.specs.declared.verdict.Added.{Added}
use Rattle.gs_frames.specs.declared.verdict.Added.TheVariants.{Foreign, Old, Added as Held, BlockWhole, FrameWhole}
use Rattle.gs_frames.specs.declared.verdict.Why.TheVariants.{Shape as OtherShape}
use Rattle.gs_frames.specs.Image.{Frame}
use Rattle.gs_frames.specs.Client.{ClientSettings, Arrival, Datagram}
use Rattle.gs_frames.specs.Received.{Received, received, greatest, is_left, taken, oldest, is_of_frame, is_of_block}
use Rattle.gs_frames.specs.Verdict.{shape_came, shape_had, is_same_shape, is_repeat, is_spare, has_all, is_block_whole, is_frame_whole, made_whole, judged}
use Rattle.gs_frames.specs.Verdict.{is_counting, counting, verdict}
use Rattle.gs_frames.specs.Complete.{block_payloads, both, payloads, image_behind, frame_in, complete}
use Rattle.gs_frames.specs.VerdictLaws.{counting_of, are_whole, has_whole_blocks, MakesFrameWhole, FrameWholeIsExactly, WholeBlocksHaveImage}
use Rattle.gs_frames.specs.VerdictLaws.{OnlyFrameWholeCompletes, OnlyOwnFrameCompletes}
use Rattle.gs_frames.proofs.Judged.{same_frame, same_block, by_tests, judged-counts}
use Rattle.gs_frames.proofs.Taken.{taken-some, taken-none}
use Rattle.gs_frames.proofs.Counting.{oldest-kept, oldest-new, NoneOf, NoneOf-from_oldest, NoneOf-counting, oldest_of_block-none, complete-is, complete-other}
use Rattle.gs_frames.proofs.Counting.{complete-passed}
use Rattle.gs_frames.proofs.CompleteStays.{AreCountsParts, counts-parts, complete_stays}
use Rattle.gs_frames.proofs.Verdicts.{IsJudged, by_received, received-block, counted-not, counted-one}

-- ---- whole blocks have an image

-- a block's payloads are there where it is whole
payloads-whole : (s : StreamSettings) (held : List Received) (o : Option Received) → is_some (block_payloads s held o) ≡ has_all held o
payloads-whole s held None = refl
payloads-whole s held (Some first) = elim (cases_Bool (length held == first.head.shards)) [
  | inl all ↦ rw all refl
  | inr not_all ↦ rw not_all refl
]

both-there : (x y : Option (List ℕ)) → is_some (both x y) ≡ (is_some x && is_some y)
both-there None y = refl
both-there (Some x) None = refl
both-there (Some x) (Some y) = refl

-- a test of the numbers below n, with one more
all-more : (test : ℕ → Bool) (n : ℕ) → list_all test (range_with_len 0 (n + 1)) ≡ (list_all test (range_with_len 0 n) && test n)
all-more test n =
    sym (list_all-map (λ (b : Bool). b) test (range_with_len 0 (n + 1)))
    ∙ ap (λ (l : List Bool). list_all (λ (b : Bool). b) l) (map-range_with_len_more test 0 n n (omega arith))
    ∙ list_all-append (λ (b : Bool). b) (map test (range_with_len 0 n)) (test n ∷ [])
    ∙ ap (λ (b : Bool). b && (test n && true)) (list_all-map (λ (b : Bool). b) test (range_with_len 0 n))
    ∙ ap (λ (b : Bool). list_all test (range_with_len 0 n) && b) (and_right_true (test n))
  where
    and_right_true : (b : Bool) → (b && true) ≡ b
    and_right_true true = refl
    and_right_true false = refl

-- of the first blocks, where each is
blocks-whole : (s : StreamSettings) (counted : List Received) (f n : ℕ)
    → is_some (payloads s counted f n) ≡ list_all (is_block_whole counted f) (range_with_len 0 n)
blocks-whole s counted f zero = refl
blocks-whole s counted f (suc n) =
    let block = block_payloads s (filter (is_of_block f n) counted) (oldest (is_of_block f n) counted) in
    let one : n + 1 ≡ suc n = omega arith in
    both-there (payloads s counted f n) block
    ∙ ap (λ (b : Bool). b && is_some block) (blocks-whole s counted f n)
    ∙ ap (λ (b : Bool). list_all (is_block_whole counted f) (range_with_len 0 n) && b)
    (payloads-whole s (filter (is_of_block f n) counted) (oldest (is_of_block f n) counted))
    ∙ sym (all-more (is_block_whole counted f) n)
    ∙ ap (λ (k : ℕ). list_all (is_block_whole counted f) (range_with_len 0 k)) one

image-whole : (s : StreamSettings) (counted : List Received) (f : ℕ) (o : Option Received) → is_some (image_behind s counted f o) ≡ are_whole counted f o
image-whole s counted f None = refl
image-whole s counted f (Some first) = blocks-whole s counted f (first.head.last_block + 1)

pub whole_blocks : WholeBlocksHaveImage
whole_blocks c came f = image-whole c.stream (counting_of c came) f (oldest (is_of_frame f) (taken c came))

-- ---- a datagram that counts

-- with it, the first that came of its frame says the same last block
first-last : (r : Received) (rs : List Received) (o : Option Received) → oldest (is_of_frame r.head.frame) rs ≡ o → same_frame r o ≡ true
    → (first : Received) × (oldest (is_of_frame r.head.frame) (r ∷ rs) ≡ Some first) × (first.head.last_block ≡ r.head.last_block)
first-last r rs None e same = (r, oldest-new (is_of_frame r.head.frame) r rs e (eq-eqb r.head.frame r.head.frame refl), refl)
first-last r rs (Some first) e same =
    (first, oldest-kept (is_of_frame r.head.frame) r rs first e, sym (eqb-true r.head.last_block first.head.last_block same))

-- so its frame is whole then where the blocks up to that one are
whole-now : (r : Received) (rs counted : List Received) → same_frame r (oldest (is_of_frame r.head.frame) rs) ≡ true
    → are_whole (r ∷ counted) r.head.frame (oldest (is_of_frame r.head.frame) (r ∷ rs)) ≡ is_frame_whole (r ∷ counted) r.head.frame r.head.last_block
whole-now r rs counted same =
    let first = first-last r rs (oldest (is_of_frame r.head.frame) rs) refl same in
    ap (are_whole (r ∷ counted) r.head.frame) first.1
    ∙ ap (is_frame_whole (r ∷ counted) r.head.frame) first.2

-- its own block wasn't whole before
block-open : (r : Received) (held : List Received) (o : Option Received) → same_block r o ≡ true → nat_lt (length held) r.head.shards ≡ true
    → has_all held o ≡ false
block-open r held None same room = refl
block-open r held (Some first) same room =
    let shards =
    eqb-true r.head.shards first.head.shards (and_parts (r.head.shards == first.head.shards) (r.head.percentage == first.head.percentage) same).0 in
    let less = ltb-true (length held) r.head.shards room in
    ne_eqb (length held) first.head.shards (λ e. absurd (omega arith))

-- nor was its frame
frame-open : (r : Received) (counted : List Received) (last : ℕ) → is_block_whole counted r.head.frame r.head.block ≡ false → r.head.block ≤ last
    → is_frame_whole counted r.head.frame last ≡ false
frame-open r counted last not_whole within =
    let b = r.head.block in
    let there : get_or (range_with_len 0 (last + 1)) b 0 ≡ b = get_or-range_with_len 0 (last + 1) b 0 (omega arith) ∙ omega arith in
    list_all_at (is_block_whole counted r.head.frame) (range_with_len 0 (last + 1)) b 0 (omega (arith, length-range_with_len 0 (last + 1)))
    (ap (is_block_whole counted r.head.frame) there ∙ not_whole)

open-before : (w : ℕ) (r : Received) (rs counted : List Received) (o : Option Received) → AreCountsParts w r rs counted → r.head.block ≤ r.head.last_block
    → same_frame r o ≡ true → are_whole counted r.head.frame o ≡ false
open-before w r rs counted None parts within same = refl
open-before w r rs counted (Some first) parts within same =
    let last = eqb-true r.head.last_block first.head.last_block same in
    frame-open r counted first.head.last_block
    (block-open r (filter (is_of_block r.head.frame r.head.block) counted) (oldest (is_of_block r.head.frame r.head.block) counted) parts.block parts.room)
    (omega arith)

-- ---- the verdict

frame_whole-made : (r : Received) (counted : List Received) → made_whole r counted ≡ FrameWhole → is_frame_whole counted r.head.frame r.head.last_block ≡ true
frame_whole-made r counted e =
    let whole = is_frame_whole counted r.head.frame r.head.last_block in
    let block = is_block_whole counted r.head.frame r.head.block in
    elim (cases_Bool whole) [
      | inl passes ↦ passes
      | inr fails ↦ absurd (not_frame block (sym (cond-false whole FrameWhole (if block then BlockWhole else Held) fails) ∙ e))
    ]
  where
    not_frame : (b : Bool) → (if b then BlockWhole else Held) ≡ FrameWhole → ⊥
    not_frame true e = cc
    not_frame false e = cc

made-frame_whole : (r : Received) (counted : List Received) → is_frame_whole counted r.head.frame r.head.last_block ≡ true → made_whole r counted ≡ FrameWhole
made-frame_whole r counted whole =
    cond-true (is_frame_whole counted r.head.frame r.head.last_block) FrameWhole
    (if is_block_whole counted r.head.frame r.head.block then BlockWhole else Held) whole

-- one that counts has the verdict of what it makes whole
by_tests-made : (left same repeat spare : Bool) (old foreign made : Added) → is_counting old ≡ false → is_counting foreign ≡ false
    → is_counting (by_tests left same repeat spare old foreign made) ≡ true → by_tests left same repeat spare old foreign made ≡ made
by_tests-made true same repeat spare old foreign made o f e = absurd (both_ways (is_counting old) o e)
by_tests-made false false repeat spare old foreign made o f e = absurd (both_ways (is_counting foreign) f e)
by_tests-made false true true spare old foreign made o f e = absurd (both_ways false refl e)
by_tests-made false true false true old foreign made o f e = absurd (both_ways false refl e)
by_tests-made false true false false old foreign made o f e = refl

judged-made : (w : ℕ) (r : Received) (before counted : List Received) → is_counting (judged w r before counted) ≡ true
    → judged w r before counted ≡ made_whole r (r ∷ counted)
judged-made w r before counted e =
    by_tests-made (is_left w before r.head.frame) (is_same_shape (shape_had r before counted) (shape_came r)) (is_repeat r counted) (is_spare r counted)
    (Old (greatest before)) (Foreign (OtherShape (shape_had r before counted) (shape_came r))) (made_whole r (r ∷ counted)) refl refl e

-- ---- the law of whole frames

-- a datagram that counts makes its frame whole where the verdict says so
counted-whole : (c : ClientSettings) (came : List Arrival) (bytes : List ℕ) (r : Received) → received c.stream bytes ≡ Some r
    → is_counting (judged c.window r (taken c came) (counting c.window (taken c came))) ≡ true
    → (has_whole_blocks c came r.head.frame ≡ false)
    × (has_whole_blocks c (Datagram bytes ∷ came) r.head.frame ≡ is_frame_whole (r ∷ counting c.window (taken c came)) r.head.frame r.head.last_block)
counted-whole c came bytes r is one =
    let rs = taken c came in
    let counted = counting c.window rs in
    let parts = counts-parts c.window r rs counted (sym (judged-counts c.window r rs counted) ∙ one) in
    let within = received-block c.stream bytes r is in
    let Whole : List Received → Bool = λ all. are_whole (counting c.window all) r.head.frame (oldest (is_of_frame r.head.frame) all) in (
      open-before c.window r rs counted (oldest (is_of_frame r.head.frame) rs) parts within parts.frame,
      ap Whole (taken-some c (Datagram bytes) came r is)
          ∙ ap (λ (l : List Received). are_whole l r.head.frame (oldest (is_of_frame r.head.frame) (r ∷ rs))) (counted-one c r rs one)
          ∙ whole-now r rs counted parts.frame,
    )

-- a frame of which nothing came has no whole blocks
none-whole : (counted : List Received) (f last : ℕ) → NoneOf f counted → is_frame_whole counted f last ≡ false
none-whole counted f last none =
    let there : get_or (range_with_len 0 (last + 1)) 0 0 ≡ 0 = get_or-range_with_len 0 (last + 1) 0 0 (omega arith) ∙ omega arith in
    list_all_at (is_block_whole counted f) (range_with_len 0 (last + 1)) 0 0 (omega (arith, length-range_with_len 0 (last + 1)))
    (ap (is_block_whole counted f) there ∙ ap (has_all (filter (is_of_block f 0) counted)) (oldest_of_block-none f 0 counted none))

none-are_whole : (counted : List Received) (f : ℕ) (o : Option Received) → NoneOf f counted → are_whole counted f o ≡ false
none-are_whole counted f None none = refl
none-are_whole counted f (Some first) none = none-whole counted f first.head.last_block none

-- one that doesn't count makes none whole
passed-whole : (w : ℕ) (f : ℕ) (r : Received) (rs : List Received) (o : Option Received) → oldest (is_of_frame f) rs ≡ o
    → are_whole (counting w rs) f (oldest (is_of_frame f) (r ∷ rs)) ≡ are_whole (counting w rs) f o
passed-whole w f r rs (Some first) e = ap (are_whole (counting w rs) f) (oldest-kept (is_of_frame f) r rs first e)
passed-whole w f r rs None e =
    none-are_whole (counting w rs) f (oldest (is_of_frame f) (r ∷ rs)) (NoneOf-counting w f rs (NoneOf-from_oldest f rs e))

not_counted-whole : (c : ClientSettings) (came : List Arrival) (bytes : List ℕ) (r : Received) (f : ℕ) → received c.stream bytes ≡ Some r
    → is_counting (judged c.window r (taken c came) (counting c.window (taken c came))) ≡ false
    → has_whole_blocks c (Datagram bytes ∷ came) f ≡ has_whole_blocks c came f
not_counted-whole c came bytes r f is fails =
    let rs = taken c came in
    let Whole : List Received → Bool = λ all. are_whole (counting c.window all) f (oldest (is_of_frame f) all) in
    ap Whole (taken-some c (Datagram bytes) came r is)
    ∙ ap (λ (l : List Received). are_whole l f (oldest (is_of_frame f) (r ∷ rs))) (counted-not c r rs fails)
    ∙ passed-whole c.window f r rs (oldest (is_of_frame f) rs) refl

makes-whole : (c : ClientSettings) (came : List Arrival) (bytes : List ℕ) → IsJudged c came bytes → verdict c came bytes ≡ FrameWhole
    → MakesFrameWhole c came bytes
makes-whole c came bytes is e =
    let rs = taken c came in
    let counted = counting c.window rs in
    let one : is_counting (judged c.window is.r rs counted) ≡ true = ap is_counting (sym is.verdict_is ∙ e) in
    let both = counted-whole c came bytes is.r is.is_received one in
    let made = sym (judged-made c.window is.r rs counted one) ∙ sym is.verdict_is ∙ e in
    record {
      r = is.r;
      is_received = is.is_received;
      not_before = both.0;
      now = both.1 ∙ frame_whole-made is.r (is.r ∷ counted) made;
    }

whole-makes : (c : ClientSettings) (came : List Arrival) (bytes : List ℕ) → IsJudged c came bytes → MakesFrameWhole c came bytes
    → verdict c came bytes ≡ FrameWhole
whole-makes c came bytes is makes =
    let rs = taken c came in
    let counted = counting c.window rs in
    let same_one : Some makes.r ≡ Some is.r = sym makes.is_received ∙ is.is_received in
    let same : makes.r ≡ is.r = cc in
    let not_before = subst (λ (r : Received). has_whole_blocks c came r.head.frame ≡ false) same makes.not_before in
    let now = subst (λ (r : Received). has_whole_blocks c (Datagram bytes ∷ came) r.head.frame ≡ true) same makes.now in
    elim (cases_Bool (is_counting (judged c.window is.r rs counted))) [
      | inr fails ↦
          absurd (both_ways (has_whole_blocks c came is.r.head.frame) not_before
          (sym (not_counted-whole c came bytes is.r is.r.head.frame is.is_received fails) ∙ now))
      | inl one ↦
          let both = counted-whole c came bytes is.r is.is_received one in
          is.verdict_is ∙ judged-made c.window is.r rs counted one ∙ made-frame_whole is.r (is.r ∷ counted) (sym both.1 ∙ now)
    ]

pub frame_whole_exactly : FrameWholeIsExactly
frame_whole_exactly c came bytes = elim (by_received c came bytes) [
  | inr is ↦ (makes-whole c came bytes is, whole-makes c came bytes is)
  | inl is ↦ (
    λ e. let wrong : Foreign is.why ≡ FrameWhole = sym is.foreign ∙ e in cc,
    λ makes. let none : None ≡ Some makes.r = sym is.nothing ∙ makes.is_received in cc,
  )
]

-- ---- the law of complete frames

-- a frame that has no image now had none before
not_whole-same : (c : ClientSettings) (r : Received) (rs : List Received) (f : ℕ) (o : Option Frame) → complete c rs f ≡ o
    → are_whole (counting c.window (r ∷ rs)) f (oldest (is_of_frame f) (r ∷ rs)) ≡ false → complete c (r ∷ rs) f ≡ complete c rs f
not_whole-same c r rs f (Some held) e not_whole = complete_stays c r rs f held e ∙ sym e
not_whole-same c r rs f None e not_whole =
    complete-is c (r ∷ rs) f
    ∙ no_image (payload_of c.stream) (image_behind c.stream (counting c.window (r ∷ rs)) f (oldest (is_of_frame f) (r ∷ rs)))
    (image-whole c.stream (counting c.window (r ∷ rs)) f (oldest (is_of_frame f) (r ∷ rs)) ∙ not_whole)
    ∙ sym e
  where
    no_image : (size : ℕ) (image : Option (List ℕ)) → is_some image ≡ false → frame_in size image ≡ None
    no_image size None h = refl
    no_image size (Some bytes) h = absurd (both_ways true h refl)

judged-other : (c : ClientSettings) (came : List Arrival) (bytes : List ℕ) (f : ℕ) → IsJudged c came bytes → (verdict c came bytes ≡ FrameWhole → ⊥)
    → complete c (taken c (Datagram bytes ∷ came)) f ≡ complete c (taken c came) f
judged-other c came bytes f is not_frame =
    let rs = taken c came in
    let r = is.r in
    let counted = counting c.window rs in
    ap (λ (l : List Received). complete c l f) (taken-some c (Datagram bytes) came r is.is_received)
    ∙ elim (cases_eq r.head.frame f) [
      | inr other ↦ complete-other c r rs f (ne_eqb r.head.frame f other)
      | inl own ↦
          elim (cases_Bool (is_counting (judged c.window r rs counted))) [
            | inr fails ↦ complete-passed c r rs (counted-not c r rs fails) f
            | inl one ↦
                let both = counted-whole c came bytes r is.is_received one in
                let not_whole : is_frame_whole (r ∷ counted) r.head.frame r.head.last_block ≡ false =
                false_from_ne_true (is_frame_whole (r ∷ counted) r.head.frame r.head.last_block)
                (λ whole. not_frame (is.verdict_is ∙ judged-made c.window r rs counted one ∙ made-frame_whole r (r ∷ counted) whole)) in
                let Whole : List Received → Bool = λ all. are_whole (counting c.window all) r.head.frame (oldest (is_of_frame r.head.frame) all) in
                let now = ap Whole (sym (taken-some c (Datagram bytes) came r is.is_received)) ∙ both.1 ∙ not_whole in
                subst (λ (k : ℕ). complete c (r ∷ rs) k ≡ complete c rs k) own
                (not_whole-same c r rs r.head.frame (complete c rs r.head.frame) refl now)
          ]
    ]

pub only_frame_whole : OnlyFrameWholeCompletes
only_frame_whole c came bytes f not_frame = elim (by_received c came bytes) [
  | inl is ↦ ap (λ (l : List Received). complete c l f) (taken-none c (Datagram bytes) came is.nothing)
  | inr is ↦ judged-other c came bytes f is not_frame
]

pub only_own_frame : OnlyOwnFrameCompletes
only_own_frame c came bytes r f is other =
    ap (λ (l : List Received). complete c l f) (taken-some c (Datagram bytes) came r is)
    ∙ complete-other c r (taken c came) f (ne_eqb r.head.frame f (λ e. other (sym e)))
