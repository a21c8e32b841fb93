-- What a frame holds with one more datagram of it, and its verdict.
use Rattle.std.proofs.Common.{◌≡◌, ◌≢◌, ◌<◌, ◌≤◌, ◌+◌, ◌⊎◌, ℕ, zero, suc, Bool, true, false, ◌&&◌, not, cond, List, [], ◌∷◌, length, set, Option, Some, None}
use Rattle.std.proofs.Common.{refl, sym, ap, subst, ◌∙◌, arith, inl, inr}
use Rattle.std.specs.Prelude.{◌==◌, nat_le, if◌then◌else◌}
use Rattle.std.specs.List.{filter, list_any, slice_get}
use Rattle.std.proofs.lemmas.Bool.{cases_Bool, cases_eq, cond-true, cond-false, eq-eqb, ne_eqb, eqb-true, and_parts, and_from, and_left, and_right, both_ways}
use Rattle.std.proofs.lemmas.Bool.{false_from_ne_true}
use Rattle.gs_rtp.specs.Stream.{StreamSettings}
use Rattle.gs_rtp.specs.declared.video.VideoHead.{VideoHead}
use Rattle.gs_rtp.specs.Video.{IsVideoHead}
use Rattle.gs_frames.specs.declared.verdict.Added.{Added}
use Rattle.gs_frames.specs.declared.verdict.Added.TheVariants.{Foreign, Old, Repeat, Spare, Added as Held, BlockWhole, FrameWhole}
use Rattle.gs_frames.specs.declared.verdict.Why.{Why}
use Rattle.gs_frames.specs.declared.verdict.Why.TheVariants.{Shape as OtherShape}
use Rattle.gs_frames.specs.declared.verdict.Shape.{Shape}
use Rattle.gs_frames.specs.Received.{Received, oldest, is_of_block}
use Rattle.gs_frames.specs.Verdict.{shape_came, shape_said, first_or, is_same_shape, is_repeat, is_spare, has_all, is_block_whole, is_frame_whole, made_whole}
use Rattle.gs_frames.specs.Verdict.{is_counting}
use Rattle.gs_frames.specs.Complete.{payloads}
use Rattle.gs_fecqueue.specs.declared.block.Block.{Block}
use Rattle.gs_fecqueue.specs.declared.frame.Frame.{Frame}
use Rattle.gs_fecqueue.specs.Holding.{HoldsBlock, Brings}
use Rattle.gs_fecqueue.specs.BlockVerdict.{shape_in, made_block_whole, block_verdict, held_behind, first_behind}
use Rattle.gs_fecqueue.specs.FrameHolding.{HoldsBlockOf, HoldsBlocks, HoldsFrame, frame_verdict, counted_behind, completed}
use Rattle.gs_fecqueue.proofs.Frames.{range-each, set-get, filter-own, oldest-own, other-holds, own-holds}

-- ---- verdicts by their tests

abbrev tests : Bool → Bool → Bool → Why → Added → Added
tests same repeat spare why made = if not same then Foreign why else (if repeat then Repeat else (if spare then Spare else made))

-- the verdict of a frame, by that of the block and by what the frame becomes where the block becomes whole
abbrev pub lifted : Added → Added → Added
lifted (Foreign why) done = Foreign why
lifted (Old current) done = Old current
lifted Repeat done = Repeat
lifted Spare done = Spare
lifted Held done = Held
lifted BlockWhole done = done
lifted FrameWhole done = FrameWhole

pub lifted-other : (v done : Added) → (v ≡ BlockWhole → ⊥) → lifted v done ≡ v
lifted-other (Foreign why) done other = refl
lifted-other (Old current) done other = refl
lifted-other Repeat done other = refl
lifted-other Spare done other = refl
lifted-other Held done other = refl
lifted-other BlockWhole done other = absurd (other refl)
lifted-other FrameWhole done other = refl

lifted-tests : (same repeat spare whole : Bool) (why : Why) (done : Added)
    → tests same repeat spare why (if whole then done else Held) ≡ lifted (tests same repeat spare why (made_block_whole whole)) done
lifted-tests false repeat spare whole why done = refl
lifted-tests true true spare whole why done = refl
lifted-tests true false true whole why done = refl
lifted-tests true false false true why done = refl
lifted-tests true false false false why done = refl

-- a verdict that counts, of a block
tests-counted : (same repeat spare whole : Bool) (why : Why) → is_counting (tests same repeat spare why (made_block_whole whole)) ≡ true
    → (same ≡ true) × (tests same repeat spare why (made_block_whole whole) ≡ made_block_whole whole)
tests-counted false repeat spare whole why e = let no : false ≡ true = e in cc
tests-counted true true spare whole why e = let no : false ≡ true = e in cc
tests-counted true false true whole why e = let no : false ≡ true = e in cc
tests-counted true false false whole why e = (refl, refl)

made-other : (whole : Bool) → (made_block_whole whole ≡ BlockWhole → ⊥) → whole ≡ false
made-other true other = absurd (other refl)
made-other false other = refl

-- ---- a datagram of the frame

-- it is of its block
own-block : (r : Received) → is_of_block r.head.frame r.head.block r ≡ true
own-block r =
    and_from (r.head.frame == r.head.frame) (r.head.block == r.head.block) (eq-eqb r.head.frame r.head.frame refl) (eq-eqb r.head.block r.head.block refl)

-- whether its block is whole with it
block_whole-with : (r : Received) (counted : List Received)
    → is_block_whole (r ∷ counted) r.head.frame r.head.block
    ≡ has_all (r ∷ filter (is_of_block r.head.frame r.head.block) counted) (Some (first_or r (oldest (is_of_block r.head.frame r.head.block) counted)))
block_whole-with r counted =
    let f = r.head.frame in
    let b = r.head.block in
    ap (λ (l : List Received). has_all l (oldest (is_of_block f b) (r ∷ counted))) (filter-own f b true r counted (own-block r))
    ∙ ap (has_all (r ∷ filter (is_of_block f b) counted)) (oldest-own f b true r counted (own-block r))

-- a whole frame's blocks are whole
frame-block : (counted : List Received) (f last b : ℕ) → is_frame_whole counted f last ≡ true → b ≤ last → is_block_whole counted f b ≡ true
frame-block counted f last b whole within = range-each (is_block_whole counted f) 0 (last + 1) b whole (omega arith) (omega arith)

-- what it makes whole
made_whole-is : (r : Received) (counted : List Received) → r.head.block ≤ r.head.last_block
    → made_whole r (r ∷ counted)
    ≡ (if has_all (r ∷ filter (is_of_block r.head.frame r.head.block) counted) (Some (first_or r (oldest (is_of_block r.head.frame r.head.block) counted)))
    then completed (r ∷ counted) r.head.frame r.head.last_block else Held)
made_whole-is r counted within =
    let f = r.head.frame in
    let b = r.head.block in
    let all = r ∷ counted in
    let frame = is_frame_whole all f r.head.last_block in
    let block = is_block_whole all f b in
    let made : Bool → Added = λ w. if w then completed all f r.head.last_block else Held in
    elim (cases_Bool block) [
      | inl is_whole ↦
          ap (λ (w : Bool). if frame then FrameWhole else (if w then BlockWhole else Held)) is_whole
          ∙ sym (ap made (sym (block_whole-with r counted) ∙ is_whole))
      | inr not_whole ↦
          let not_frame : frame ≡ false =
          false_from_ne_true frame (λ all_whole. both_ways block not_whole (frame-block all f r.head.last_block b all_whole within)) in
          ap (λ (w : Bool). if w then FrameWhole else (if block then BlockWhole else Held)) not_frame
          ∙ ap (λ (w : Bool). if w then BlockWhole else Held) not_whole
          ∙ sym (ap made (sym (block_whole-with r counted) ∙ not_whole))
    ]

-- the frame's verdict, by that of the block
pub frame_verdict-is : (first r : Received) (counted : List Received) (last : ℕ) → last ≡ first.head.last_block → r.head.block ≤ r.head.last_block
    → frame_verdict first r counted
    ≡ lifted (block_verdict last r (filter (is_of_block r.head.frame r.head.block) counted) (oldest (is_of_block r.head.frame r.head.block) counted))
    (completed (r ∷ counted) r.head.frame r.head.last_block)
frame_verdict-is first r counted last last_is within =
    let held = filter (is_of_block r.head.frame r.head.block) counted in
    let o = oldest (is_of_block r.head.frame r.head.block) counted in
    let done = completed (r ∷ counted) r.head.frame r.head.last_block in
    let whole = has_all (r ∷ held) (Some (first_or r o)) in
    let repeat = is_repeat r counted in
    let spare = is_spare r counted in
    let by : Shape → Added → Added = λ had made. tests (is_same_shape had (shape_came r)) repeat spare (OtherShape had (shape_came r)) made in
    ap (λ (n : ℕ). by (shape_in n r o) (made_whole r (r ∷ counted))) (sym last_is)
    ∙ ap (by (shape_in last r o)) (made_whole-is r counted within)
    ∙ lifted-tests (is_same_shape (shape_in last r o) (shape_came r)) repeat spare whole (OtherShape (shape_in last r o) (shape_came r)) done

-- where the block's verdict counts, it says the same of the last block
pub counted-same : (last : ℕ) (r : Received) (held : List Received) (o : Option Received) → is_counting (block_verdict last r held o) ≡ true
    → (last ≡ r.head.last_block) × (block_verdict last r held o ≡ made_block_whole (has_all (r ∷ held) (Some (first_or r o))))
counted-same last r held o counts =
    let had = shape_in last r o in
    let came = shape_came r in
    let whole = has_all (r ∷ held) (Some (first_or r o)) in
    let found = tests-counted (is_same_shape had came) (list_any (λ c. c.head.index == r.head.index) held) (nat_le r.head.shards (length held)) whole
    (OtherShape had came) counts in
    let parts = and_parts (had.last_block == came.last_block && had.shards == came.shards) (had.percentage == came.percentage) found.0 in
    let front = and_parts (had.last_block == came.last_block) (had.shards == came.shards) parts.0 in
    (eqb-true last r.head.last_block front.0, found.1)

-- ---- what it holds then

-- each of its blocks, where r's block holds what it is to hold
pub blocks-hold : (s : StreamSettings) (before after : Frame) (counted : List Received) (first r : Received) (b : ℕ) (new : Block) (counts : Bool)
    → HoldsBlocks s before counted first → r.head.frame ≡ before.number → r.head.block ≡ b
    → after.number ≡ before.number → after.last_block ≡ before.last_block → after.blocks ≡ set before.blocks b new
    → HoldsBlock s new (held_behind counts r (filter (is_of_block r.head.frame r.head.block) counted))
    (first_behind counts r (oldest (is_of_block r.head.frame r.head.block) counted))
    → HoldsBlocks s after (counted_behind counts r counted) first
blocks-hold s before after counted first r b new counts holds frame_is block_is number_is last_is blocks_are new_holds =
    let now = counted_behind counts r counted in
    let n = before.number in
    let H : ℕ → ℕ → Type 0 =
    λ f j. HoldsBlock s new (held_behind counts r (filter (is_of_block f j) counted)) (first_behind counts r (oldest (is_of_block f j) counted)) in
    let here : H n b = subst (H n) block_is (subst (λ (f : ℕ). H f r.head.block) frame_is new_holds) in
    let own : is_of_block n b r ≡ true = and_from (r.head.frame == n) (r.head.block == b) (eq-eqb r.head.frame n frame_is) (eq-eqb r.head.block b block_is) in
    let Each : ℕ → Type 0 = λ f. (j : ℕ) (block : Block) → slice_get after.blocks j ≡ Some block → HoldsBlockOf s now f j block in
    let each : Each n = λ j block e.
    elim (set-get before.blocks b j new block (ap (λ (l : List Block). slice_get l j) (sym blocks_are) ∙ e)) [
      | inl this ↦
          let P : ℕ → Block → Type 0 = λ i x. HoldsBlockOf s now n i x in
          subst (λ (x : Block). P j x) (sym this.1) (subst (λ (i : ℕ). P i new) (sym this.0) (own-holds s counted n b counts r new own here))
      | inr other ↦
          let miss : is_of_block n j r ≡ false =
          and_right (r.head.frame == n) (r.head.block == j) (ne_eqb r.head.block j (λ e'. other.0 (sym e' ∙ block_is))) in
          other-holds s counted n j counts r block miss (holds.blocks j block other.1)
    ] in
    record { last = last_is ∙ holds.last; blocks = subst Each (sym number_is) each }

-- a block that didn't become whole leaves the frame's image as it was
pub frame-holds : (s : StreamSettings) (before after : Frame) (counted : List Received) (first r : Received) (v : Added)
    → HoldsFrame s before counted first → HoldsBlocks s after (counted_behind (is_counting v) r counted) first
    → r.head.frame ≡ before.number → r.head.block ≤ r.head.last_block → after.number ≡ before.number → after.image.items ≡ before.image.items
    → v ≡ block_verdict before.last_block r (filter (is_of_block r.head.frame r.head.block) counted) (oldest (is_of_block r.head.frame r.head.block) counted)
    → (v ≡ BlockWhole → ⊥) → HoldsFrame s after (counted_behind (is_counting v) r counted) first
frame-holds s before after counted first r v was holds frame_is within number_is image_is v_is other =
    let last = first.head.last_block in
    let Image : Bool → Type 0 = λ counts.
    0 < last → is_frame_whole (counted_behind counts r counted) after.number last ≡ true
    → payloads s (counted_behind counts r counted) after.number (last + 1) ≡ Some after.image.items in
    record {
      holds = holds;
      image = elim (cases_Bool (is_counting v)) [
        | inr not_counted ↦
            let same : Image false = λ several whole.
            ap (λ (n : ℕ). payloads s counted n (last + 1)) number_is
            ∙ was.image several (ap (λ (n : ℕ). is_frame_whole counted n last) (sym number_is) ∙ whole)
            ∙ ap (λ (l : List ℕ). Some l) (sym image_is) in
            subst Image (sym not_counted) same
        | inl counts ↦
            let held = filter (is_of_block r.head.frame r.head.block) counted in
            let o = oldest (is_of_block r.head.frame r.head.block) counted in
            let whole = has_all (r ∷ held) (Some (first_or r o)) in
            let found = counted-same before.last_block r held o (ap is_counting (sym v_is) ∙ counts) in
            let not_whole : whole ≡ false = made-other whole (λ e. other (v_is ∙ found.1 ∙ e)) in
            let none : Image true = λ several frame_whole.
            let mine : is_frame_whole (r ∷ counted) r.head.frame last ≡ true =
            ap (λ (n : ℕ). is_frame_whole (r ∷ counted) n last) (frame_is ∙ sym number_is) ∙ frame_whole in
            let in_it : r.head.block ≤ last = omega (arith, found.0, was.holds.last) in
            absurd (both_ways whole not_whole (sym (block_whole-with r counted) ∙ frame-block (r ∷ counted) r.head.frame last r.head.block mine in_it)) in
            subst Image (sym counts) none
      ];
    }

pub completed-counts : (counted : List Received) (f last : ℕ) → is_counting (completed counted f last) ≡ true
completed-counts counted f last = elim (cases_Bool (is_frame_whole counted f last)) [
  | inl whole ↦ ap is_counting (cond-true (is_frame_whole counted f last) FrameWhole BlockWhole whole)
  | inr not_whole ↦ ap is_counting (cond-false (is_frame_whole counted f last) FrameWhole BlockWhole not_whole)
]

-- ---- what its block's verdict gives

pub record TakenByBlock (s : StreamSettings) (before after : Frame) (counted : List Received) (first r : Received) (v : Added) : Type 0 where
  pub verdict :
      v
      ≡ block_verdict before.last_block r (filter (is_of_block r.head.frame r.head.block) counted)
      (oldest (is_of_block r.head.frame r.head.block) counted)
  pub within : r.head.block ≤ r.head.last_block
  pub blocks : HoldsBlocks s after (counted_behind (is_counting v) r counted) first

pub taken_by_block : (s : StreamSettings) (before after : Frame) (counted : List Received) (first r : Received) (head : VideoHead) (payload : List ℕ)
    (b : ℕ) (old new : Block) (v : Added)
    → HoldsFrame s before counted first → r.head.frame ≡ before.number → Brings s head payload r → IsVideoHead head → b ≡ head.block
    → slice_get before.blocks b ≡ Some old
    → ((held : List Received) (o : Option Received) → HoldsBlock s old held o → v ≡ block_verdict before.last_block r held o)
    → ((held : List Received) (o : Option Received) → HoldsBlock s old held o
    → HoldsBlock s new (held_behind (is_counting v) r held) (first_behind (is_counting v) r o))
    → after.number ≡ before.number → after.last_block ≡ before.last_block → after.blocks ≡ set before.blocks b new
    → TakenByBlock s before after counted first r v
taken_by_block s before after counted first r head payload b old new v was frame_is brings grammar b_is old_is verdict holds number_is last_is blocks_are =
    let e = brings.head_is in
    let block_is : r.head.block ≡ b = ap (λ (h : VideoHead). h.block) e ∙ sym b_is in
    let H : ℕ → ℕ → Type 0 = λ f j. HoldsBlockOf s counted f j old in
    let mine : H r.head.frame r.head.block =
    subst (λ (f : ℕ). H f r.head.block) (sym frame_is) (subst (H before.number) (sym block_is) (was.holds.blocks b old old_is)) in
    let held = filter (is_of_block r.head.frame r.head.block) counted in
    let o = oldest (is_of_block r.head.frame r.head.block) counted in
    record {
      verdict = verdict held o mine;
      within = omega (arith, grammar.block, ap (λ (h : VideoHead). h.block) e, ap (λ (h : VideoHead). h.last_block) e);
      blocks = blocks-hold s before after counted first r b new (is_counting v) was.holds frame_is block_is number_is last_is blocks_are (holds held o mine);
    }

pub taken-blocks : (s : StreamSettings) (before after : Frame) (counted : List Received) (first r : Received) (head : VideoHead) (payload : List ℕ)
    (b : ℕ) (old new : Block) (v : Added)
    → HoldsFrame s before counted first → r.head.frame ≡ before.number → Brings s head payload r → IsVideoHead head → b ≡ head.block
    → slice_get before.blocks b ≡ Some old
    → ((held : List Received) (o : Option Received) → HoldsBlock s old held o → v ≡ block_verdict before.last_block r held o)
    → ((held : List Received) (o : Option Received) → HoldsBlock s old held o
    → HoldsBlock s new (held_behind (is_counting v) r held) (first_behind (is_counting v) r o))
    → after.number ≡ before.number → after.last_block ≡ before.last_block → after.blocks ≡ set before.blocks b new
    → HoldsBlocks s after (counted_behind (is_counting v) r counted) first
taken-blocks s before after counted first r head payload b old new v was frame_is brings grammar b_is old_is verdict holds number_is last_is blocks_are =
    (taken_by_block s before after counted first r head payload b old new v was frame_is brings grammar b_is old_is verdict holds number_is last_is
    blocks_are).blocks

pub taken-holds : (s : StreamSettings) (before after : Frame) (counted : List Received) (first r : Received) (head : VideoHead) (payload : List ℕ)
    (b : ℕ) (old new : Block) (v : Added)
    → HoldsFrame s before counted first → r.head.frame ≡ before.number → Brings s head payload r → IsVideoHead head → b ≡ head.block
    → slice_get before.blocks b ≡ Some old
    → ((held : List Received) (o : Option Received) → HoldsBlock s old held o → v ≡ block_verdict before.last_block r held o)
    → ((held : List Received) (o : Option Received) → HoldsBlock s old held o
    → HoldsBlock s new (held_behind (is_counting v) r held) (first_behind (is_counting v) r o))
    → after.number ≡ before.number → after.last_block ≡ before.last_block → after.blocks ≡ set before.blocks b new
    → after.image.items ≡ before.image.items → (v ≡ BlockWhole → ⊥) → HoldsFrame s after (counted_behind (is_counting v) r counted) first
taken-holds s before after counted first r head payload b old new v was frame_is brings grammar b_is old_is verdict holds number_is last_is blocks_are image_is
    other =
    let by =
    taken_by_block s before after counted first r head payload b old new v was frame_is brings grammar b_is old_is verdict holds number_is last_is blocks_are in
    frame-holds s before after counted first r v was by.blocks frame_is by.within number_is image_is by.verdict other
