use Rattle.std.proofs.Common.{◌≡◌, ◌<◌, ◌≤◌, ◌+◌, ◌-◌, ℕ, suc, Bool, true, false, List, ◌∷◌, length, get_or, set, Some, refl, sym, ap, subst, ◌∙◌, arith, rules}
use Rattle.std.specs.List.{filter, slice_get}
use Rattle.std.proofs.lemmas.List.{length-set}
use Rattle.std.proofs.lemmas.Option.{slice_get-get_or}
use Rattle.gs_rtp.specs.Stream.{StreamSettings}
use Rattle.gs_frames.specs.declared.verdict.Added.{Added}
use Rattle.gs_frames.specs.declared.verdict.Added.TheVariants.{BlockWhole, FrameWhole}
use Rattle.gs_frames.specs.Shards.{payload_of}
use Rattle.gs_frames.specs.Received.{Received, oldest, is_of_block}
use Rattle.gs_frames.specs.Verdict.{is_counting}
use Rattle.gs_fecqueue.specs.declared.block.Block.{Block}
use Rattle.gs_fecqueue.specs.declared.frame.Frame.{Frame}
use Rattle.gs_fecqueue.specs.Holding.{HoldsBlock, Brings}
use Rattle.gs_fecqueue.specs.BlockVerdict.{block_verdict}
use Rattle.gs_fecqueue.specs.FrameHolding.{HoldsBlockOf, HoldsBlocks, HoldsFrame, frame_verdict, counted_behind, completed}
use Rattle.gs_fecqueue.proofs.FrameTaking.{lifted, lifted-other, frame_verdict-is, counted-same, completed-counts, TakenByBlock, taken_by_block, taken-blocks}
use Rattle.gs_fecqueue.proofs.FrameTaking.{taken-holds}
use Rattle.gs_fecqueue.proofs.frame.Frame.take.Goals as goal

-- the verdict of a datagram whose block didn't become whole
verdict-other : (s : StreamSettings) (before after : Frame) (counted : List Received) (first r : Received) (v : Added)
    → HoldsFrame s before counted first → TakenByBlock s before after counted first r v → (v ≡ BlockWhole → ⊥) → v ≡ frame_verdict first r counted
verdict-other s before after counted first r v was by other =
    let done = completed (r ∷ counted) r.head.frame r.head.last_block in
    sym (frame_verdict-is first r counted before.last_block was.holds.last by.within
    ∙ ap (λ (x : Added). lifted x done) (sym by.verdict) ∙ lifted-other v done other)

-- and of one whose block did
verdict-whole : (s : StreamSettings) (before after : Frame) (counted : List Received) (first r : Received) (v done : Added)
    → HoldsFrame s before counted first → TakenByBlock s before after counted first r v → v ≡ BlockWhole → r.head.frame ≡ before.number
    → done ≡ completed (counted_behind (is_counting v) r counted) before.number first.head.last_block → done ≡ frame_verdict first r counted
verdict-whole s before after counted first r v done was by whole frame_is done_is =
    let counts : is_counting v ≡ true = ap is_counting whole in
    let held = filter (is_of_block r.head.frame r.head.block) counted in
    let o = oldest (is_of_block r.head.frame r.head.block) counted in
    let same = (counted-same before.last_block r held o (ap is_counting (sym by.verdict) ∙ counts)).0 in
    let last : first.head.last_block ≡ r.head.last_block = sym was.holds.last ∙ same in
    done_is
    ∙ ap (λ (b : Bool). completed (counted_behind b r counted) before.number first.head.last_block) counts
    ∙ ap (λ (n : ℕ). completed (r ∷ counted) n first.head.last_block) (sym frame_is)
    ∙ ap (completed (r ∷ counted) r.head.frame) last
    ∙ sym (frame_verdict-is first r counted before.last_block was.holds.last by.within
    ∙ ap (λ (x : Added). lifted x (completed (r ∷ counted) r.head.frame r.head.last_block)) (sym by.verdict ∙ whole))

pub returns-in_default-clause-verdict : goal.returns-in_default-clause-verdict
returns-in_default-clause-verdict c = λ s counted first r was frame_is brings.
    let frame = c.args.self.now in
    let four : length frame.blocks ≡ 4 = search rules in
    let old = get_or frame.blocks c.from.result c.index-self-from.result in
    let there : slice_get frame.blocks c.from.result ≡ Some old = slice_get-get_or frame.blocks c.from.result c.index-self-from.result (omega arith) in
    let by = taken_by_block s frame
    (record frame { blocks = set frame.blocks c.from.result c.take.new.self; four = length-set frame.blocks c.from.result c.take.new.self ∙ frame.four })
    counted first r c.args.head.now
    c.args.payload.now c.from.result old c.take.new.self c.take.result was frame_is brings c.requires.grammar c.from.ensures there
    (λ held o h. c.take.ensures.verdict s held o r h brings) (λ held o h. c.take.ensures.holds s held o r h brings) refl refl refl in
    verdict-other s frame (record frame {
      blocks = set frame.blocks c.from.result c.take.new.self;
      four = length-set frame.blocks c.from.result c.take.new.self
          ∙ frame.four;
    }) counted first r c.take.result was by
    c.in_default.not-BlockWhole

pub returns-in_default-clause-holds : goal.returns-in_default-clause-holds
returns-in_default-clause-holds c = λ s counted first r was frame_is brings.
    let frame = c.args.self.now in
    let four : length frame.blocks ≡ 4 = search rules in
    let old = get_or frame.blocks c.from.result c.index-self-from.result in
    let there : slice_get frame.blocks c.from.result ≡ Some old = slice_get-get_or frame.blocks c.from.result c.index-self-from.result (omega arith) in
    taken-holds s frame _ counted first r c.args.head.now
    c.args.payload.now c.from.result old c.take.new.self c.take.result was frame_is brings c.requires.grammar c.from.ensures there
    (λ held o h. c.take.ensures.verdict s held o r h brings) (λ held o h. c.take.ensures.holds s held o r h brings) refl refl refl refl
    c.in_default.not-BlockWhole

pub returns-in-BlockWhole-clause-verdict : goal.returns-in-BlockWhole-clause-verdict
returns-in-BlockWhole-clause-verdict c = λ s counted first r was frame_is brings.
    let frame = c.args.self.now in
    let four : length frame.blocks ≡ 4 = search rules in
    let old = get_or frame.blocks c.from.result c.index-self-from.result in
    let mid = record frame {
      blocks = set frame.blocks c.from.result c.take.new.self;
      four = length-set frame.blocks c.from.result c.take.new.self
          ∙ frame.four;
    } in
    let there : slice_get frame.blocks c.from.result ≡ Some old = slice_get-get_or frame.blocks c.from.result c.index-self-from.result (omega arith) in
    let by = taken_by_block s frame mid counted first r c.args.head.now
    c.args.payload.now c.from.result old c.take.new.self c.take.result was frame_is brings c.requires.grammar c.from.ensures there
    (λ held o h. c.take.ensures.verdict s held o r h brings) (λ held o h. c.take.ensures.holds s held o r h brings) refl refl refl in
    let size : payload_of s ≡ length c.args.payload.now = sym brings.size in
    let whole : c.take.result ≡ BlockWhole = search rules in
    let done = (c.complete.ensures.holds s (counted_behind (is_counting c.take.result) r counted) first size
    (taken-blocks s frame _ counted first r c.args.head.now
    c.args.payload.now c.from.result old c.take.new.self c.take.result was frame_is brings c.requires.grammar c.from.ensures there
    (λ held o h. c.take.ensures.verdict s held o r h brings) (λ held o h. c.take.ensures.holds s held o r h brings) refl refl refl)).0 in
    verdict-whole s frame mid counted first r c.take.result c.complete.result was by whole frame_is done

pub returns-in-BlockWhole-clause-holds : goal.returns-in-BlockWhole-clause-holds
returns-in-BlockWhole-clause-holds c = λ s counted first r was frame_is brings.
    let frame = c.args.self.now in
    let four : length frame.blocks ≡ 4 = search rules in
    let old = get_or frame.blocks c.from.result c.index-self-from.result in
    let there : slice_get frame.blocks c.from.result ≡ Some old = slice_get-get_or frame.blocks c.from.result c.index-self-from.result (omega arith) in
    let size : payload_of s ≡ length c.args.payload.now = sym brings.size in
    let whole : c.take.result ≡ BlockWhole = search rules in
    let counted_now = counted_behind (is_counting c.take.result) r counted in
    let done = c.complete.ensures.holds s counted_now first size
    (taken-blocks s frame _ counted first r c.args.head.now
    c.args.payload.now c.from.result old c.take.new.self c.take.result was frame_is brings c.requires.grammar c.from.ensures there
    (λ held o h. c.take.ensures.verdict s held o r h brings) (λ held o h. c.take.ensures.holds s held o r h brings) refl refl refl) in
    let counts : is_counting c.take.result ≡ is_counting c.complete.result =
    ap is_counting whole ∙ sym (ap is_counting done.0 ∙ completed-counts counted_now frame.number first.head.last_block) in
    let Holds : Bool → Type 0 = λ b. HoldsFrame s c.complete.new.self (counted_behind b r counted) first in
    subst Holds counts done.1
