use Rattle.std.proofs.Common.{◌≡◌, ◌<◌, ◌≤◌, ◌+◌, ◌-◌, ℕ, suc, Bool, true, false, List, length, take, Some, refl, sym, ap, subst, ◌∙◌, arith, rules}
use Rattle.std.specs.List.{flat_map, list_all, range_with_len}
use Rattle.std.proofs.lemmas.Bool.{cond-true, cond-false, both_ways}
use Rattle.gs_rtp.specs.Stream.{StreamSettings}
use Rattle.gs_frames.specs.declared.verdict.Added.TheVariants.{BlockWhole, FrameWhole}
use Rattle.gs_frames.specs.Shards.{payload_of}
use Rattle.gs_frames.specs.Received.{Received}
use Rattle.gs_frames.specs.Verdict.{is_block_whole, is_frame_whole}
use Rattle.gs_frames.specs.Complete.{payloads}
use Rattle.gs_fecqueue.specs.declared.frame.Frame.{Frame}
use Rattle.gs_fecqueue.specs.Holding.{data_of_block}
use Rattle.gs_fecqueue.specs.FrameHolding.{is_whole_room, HoldsBlocks, HoldsFrame, completed}
use Rattle.gs_fecqueue.proofs.Frames.{all_whole, range-each, payloads-held}
use Rattle.gs_fecqueue.proofs.frame.Frame.complete.Goals as goal

-- whether the frame is whole
whole-is : (s : StreamSettings) (frame : Frame) (counted : List Received) (first : Received) (result : Bool) → length frame.blocks ≡ 4 → frame.last_block < 4
    → HoldsBlocks s frame counted first → result ≡ list_all is_whole_room (take (frame.last_block + 1) frame.blocks)
    → is_frame_whole counted frame.number first.head.last_block ≡ result
whole-is s frame counted first result four within holds is =
    ap (λ (n : ℕ). is_frame_whole counted frame.number n) (sym holds.last)
    ∙ sym (all_whole s counted frame.number 0 (frame.last_block + 1) frame.blocks (omega arith)
    (λ b i block e at. let same : b ≡ i = omega arith in
    holds.blocks i block (ap (λ (n : ℕ). Rattle.std.specs.List.slice_get frame.blocks n) (sym same) ∙ e)))
    ∙ sym is

pub returns-then-not-is_whole-clause-holds : goal.returns-then-not-is_whole-clause-holds
returns-then-not-is_whole-clause-holds c = λ s counted first size holds.
    let frame = c.args.self.now in
    let no : is_frame_whole counted frame.number first.head.last_block ≡ false =
    whole-is s frame counted first c.is_whole.result (search rules) frame.last holds c.is_whole.ensures ∙ search rules in (
      sym (cond-false (is_frame_whole counted frame.number first.head.last_block) FrameWhole BlockWhole no),
      record { holds = holds; image = λ several whole. absurd (both_ways (is_frame_whole counted frame.number first.head.last_block) no whole) },
    )

pub returns-then-self-eq0-clause-holds : goal.returns-then-self-eq0-clause-holds
returns-then-self-eq0-clause-holds c = λ s counted first size holds.
    let frame = c.args.self.now in
    let whole : is_frame_whole counted frame.number first.head.last_block ≡ true =
    whole-is s frame counted first c.is_whole.result (search rules) frame.last holds c.is_whole.ensures ∙ search rules in (
      sym (cond-true (is_frame_whole counted frame.number first.head.last_block) FrameWhole BlockWhole whole),
      record { holds = holds; image = λ several w. absurd (omega (arith, holds.last, c.if-self-eq0.true)) },
    )

pub returns-clause-holds : goal.returns-clause-holds
returns-clause-holds c = λ s counted first size holds.
    let frame = c.args.self.now in
    let n = first.head.last_block + 1 in
    let whole : is_frame_whole counted frame.number first.head.last_block ≡ true =
    whole-is s frame counted first c.is_whole.result (search rules) frame.last holds c.is_whole.ensures ∙ search rules in
    let held = payloads-held s counted frame.number n frame.blocks (omega (arith, holds.last, frame.last))
    (λ b i block e at. let same : b ≡ i = omega arith in
    holds.blocks i block (ap (λ (n : ℕ). Rattle.std.specs.List.slice_get frame.blocks n) (sym same) ∙ e))
    (λ b h. range-each (is_block_whole counted frame.number) 0 n b whole (omega arith) (omega arith)) in
    let At : ℕ → ℕ → List ℕ = λ z m. flat_map (data_of_block z) (take (m + 1) frame.blocks) in
    let image : c.join.new.image.items ≡ At (payload_of s) first.head.last_block =
    c.join.ensures.joined ∙ ap (At c.args.size) (c.from.ensures ∙ holds.last) ∙ ap (λ (z : ℕ). At z first.head.last_block) (sym size) in (
      sym (cond-true (is_frame_whole counted frame.number first.head.last_block) FrameWhole BlockWhole whole),
      record { holds = record { last = holds.last; blocks = holds.blocks }; image = λ several w. held ∙ ap (λ (l : List ℕ). Some l) (sym image) },
    )
