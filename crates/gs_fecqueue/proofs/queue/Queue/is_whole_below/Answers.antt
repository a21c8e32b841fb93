use Rattle.std.proofs.Common.{◌≡◌, ◌<◌, ◌≤◌, ◌+◌, ◌-◌, ◌%◌, ℕ, Bool, true, false, ◌&&◌, List, ◌∷◌, length, take, Option, Some, None, refl, sym, ap, subst, ◌∙◌}
use Rattle.std.proofs.Common.{arith, rules}
use Rattle.std.specs.Prelude.{nat_lt}
use Rattle.std.specs.List.{list_all, slice_get}
use Rattle.std.proofs.lemmas.Bool.{lt-ltb}
use Rattle.std.proofs.lemmas.Option.{slice_get_read}
use Rattle.gs_frames.specs.Client.{ClientSettings}
use Rattle.gs_frames.specs.Received.{Received, greatest, oldest, is_of_frame}
use Rattle.gs_frames.specs.Verdict.{counting, is_frame_whole}
use Rattle.gs_frames.specs.VerdictLaws.{are_whole}
use Rattle.gs_fecqueue.specs.declared.frame.Frame.{Frame}
use Rattle.gs_fecqueue.specs.FrameHolding.{is_whole_room}
use Rattle.gs_fecqueue.specs.Moves.{is_whole_in, is_whole_below}
use Rattle.gs_fecqueue.specs.Standing.{IsHeld}
use Rattle.gs_fecqueue.proofs.Frames.{all_whole}
use Rattle.gs_fecqueue.proofs.queue.Queue.is_whole_below.Goals as goal

-- whether a frame that is held is whole
held-whole : (c : ClientSettings) (now : List Received) (frame : Frame) (f : ℕ) (result : Bool) → IsHeld c now frame → frame.number ≡ f
    → length frame.blocks ≡ 4 → result ≡ list_all is_whole_room (take (frame.last_block + 1) frame.blocks) → result ≡ is_whole_in c now f
held-whole c now frame f result held number four is =
    let counted = counting c.window now in
    let first = held.first in
    let n = frame.number in
    is
    ∙ all_whole c.stream counted n 0 (frame.last_block + 1) frame.blocks (omega (arith, frame.last))
    (λ b i block e at. let same : b ≡ i = omega arith in
    held.holds.holds.blocks i block (ap (slice_get frame.blocks) (sym same) ∙ e))
    ∙ ap (λ (m : ℕ). is_frame_whole counted n m) held.holds.holds.last
    ∙ sym (ap (are_whole counted n) held.first_is)
    ∙ ap (λ (m : ℕ). are_whole counted m (oldest (is_of_frame m) now)) number

pub returns-then-frame-number : goal.returns-then-frame-number
returns-then-frame-number c = λ s before now stands.
    let q = c.args.self.now in
    let frame = c.index-frame.result.now in
    let number : frame.number ≡ q.greatest - c.args.below = c.if-frame-number.true ∙ ap (λ (n : ℕ). q.greatest - n) c.from-2.ensures in
    let f : ℕ = greatest now - c.args.below in
    let f_is : frame.number ≡ f = number ∙ ap (λ (n : ℕ). n - c.args.below) stands.is_greatest in
    let low : c.args.below < s.window = omega (arith, c.if-below-self.false, stands.window) in
    let few : c.args.below < greatest now = omega (arith, c.if-from-self.false, c.from.ensures, stands.is_greatest) in
    let there : slice_get q.frames.items c.place_of.result ≡ Some frame =
    slice_get_read q.frames.items (length q.frames.items) c.place_of.result frame refl
    (omega (arith, c.place_of.ensures.within, q.places, q.frames.ok.0)) c.index-frame.ensures in
    let held = stands.each c.place_of.result frame there (omega arith) in
    held-whole s now frame f c.is_whole.result held f_is frame.four c.is_whole.ensures
    ∙ sym (ap (λ (b : Bool). b && nat_lt c.args.below (greatest now) && is_whole_in s now f) (lt-ltb c.args.below s.window low)
    ∙ ap (λ (b : Bool). b && is_whole_in s now f) (lt-ltb c.args.below (greatest now) few))
