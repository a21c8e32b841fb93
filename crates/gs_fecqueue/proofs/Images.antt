-- The image of a frame that is held.
use Rattle.std.proofs.Common.{◌≡◌, ◌≢◌, ◌<◌, ◌≤◌, ◌+◌, ℕ, Bool, true, false, List, length, Option, Some, None, refl, sym, ap, subst, ◌∙◌, ◌⊎◌, arith, inl, inr}
use Rattle.std.specs.Prelude.{◌==◌, is_some}
use Rattle.std.specs.List.{slice_get}
use Rattle.std.proofs.lemmas.Bool.{cases_eq, cond-true, cond-false, eq-eqb, ne_eqb}
use Rattle.gs_frames.specs.Client.{ClientSettings, Arrival}
use Rattle.gs_frames.specs.Shards.{payload_of}
use Rattle.gs_frames.specs.Received.{Received, taken, oldest, is_of_frame}
use Rattle.gs_frames.specs.Verdict.{counting, is_block_whole, is_frame_whole}
use Rattle.gs_frames.specs.VerdictLaws.{counting_of, are_whole, image_of}
use Rattle.gs_frames.specs.Complete.{payloads, image_behind}
use Rattle.gs_frames.proofs.WholeFrames.{whole_blocks}
use Rattle.gs_fecqueue.specs.declared.frame.Frame.{Frame}
use Rattle.gs_fecqueue.specs.FrameHolding.{first_data, image_held}
use Rattle.gs_fecqueue.specs.Standing.{HasFrameCome, IsHeld}
use Rattle.gs_fecqueue.proofs.Frames.{range-each, payloads-one}

-- something came of a frame that has an image
pub image-come : (c : ClientSettings) (came : List Arrival) (f : ℕ) (image : List ℕ) → image_of c came f ≡ Some image → HasFrameCome (taken c came) f
image-come c came f image is = λ none.
    let no : None ≡ Some image = sym (ap (image_behind c.stream (counting_of c came) f) none) ∙ is in
    cc

-- what stands where its image is
pub image-held : (c : ClientSettings) (came : List Arrival) (frame : Frame) (f : ℕ) (image : List ℕ) → IsHeld c (taken c came) frame → frame.number ≡ f
    → image_of c came f ≡ Some image → image_held (payload_of c.stream) frame ≡ image
image-held c came frame f image held number is =
    let now = taken c came in
    let counted = counting c.window now in
    let s = c.stream in
    let first = held.first in
    let n = frame.number in
    let last = first.head.last_block in
    let mine : image_of c came n ≡ Some image = ap (image_of c came) number ∙ is in
    let found : payloads s counted n (last + 1) ≡ Some image = sym (ap (image_behind s counted n) held.first_is) ∙ mine in
    let whole : is_frame_whole counted n last ≡ true =
    sym (ap (are_whole counted n) held.first_is) ∙ sym (whole_blocks c came n) ∙ ap (λ (o : Option (List ℕ)). is_some o) mine in
    elim (cases_eq frame.last_block 0) [
      | inl one ↦
          let last_is : last ≡ 0 = sym held.holds.holds.last ∙ one in
          let block : is_block_whole counted n 0 ≡ true = range-each (is_block_whole counted n) 0 (last + 1) 0 whole (omega arith) (omega arith) in
          let four : 1 ≤ length frame.blocks = omega (arith, frame.four) in
          let here = payloads-one s counted n frame.blocks four
          (λ b i x e at. let same : b ≡ i = omega arith in
          held.holds.holds.blocks i x (ap (slice_get frame.blocks) (sym same) ∙ e)) block in
          let one_is : 1 ≡ last + 1 = omega arith in
          let again : payloads s counted n 1 ≡ Some image = ap (payloads s counted n) one_is ∙ found in
          let both : Some (first_data (payload_of s) frame.blocks) ≡ Some image = sym here ∙ again in
          cond-true (frame.last_block == 0) (first_data (payload_of s) frame.blocks) frame.image.items (eq-eqb frame.last_block 0 one) ∙ cc
      | inr several ↦
          let more : 0 < last = omega (arith, held.holds.holds.last) in
          let both : Some frame.image.items ≡ Some image = sym (held.holds.image more whole) ∙ found in
          cond-false (frame.last_block == 0) (first_data (payload_of s) frame.blocks) frame.image.items (ne_eqb frame.last_block 0 several) ∙ cc
    ]
