use Rattle.std.proofs.Common.{◌≡◌, ◌+◌, ◌-◌, ◌∙◌, ℕ, take, drop, Some, None, refl, sym, ap, arith}
use Rattle.gs_frames.specs.Image.{Frame, frame_of}
use Rattle.gs_frames.specs.Shards.{payload_of}
use Rattle.gs_frames.specs.Received.{taken}
use Rattle.gs_frames.specs.VerdictLaws.{image_of}
use Rattle.gs_fecqueue.specs.Standing.{is_at_hand, all_but_last}
use Rattle.gs_client_core.proofs.Units.{has_image, unit_is}
use Rattle.gs_client_core.proofs.hand.unit_of.Goals as goal

pub returns-in-Some : goal.returns-in-Some
returns-in-Some c = λ client came h packet queue ready e.
    let held : Frame = record { kind = h.kind; unit = h.unit } in
    let own = has_image client came h.frame held ready.is_complete in
    let image : c.image-image.result.now ≡ own.image =
    c.image-image.ensures client came own.image queue
    (ap (is_at_hand client.window (taken client (all_but_last came)) (taken client came)) e ∙ ready.at_hand)
    (ap (image_of client came) e ∙ own.image_is) in
    let size : c.args.packet - 16 ≡ payload_of client.stream = ap (λ (n : ℕ). n - 16) packet in
    let read = sym c.in-Some.ensures.is_image ∙ ap (frame_of (c.args.packet - 16)) image ∙ ap (λ (n : ℕ). frame_of n own.image) size ∙ own.read in
    let less : (8 + c.in-Some.head.length) - 8 ≡ c.in-Some.head.length = omega arith in
    unit_is c.args.frame c.in-Some.head.kind _ h _ e read refl (ap (λ (n : ℕ). take n (drop 8 c.image-image.result.now)) less)

pub returns-in-None : goal.returns-in-None
returns-in-None c = λ client came h packet queue ready e.
    let held : Frame = record { kind = h.kind; unit = h.unit } in
    let own = has_image client came h.frame held ready.is_complete in
    let image : c.image-image.result.now ≡ own.image =
    c.image-image.ensures client came own.image queue
    (ap (is_at_hand client.window (taken client (all_but_last came)) (taken client came)) e ∙ ready.at_hand)
    (ap (image_of client came) e ∙ own.image_is) in
    let size : c.args.packet - 16 ≡ payload_of client.stream = ap (λ (n : ℕ). n - 16) packet in
    let no : None ≡ Some held =
    sym c.in-None.ensures ∙ ap (frame_of (c.args.packet - 16)) image ∙ ap (λ (n : ℕ). frame_of n own.image) size ∙ own.read in
    cc
