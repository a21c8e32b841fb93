use Rattle.std.proofs.Common.{◌≡◌, ◌≢◌, ◌<◌, ◌≤◌, ◌+◌, ◌-◌, ℕ, List, length, Option, Some, None, refl, sym, ap, subst, ◌∙◌, arith, rules}
use Rattle.std.specs.List.{slice_get}
use Rattle.std.proofs.lemmas.Option.{slice_get_read, slice_get_within}
use Rattle.gs_frames.specs.Shards.{payload_of}
use Rattle.gs_fecqueue.specs.declared.frame.Frame.{Frame}
use Rattle.gs_fecqueue.specs.FrameHolding.{image_held}
use Rattle.gs_fecqueue.specs.Standing.{IsAt, IsAmong}
use Rattle.gs_fecqueue.proofs.Images.{image-come, image-held}
use Rattle.gs_fecqueue.proofs.queue.Queue.image.Goals as goal

pub returns-in-None : goal.returns-in-None
returns-in-None c = λ s came image stands hand is.
    let none : IsAmong c.args.self.now.frames.items c.args.frame → ⊥ = c.in-None.ensures in
    absurd (none (stands.at_hand c.args.frame hand (image-come s came c.args.frame image is)))

pub returns-in-Some : goal.returns-in-Some
returns-in-Some c = λ s came image stands hand is.
    let at : IsAt c.args.self.now.frames.items c.in-Some.place c.args.frame = c.in-Some.ensures in
    let q = c.args.self.now in
    let frame = c.index.result.now in
    let there : slice_get q.frames.items c.in-Some.place ≡ Some at.frame = at.here in
    let within : c.in-Some.place < length q.frames.items = slice_get_within q.frames.items c.in-Some.place at.frame at.here in
    let here : slice_get q.frames.items c.in-Some.place ≡ Some frame =
    slice_get_read q.frames.items (length q.frames.items) c.in-Some.place frame refl within c.index.ensures in
    let both : Some at.frame ≡ Some frame = sym there ∙ here in
    let same : at.frame ≡ frame = cc in
    let number : frame.number ≡ c.args.frame = ap (λ (x : Frame). x.number) (sym same) ∙ at.number_is in
    let least = stands.least c.args.frame (image-come s came c.args.frame image is) in
    let held = stands.each c.in-Some.place frame here (omega (arith, number, least)) in
    let size : c.payload_size.result ≡ payload_of s.stream = c.payload_size.ensures.is ∙ ap (λ (n : ℕ). n - 16) stands.packet in
    c.image.ensures ∙ ap (λ (n : ℕ). image_held n frame) size ∙ image-held s came frame c.args.frame image held number is
