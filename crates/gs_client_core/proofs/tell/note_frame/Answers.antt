use Rattle.std.proofs.Common.{◌≡◌, ◌∷◌, ◌∙◌, ◌-◌, ℕ, refl, sym, ap}
use Rattle.gs_frames.specs.Client.{Datagram}
use Rattle.gs_frames.specs.Image.{frame_of}
use Rattle.gs_frames.specs.Shards.{payload_of}
use Rattle.gs_frames.specs.Received.{taken}
use Rattle.gs_frames.specs.VerdictLaws.{image_of}
use Rattle.gs_fecqueue.specs.Standing.{is_at_hand}
use Rattle.gs_client_core.proofs.Told.{whole-unread, whole-noted}
use Rattle.gs_client_core.proofs.tell.note_frame.Goals as goal

pub returns-in-Some : goal.returns-in-Some
returns-in-Some c = λ client came bytes moved has packet queue told is e.
    let now = Datagram bytes ∷ came in
    let image : c.image.result.now ≡ is.at.image =
    c.image.ensures client now is.at.image queue
    (ap (is_at_hand client.window (taken client came) (taken client now)) e ∙ is.at.at_hand) (ap (image_of client now) e ∙ is.at.image_is) in
    let size : c.args.packet - 16 ≡ payload_of client.stream = ap (λ (n : ℕ). n - 16) packet in
    let read =
    ap (λ (n : ℕ). frame_of n is.at.image) (sym size) ∙ ap (frame_of (c.args.packet - 16)) (sym image) ∙ c.in-Some.ensures.is_image in
    whole-noted c.args.depack.now c.note.new.self client came bytes moved c.args.frame c.in-Some.image.kind _ is e told read refl
    (λ given h handing done kind. c.note.ensures client now given h has handing done kind)

pub returns-in-None : goal.returns-in-None
returns-in-None c = λ client came bytes moved has packet queue told is e.
    let now = Datagram bytes ∷ came in
    let image : c.image.result.now ≡ is.at.image =
    c.image.ensures client now is.at.image queue
    (ap (is_at_hand client.window (taken client came) (taken client now)) e ∙ is.at.at_hand) (ap (image_of client now) e ∙ is.at.image_is) in
    let size : c.args.packet - 16 ≡ payload_of client.stream = ap (λ (n : ℕ). n - 16) packet in
    let read =
    ap (λ (n : ℕ). frame_of n is.at.image) (sym size) ∙ ap (frame_of (c.args.packet - 16)) (sym image) ∙ c.in-None.ensures in
    whole-unread c.args.depack.now client came bytes moved is told read
