use Rattle.std.proofs.Common.{◌≡◌, ◌∙◌, ℕ, Some, None, sym, ap}
use Rattle.gs_rtp.specs.declared.video.VideoHead.{VideoHead}
use Rattle.gs_rtp.specs.Video.{video_head}
use Rattle.gs_client_core.proofs.Told.{now_whole, head-received}
use Rattle.gs_client_core.proofs.tell.note_whole.Goals as goal

pub returns-in-Some : goal.returns-in-Some
returns-in-Some c = λ client came moved has packet queue whole told.
    let bytes = c.args.datagram.now in
    let is = now_whole client came bytes has whole in
    let some : c.read_video.result ≡ Some c.in-Some.head = c.in-Some.is in
    let both : Some c.in-Some.head ≡ Some is.at.r.head =
    sym some ∙ c.read_video.ensures ∙ ap (λ (n : ℕ). video_head n bytes) packet ∙ head-received client.stream bytes is.at.r is.at.is_received in
    let same : c.in-Some.head ≡ is.at.r.head = cc in
    c.note_frame.ensures client came bytes moved has packet queue told is (ap (λ (h : VideoHead). h.frame) same)

pub returns-in-None : goal.returns-in-None
returns-in-None c = λ client came moved has packet queue whole told.
    let bytes = c.args.datagram.now in
    let is = now_whole client came bytes has whole in
    let none : c.read_video.result ≡ None = c.in-None.is in
    let no : None ≡ Some is.at.r.head =
    sym none ∙ c.read_video.ensures ∙ ap (λ (n : ℕ). video_head n bytes) packet ∙ head-received client.stream bytes is.at.r is.at.is_received in
    cc
