use Rattle.std.proofs.Common.{◌≡◌, ◌≤◌, ◌+◌, ℕ, length, Some, refl, sym, ap, subst, ◌∙◌, arith, rules}
use Rattle.gs_rtp.specs.declared.video.VideoHead.{VideoHead}
use Rattle.gs_rtp.specs.Video.{IsVideoHead, video_head}
use Rattle.gs_rtp.proofs.VideoReading.{video_head-some}
use Rattle.gs_fecqueue.proofs.queue.Queue.head_of.Goals as goal

pub returns-then-head-self-clause-grammar : goal.returns-then-head-self-clause-grammar
returns-then-head-self-clause-grammar c =
    let bytes = c.args.datagram.now in
    let e : video_head c.args.self.now.packet bytes ≡ Some c.in-Some.head = search rules in
    let is = video_head-some c.args.self.now.packet bytes c.in-Some.head e in
    let Is : VideoHead → Type 0 = IsVideoHead in
    subst Is is.1 is.0.head
