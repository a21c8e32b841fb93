-- What a queue gives for one more datagram: foreign, of a frame that was left, and taken.
use Rattle.std.proofs.Common.{◌≡◌, ◌≢◌, ◌<◌, ◌≤◌, ◌+◌, ◌-◌, ℕ, Bool, true, false, List, ◌∷◌, length, take, drop, Option, Some, None, Result, Ok, Err, refl, sym}
use Rattle.std.proofs.Common.{ap, subst, ◌∙◌, arith}
use Rattle.std.specs.Prelude.{nat_lt}
use Rattle.std.proofs.lemmas.Bool.{cond-false, le-ltb}
use Rattle.std.proofs.lemmas.List.{take_rest}
use Rattle.gs_rtp.specs.declared.video.VideoHead.{VideoHead}
use Rattle.gs_rtp.specs.Video.{IsVideoHead, video_head}
use Rattle.gs_frames.specs.declared.verdict.Added.{Added}
use Rattle.gs_frames.specs.declared.verdict.Added.TheVariants.{Foreign, Old}
use Rattle.gs_frames.specs.declared.verdict.Why.{Why}
use Rattle.gs_frames.specs.Client.{ClientSettings, Arrival, Datagram}
use Rattle.gs_frames.specs.Shards.{payload_of}
use Rattle.gs_frames.specs.Received.{Received, received, taken, greatest, is_left}
use Rattle.gs_frames.specs.Verdict.{judged, counting, verdict}
use Rattle.gs_frames.proofs.SettledUp.{left-from, left-not_from}
use Rattle.gs_fecqueue.specs.declared.moved.Moved.{Moved}
use Rattle.gs_fecqueue.specs.declared.queue.Queue.{Queue}
use Rattle.gs_fecqueue.specs.Holding.{Brings}
use Rattle.gs_fecqueue.specs.Moves.{moved_to, moved_behind, moved_of, moved_by}
use Rattle.gs_fecqueue.specs.Standing.{all_but_last, IsStanding, IsQueueOf}
use Rattle.gs_fecqueue.specs.QueueSteps.{head_or_why}
use Rattle.gs_fecqueue.proofs.Given.{received_with, stands-same, stands-old, old-verdict, foreign, own, brings-with, taken-with, taken-without, stands-behind}

-- what is to be shown
pub record AddGives (after : Queue) (c : ClientSettings) (came : List Arrival) (bytes : List ℕ) (what : Added) (moved : Option Moved) : Type 0 where
  pub what_is : what ≡ verdict c came bytes
  pub moved_is : moved ≡ moved_by c came bytes
  pub stands : IsQueueOf after c (Datagram bytes ∷ came)

-- by the client's settings
by_client : (q : Queue) (c : ClientSettings) (came : List Arrival) (bytes : List ℕ) (x : Result VideoHead Why) → IsQueueOf q c came
    → x ≡ head_or_why q.ssrc (video_head q.packet bytes) → head_or_why c.stream.ssrc (video_head c.stream.packet bytes) ≡ x
by_client q c came bytes x stands e =
    sym (e ∙ ap (λ (n : ℕ). head_or_why n (video_head q.packet bytes)) stands.ssrc
    ∙ ap (λ (n : ℕ). head_or_why c.stream.ssrc (video_head n bytes)) stands.packet)

pub gives-foreign : (q : Queue) (c : ClientSettings) (came : List Arrival) (bytes : List ℕ) (why : Why) → IsQueueOf q c came
    → Err why ≡ head_or_why q.ssrc (video_head q.packet bytes) → AddGives q c came bytes (Foreign why) None
gives-foreign q c came bytes why stands e =
    let is = foreign c came bytes (video_head c.stream.packet bytes) why refl (by_client q c came bytes (Err why) stands e) in
    record {
      what_is = is.verdict_is;
      moved_is = sym (ap (moved_of c (taken c came)) is.nothing);
      stands = stands-behind q c came bytes (taken c came) (taken-without c came bytes is.nothing)
          (stands-same q c (taken c (all_but_last came)) (taken c came) stands);
    }

pub gives-old : (q : Queue) (c : ClientSettings) (came : List Arrival) (bytes : List ℕ) (head : VideoHead) → IsQueueOf q c came
    → Ok head ≡ head_or_why q.ssrc (video_head q.packet bytes) → IsVideoHead head → head.frame + q.window ≤ q.greatest
    → AddGives q c came bytes (Old q.greatest) None
gives-old q c came bytes head stands e grammar old =
    let is = own c came bytes (video_head c.stream.packet bytes) head refl (by_client q c came bytes (Ok head) stands e) in
    let now = taken c came in
    let r = received_with c bytes head in
    let left = left-from c.window now head.frame (omega (arith, stands.window, stands.is_greatest)) in
    let least : 1 ≤ head.frame = grammar.frame_least in
    record {
      what_is = ap (λ (n : ℕ). Old n) stands.is_greatest ∙ sym (is.verdict_is ∙ old-verdict c now r left);
      moved_is = sym (ap (moved_of c now) is.received_is
          ∙ cond-false (nat_lt (greatest now) head.frame) (Some (moved_to c now head.frame)) None
          (le-ltb (greatest now) head.frame (omega (arith, stands.is_greatest))));
      stands = stands-behind q c came bytes (r ∷ now) (taken-with c came bytes r is.received_is)
          (stands-old q c (taken c (all_but_last came)) now r stands least left);
    }

pub gives-taken : (q after : Queue) (c : ClientSettings) (came : List Arrival) (bytes : List ℕ) (head : VideoHead) (size : ℕ) (what : Added)
    (moved : Option Moved)
    → IsQueueOf q c came → Ok head ≡ head_or_why q.ssrc (video_head q.packet bytes) → q.packet ≤ length bytes → q.greatest < head.frame + q.window
    → size ≡ q.packet - 16
    → ((before now : List Received) (r : Received) → IsStanding q c before now → is_left c.window now r.head.frame ≡ false
    → Brings c.stream head (take (length bytes - (length bytes - size)) (drop (length bytes - size) bytes)) r
    → (moved ≡ moved_behind c now r.head.frame) × (what ≡ judged c.window r now (counting c.window now)) × IsStanding after c now (r ∷ now))
    → AddGives after c came bytes what moved
gives-taken q after c came bytes head size what moved stands e room near size_is takes =
    let is = own c came bytes (video_head c.stream.packet bytes) head refl (by_client q c came bytes (Ok head) stands e) in
    let now = taken c came in
    let r = received_with c bytes head in
    let not_left = left-not_from c.window now head.frame (omega (arith, stands.window, stands.is_greatest)) in
    let size_of : size ≡ payload_of c.stream = size_is ∙ ap (λ (n : ℕ). n - 16) stands.packet in
    let Of : List ℕ → Type 0 = λ l. Brings c.stream head l r in
    let payload : take (length bytes - (length bytes - size)) (drop (length bytes - size) bytes) ≡ drop (length bytes - payload_of c.stream) bytes =
    take_rest bytes (length bytes - size) ∙ ap (λ (n : ℕ). drop (length bytes - n) bytes) size_of in
    let brings = subst Of (sym payload) (brings-with c bytes head (omega (arith, stands.packet))) in
    let all = takes (taken c (all_but_last came)) now r stands not_left brings in
    record {
      what_is = all.1 ∙ sym is.verdict_is;
      moved_is = all.0 ∙ sym (ap (moved_of c now) is.received_is);
      stands = stands-behind after c came bytes (r ∷ now) (taken-with c came bytes r is.received_is) all.2;
    }
