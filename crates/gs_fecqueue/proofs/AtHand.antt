-- The frame that a datagram makes whole has an image, which is at hand.
use Rattle.std.proofs.Common.{◌≡◌, ◌<◌, ◌≤◌, ◌+◌, ℕ, Bool, true, false, ◌&&◌, ◌||◌, not, List, ◌∷◌, Option, Some, None, refl, sym, ap, subst, ◌∙◌, arith, inl}
use Rattle.std.proofs.Common.{inr}
use Rattle.std.specs.Prelude.{◌==◌, nat_lt, is_some}
use Rattle.std.proofs.lemmas.Bool.{cases_Bool, cases_lt, cond-true, cond-false, or_left, not_from_false}
use Rattle.gs_rtp.specs.Stream.{StreamSettings}
use Rattle.gs_rtp.specs.declared.video.VideoHead.{VideoHead}
use Rattle.gs_rtp.specs.Video.{video_head}
use Rattle.gs_rtp.proofs.VideoReading.{video_head-some}
use Rattle.gs_frames.specs.declared.verdict.Added.TheVariants.{Foreign, Old, FrameWhole}
use Rattle.gs_frames.specs.Client.{ClientSettings, HasWindow, Arrival, Datagram}
use Rattle.gs_frames.specs.Received.{Received, carried_shard, of_session, received, taken, greatest, is_left}
use Rattle.gs_frames.specs.Verdict.{judged, counting, verdict}
use Rattle.gs_frames.specs.VerdictLaws.{image_of, MakesFrameWhole}
use Rattle.gs_frames.proofs.Verdicts.{by_received, IsJudged}
use Rattle.gs_frames.proofs.WholeFrames.{whole_blocks, frame_whole_exactly}
use Rattle.gs_frames.proofs.Counting.{greatest-new, greatest-kept}
use Rattle.gs_frames.proofs.SettledUp.{left-not_from, left-not_says}
use Rattle.gs_frames.proofs.Taken.{taken-some}
use Rattle.gs_fecqueue.specs.Standing.{is_at_hand}
use Rattle.gs_fecqueue.specs.QueueLaws.{HasImageAtHand, WholeFrameIsAtHand}
use Rattle.gs_fecqueue.proofs.Given.{old-verdict}

-- what is received is in the grammar
pub received-least : (s : StreamSettings) (bytes : List ℕ) (r : Received) → received s bytes ≡ Some r → 1 ≤ r.head.frame
unfolding received
received-least s bytes r e = of_head (video_head s.packet bytes) refl e
  where
    of_head : (o : Option VideoHead) → video_head s.packet bytes ≡ o → of_session s bytes o ≡ Some r → 1 ≤ r.head.frame
    of_head None head_is e = cc
    of_head (Some head) head_is e =
        let grammar = video_head-some s.packet bytes head head_is in
        let test = head.ssrc == s.ssrc in
        let one : Received = record { head = head; shard = carried_shard s.packet head bytes } in
        elim (cases_Bool test) [
          | inr other ↦ let none : None ≡ Some r = sym (cond-false test (Some one) None other) ∙ e in cc
          | inl own ↦
              let same : Some one ≡ Some r = sym (cond-true test (Some one) None own) ∙ e in
              let is : one ≡ r = cc in
              subst (λ (x : Received). 1 ≤ x.head.frame) is
              (subst (λ (h : VideoHead). 1 ≤ h.frame) grammar.1 grammar.0.head.frame_least)
        ]

-- a frame that isn't left isn't with one datagram more of it
still_open : (w : ℕ) (r : Received) (rs : List Received) → 1 ≤ w → is_left w rs r.head.frame ≡ false
    → is_left w (r ∷ rs) r.head.frame ≡ false
still_open w r rs least is_open =
    let f = r.head.frame in
    let near = left-not_says w rs f is_open in
    elim (cases_lt (greatest rs) f) [
      | inl more ↦ left-not_from w (r ∷ rs) f (omega (arith, greatest-new r rs more))
      | inr within ↦ left-not_from w (r ∷ rs) f (omega (arith, greatest-kept r rs within))
    ]

whole-open : (c : ClientSettings) (rs : List Received) (r : Received) → judged c.window r rs (counting c.window rs) ≡ FrameWhole
    → is_left c.window rs r.head.frame ≡ false
whole-open c rs r e = elim (cases_Bool (is_left c.window rs r.head.frame)) [
  | inr is_open ↦ is_open
  | inl left ↦ let no : Old (greatest rs) ≡ FrameWhole = sym (old-verdict c rs r left) ∙ e in cc
]

record HasImage (o : Option (List ℕ)) : Type 0 where
  image : List ℕ
  is : o ≡ Some image

has_image : (o : Option (List ℕ)) → is_some o ≡ true → HasImage o
has_image None e = cc
has_image (Some image) e = record { image = image; is = refl }

of_judged : (c : ClientSettings) (came : List Arrival) (bytes : List ℕ) → HasWindow c → IsJudged c came bytes → MakesFrameWhole c came bytes
    → verdict c came bytes ≡ FrameWhole → HasImageAtHand c came bytes
of_judged c came bytes has is makes e =
    let w = c.window in
    let rs = taken c came in
    let came_now = Datagram bytes ∷ came in
    let now = taken c came_now in
    let r = is.r in
    let f = r.head.frame in
    let both : Some makes.r ≡ Some r = sym makes.is_received ∙ is.is_received in
    let same : makes.r ≡ r = cc in
    let blocks : is_some (image_of c came_now f) ≡ true =
    ap (λ (x : Received). is_some (image_of c came_now x.head.frame)) (sym same) ∙ whole_blocks c came_now makes.r.head.frame ∙ makes.now in
    let image = has_image (image_of c came_now f) blocks in
    let is_open = still_open w r rs has.least (whole-open c rs r (sym is.verdict_is ∙ e)) in
    let open_now : is_left w now f ≡ false = ap (λ (l : List Received). is_left w l f) (taken-some c (Datagram bytes) came r is.is_received) ∙ is_open in
    record {
      r = r;
      is_received = is.is_received;
      least = received-least c.stream bytes r is.is_received;
      image = image.image;
      image_is = image.is;
      at_hand = or_left (not (is_left w now f)) (nat_lt 1 w && not (is_left w rs f)) (not_from_false (is_left w now f) open_now);
    }

pub whole_at_hand : WholeFrameIsAtHand
whole_at_hand c came bytes has e = elim (by_received c came bytes) [
  | inl is ↦ let no : Foreign is.why ≡ FrameWhole = sym is.foreign ∙ e in cc
  | inr is ↦ of_judged c came bytes has is ((frame_whole_exactly c came bytes).0 e) e
]
