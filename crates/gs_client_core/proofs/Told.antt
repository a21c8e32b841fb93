-- A depack that was told what a datagram moved: whether the datagram's frame is to be noted, and that it is.
use Rattle.std.proofs.Common.{◌≡◌, ◌<◌, ◌≤◌, ◌+◌, ◌-◌, ℕ, Bool, true, false, not, List, [], ◌∷◌, Option, Some, None, refl, sym, ap, subst, ◌∙◌, arith, inl, inr}
use Rattle.std.specs.Prelude.{◌==◌, nat_lt, is_some}
use Rattle.std.specs.List.{find, range_with_len}
use Rattle.std.proofs.lemmas.Bool.{cases_Bool, cases_lt, cases_eq, cond-true, cond-false, lt-ltb}
use Rattle.gs_rtp.specs.Stream.{StreamSettings}
use Rattle.gs_rtp.specs.declared.video.VideoHead.{VideoHead}
use Rattle.gs_rtp.specs.Video.{video_head}
use Rattle.gs_frames.specs.declared.verdict.Added.TheVariants.{FrameWhole}
use Rattle.gs_frames.specs.Client.{ClientSettings, HasWindow, Arrival, Datagram}
use Rattle.gs_frames.specs.Image.{Frame, frame_of}
use Rattle.gs_frames.specs.Shards.{payload_of}
use Rattle.gs_frames.specs.Received.{Received, carried_shard, of_session, received, taken, greatest}
use Rattle.gs_frames.specs.Verdict.{verdict}
use Rattle.gs_frames.specs.VerdictLaws.{has_whole_blocks, image_of}
use Rattle.gs_frames.specs.Complete.{frame_in, complete, IsComplete}
use Rattle.gs_frames.specs.Handed.{Handed, handed}
use Rattle.gs_frames.specs.Asks.{lost_to, asked_by, newly_asked}
use Rattle.gs_frames.proofs.Counting.{NoneOf-above, complete-is, complete-none, greatest-kept}
use Rattle.gs_frames.proofs.Taken.{taken-some, taken-none}
use Rattle.gs_frames.proofs.WholeFrames.{whole_blocks, frame_whole_exactly, only_frame_whole, only_own_frame}
use Rattle.gs_fecqueue.specs.declared.moved.Moved.{Moved}
use Rattle.gs_fecqueue.specs.Moves.{moved_to, moved_behind, moved_of, moved_by}
use Rattle.gs_fecqueue.proofs.AtHand.{whole_at_hand}
use Rattle.gs_depack.specs.declared.depack.Depack.{Depack}
use Rattle.gs_depack.specs.Depack.{Handing}
use Rattle.gs_depack.proofs.Standing.{nothing-to_note, front-same}
use Rattle.gs_depack.proofs.Arrivals.{changes_nothing, completes_frame}
use Rattle.gs_client_core.specs.Steps.{IsArrivalTold, IsNowWhole}

-- ---- what moves nothing

not_more : (c : ClientSettings) (rs : List Received) (f : ℕ) → moved_behind c rs f ≡ None → f ≤ greatest rs
not_more c rs f e = elim (cases_lt (greatest rs) f) [
  | inr within ↦ within
  | inl more ↦
      let some : Some (moved_to c rs f) ≡ None =
      sym (cond-true (nat_lt (greatest rs) f) (Some (moved_to c rs f)) None (lt-ltb (greatest rs) f more)) ∙ e in
      cc
]

same_greatest : (c : ClientSettings) (came : List Arrival) (bytes : List ℕ) (o : Option Received) → received c.stream bytes ≡ o
    → moved_of c (taken c came) o ≡ None → greatest (taken c (Datagram bytes ∷ came)) ≡ greatest (taken c came)
same_greatest c came bytes None is e = ap (λ (l : List Received). greatest l) (taken-none c (Datagram bytes) came is)
same_greatest c came bytes (Some r) is e =
    ap (λ (l : List Received). greatest l) (taken-some c (Datagram bytes) came r is)
    ∙ greatest-kept r (taken c came) (not_more c (taken c came) r.head.frame e)

none_left : (c : ClientSettings) (came : List Arrival) (bytes : List ℕ) (o : Option Received) → received c.stream bytes ≡ o
    → moved_of c (taken c came) o ≡ None → newly_asked c (Datagram bytes) came ≡ None
none_left c came bytes None is e = ap (asked_by c (taken c came)) is
none_left c came bytes (Some r) is e =
    let rs = taken c came in
    let w = c.window in
    let f = r.head.frame in
    let within = not_more c rs f e in
    let none : (f - w) - (greatest rs - w) ≡ 0 = omega arith in
    let test : ℕ → Bool = λ k. not (is_some (complete c rs k)) in
    ap (asked_by c rs) is
    ∙ ap (λ (n : ℕ). lost_to (f - w) (find test (range_with_len ((greatest rs - w) + 1) n))) none

-- it asks for nothing
pub asks_nothing : (c : ClientSettings) (came : List Arrival) (bytes : List ℕ) → moved_by c came bytes ≡ None
    → newly_asked c (Datagram bytes) came ≡ None
asks_nothing c came bytes e = none_left c came bytes (received c.stream bytes) refl e

-- ---- no frame became complete

pub unnoted : (d : Depack) (c : ClientSettings) (came : List Arrival) (bytes : List ℕ) (moved : Option Moved) → IsArrivalTold d c came bytes moved
    → ((f : ℕ) → complete c (taken c (Datagram bytes ∷ came)) f ≡ complete c (taken c came) f)
    → Handing d c (Datagram bytes ∷ came) None (handed c came)
unnoted d c came bytes None told same =
    let handing = told.stands.handing in
    let now = Datagram bytes ∷ came in
    let e = same_greatest c came bytes (received c.stream bytes) refl told.nothing in
    let after = (changes_nothing d c came bytes told.stands e same).handing in
    let all : handed c now ≡ handed c came =
    after.are_given ∙ front-same c came now d.passed refl (λ f least within. same f) ∙ sym handing.are_given in
    subst (λ (hs : List Handed). Handing d c now None hs) all after
unnoted d c came bytes (Some moved) told same =
    let r = told.r in
    let rs = taken c came in
    let move = told.is_move in
    let f = r.head.frame in
    let above : greatest rs < f = omega (arith, move.from, move.to, move.rises) in
    nothing-to_note d c (Datagram bytes ∷ came) f (handed c came) told.handing (same f ∙ complete-none c rs f (NoneOf-above rs f above))

-- none was made whole
pub not_whole : (d : Depack) (c : ClientSettings) (came : List Arrival) (bytes : List ℕ) (moved : Option Moved) → IsArrivalTold d c came bytes moved
    → (verdict c came bytes ≡ FrameWhole → ⊥) → Handing d c (Datagram bytes ∷ came) None (handed c came)
not_whole d c came bytes moved told other = unnoted d c came bytes moved told (λ f. only_frame_whole c came bytes f other)

-- ---- one was made whole

-- the head that was received
pub head-received : (s : StreamSettings) (bytes : List ℕ) (r : Received) → received s bytes ≡ Some r → video_head s.packet bytes ≡ Some r.head
unfolding received
head-received s bytes r e = of_head (video_head s.packet bytes) refl e
  where
    of_head : (o : Option VideoHead) → video_head s.packet bytes ≡ o → of_session s bytes o ≡ Some r → video_head s.packet bytes ≡ Some r.head
    of_head None head_is e = cc
    of_head (Some head) head_is e =
        let test = head.ssrc == s.ssrc in
        let one : Received = record { head = head; shard = carried_shard s.packet head bytes } in
        elim (cases_Bool test) [
          | inr other ↦ let none : None ≡ Some r = sym (cond-false test (Some one) None other) ∙ e in cc
          | inl own ↦
              let same : Some one ≡ Some r = sym (cond-true test (Some one) None own) ∙ e in
              let is : one ≡ r = cc in
              head_is ∙ ap (λ (x : Received). Some x.head) is
        ]

none_of : (o : Option (List ℕ)) → is_some o ≡ false → o ≡ None
none_of None e = refl
none_of (Some image) e = cc

not_complete : (c : ClientSettings) (came : List Arrival) (f : ℕ) → has_whole_blocks c came f ≡ false → complete c (taken c came) f ≡ None
not_complete c came f e =
    complete-is c (taken c came) f
    ∙ ap (frame_in (payload_of c.stream)) (none_of (image_of c came f) (whole_blocks c came f ∙ e))

complete-read : (c : ClientSettings) (came : List Arrival) (f : ℕ) (image : List ℕ) → image_of c came f ≡ Some image
    → complete c (taken c came) f ≡ frame_of (payload_of c.stream) image
complete-read c came f image is = complete-is c (taken c came) f ∙ ap (frame_in (payload_of c.stream)) is

pub now_whole : (c : ClientSettings) (came : List Arrival) (bytes : List ℕ) → HasWindow c → verdict c came bytes ≡ FrameWhole
    → IsNowWhole c came bytes
now_whole c came bytes has e =
    let at = whole_at_hand c came bytes has e in
    let makes = (frame_whole_exactly c came bytes).0 e in
    let both : Some makes.r ≡ Some at.r = sym makes.is_received ∙ at.is_received in
    let same : makes.r ≡ at.r = cc in
    record {
      at = at;
      none_before = subst (λ (x : Received). complete c (taken c came) x.head.frame ≡ None) same
          (not_complete c came makes.r.head.frame makes.not_before);
    }

-- its image isn't a frame's
pub whole-unread : (d : Depack) (c : ClientSettings) (came : List Arrival) (bytes : List ℕ) (moved : Option Moved) (is : IsNowWhole c came bytes)
    → IsArrivalTold d c came bytes moved → frame_of (payload_of c.stream) is.at.image ≡ None
    → Handing d c (Datagram bytes ∷ came) None (handed c came)
whole-unread d c came bytes moved is told none =
    let now = taken c (Datagram bytes ∷ came) in
    let g = is.at.r.head.frame in
    let own : complete c now g ≡ complete c (taken c came) g =
    complete-read c (Datagram bytes ∷ came) g is.at.image is.at.image_is ∙ none ∙ sym is.none_before in
    unnoted d c came bytes moved told (λ f. elim (cases_eq g f) [
      | inl same ↦ subst (λ (k : ℕ). complete c now k ≡ complete c (taken c came) k) same own
      | inr other ↦ only_own_frame c came bytes is.at.r f is.at.is_received (λ e. other (sym e))
    ])

to_note : (d : Depack) (c : ClientSettings) (came : List Arrival) (bytes : List ℕ) (moved : Option Moved) (r : Received) → IsArrivalTold d c came bytes moved
    → received c.stream bytes ≡ Some r → 1 ≤ r.head.frame → complete c (taken c came) r.head.frame ≡ None
    → is_some (complete c (taken c (Datagram bytes ∷ came)) r.head.frame) ≡ true
    → Handing d c (Datagram bytes ∷ came) (Some r.head.frame) (handed c came)
to_note d c came bytes None r told is least none some =
    let within = not_more c (taken c came) r.head.frame (sym (ap (moved_of c (taken c came)) is) ∙ told.nothing) in
    completes_frame d c came bytes r told.stands is least within none some
to_note d c came bytes (Some moved) r told is least none some =
    let both : Some told.r ≡ Some r = sym told.is_move.is_received ∙ is in
    let same : told.r ≡ r = cc in
    subst (λ (x : Received). Handing d c (Datagram bytes ∷ came) (Some x.head.frame) (handed c came)) same told.handing

-- its image is a frame's, which is noted
pub whole-noted : (d a : Depack) (c : ClientSettings) (came : List Arrival) (bytes : List ℕ) (moved : Option Moved) (frame kind : ℕ) (held : Frame)
    (is : IsNowWhole c came bytes) → frame ≡ is.at.r.head.frame → IsArrivalTold d c came bytes moved
    → frame_of (payload_of c.stream) is.at.image ≡ Some held → held.kind ≡ kind
    → ((given : List Handed) (h : Frame) → Handing d c (Datagram bytes ∷ came) (Some frame) given
    → IsComplete c (taken c (Datagram bytes ∷ came)) frame h → h.kind ≡ kind → Handing a c (Datagram bytes ∷ came) None given)
    → Handing a c (Datagram bytes ∷ came) None (handed c came)
whole-noted d a c came bytes moved frame kind held is e told readable kind_is note =
    let now = taken c (Datagram bytes ∷ came) in
    let g = is.at.r.head.frame in
    let done : complete c now g ≡ Some held = complete-read c (Datagram bytes ∷ came) g is.at.image is.at.image_is ∙ readable in
    let some : is_some (complete c now g) ≡ true = ap (λ (o : Option Frame). is_some o) done in
    let handing = to_note d c came bytes moved is.at.r told is.at.is_received is.at.least is.none_before some in
    note (handed c came) held
    (subst (λ (f : ℕ). Handing d c (Datagram bytes ∷ came) (Some f) (handed c came)) (sym e) handing)
    (ap (complete c now) e ∙ done) kind_is
