-- What a queue stands for with a datagram that isn't taken, one of a frame that was left, and a reset.
use Rattle.std.proofs.Common.{◌≡◌, ◌≢◌, ◌<◌, ◌≤◌, ◌+◌, ◌-◌, ◌%◌, ◌⊎◌, ℕ, Bool, true, false, ◌&&◌, ◌||◌, not, List, [], ◌∷◌, ◌++◌, length, drop, Option, Some}
use Rattle.std.proofs.Common.{None, Result, Ok, Err, refl, sym, ap, subst, ◌∙◌, arith, inl, inr}
use Rattle.std.specs.Prelude.{◌==◌, nat_lt, nat_le, if◌then◌else◌}
use Rattle.std.specs.List.{slice_get, cons_option}
use Rattle.std.proofs.lemmas.Bool.{cases_eq, cases_Bool, cond-true, cond-false, eq-eqb, ne_eqb, eqb-true, or_cases, or_left, and_parts, not-true, not-false}
use Rattle.std.proofs.lemmas.Bool.{not_from_false}
use Rattle.std.proofs.lemmas.List.{length-drop}
use Rattle.gs_rtp.specs.Stream.{StreamSettings}
use Rattle.gs_rtp.specs.declared.video.VideoHead.{VideoHead}
use Rattle.gs_rtp.specs.Video.{video_head}
use Rattle.gs_frames.specs.declared.verdict.Added.{Added}
use Rattle.gs_frames.specs.declared.verdict.Added.TheVariants.{Foreign, Old}
use Rattle.gs_frames.specs.declared.verdict.Why.{Why}
use Rattle.gs_frames.specs.declared.verdict.Why.TheVariants.{Grammar, Ssrc}
use Rattle.gs_frames.specs.Client.{ClientSettings, Arrival, Datagram, Reset}
use Rattle.gs_frames.specs.Shards.{packet_header, payload_of, covered_header}
use Rattle.gs_frames.specs.Received.{Received, covered_of, carried_shard, of_session, received, taken, greatest, is_left, oldest, is_of_frame}
use Rattle.gs_frames.specs.Verdict.{is_counting, judged, counting, judged_of_session, judged_bytes, verdict}
use Rattle.gs_frames.proofs.Counting.{greatest-kept, oldest-none}
use Rattle.gs_frames.proofs.SettledUp.{greatest-grows, left-says, left-from, left-not_says, left-not_from}
use Rattle.gs_fecqueue.specs.declared.queue.Queue.{Queue}
use Rattle.gs_fecqueue.specs.declared.frame.Frame.{Frame}
use Rattle.gs_fecqueue.specs.Holding.{Brings}
use Rattle.gs_fecqueue.specs.Places.{kept_payload}
use Rattle.gs_fecqueue.specs.Moves.{moved_behind, moved_of, moved_by}
use Rattle.gs_fecqueue.specs.Standing.{is_at_hand, all_but_last, HasFrameCome, IsHeld, IsAt, IsAmong, IsStanding, IsQueueOf}
use Rattle.gs_fecqueue.specs.QueueSteps.{head_or_why}
use Rattle.gs_fecqueue.proofs.OtherFrames.{held-passed, come-other}

-- ---- nothing more is taken

-- an open frame's image is at hand
open-hand : (w f : ℕ) (before now : List Received) → is_at_hand w now now f ≡ true → is_at_hand w before now f ≡ true
open-hand w f before now hand = elim (or_cases (not (is_left w now f)) (nat_lt 1 w && not (is_left w now f)) hand) [
  | inl is_open ↦ or_left (not (is_left w now f)) (nat_lt 1 w && not (is_left w before f)) is_open
  | inr was ↦ or_left (not (is_left w now f)) (nat_lt 1 w && not (is_left w before f)) (and_parts (nat_lt 1 w) (not (is_left w now f)) was).1
]

pub stands-same : (q : Queue) (c : ClientSettings) (before now : List Received) → IsStanding q c before now → IsStanding q c now now
stands-same q c before now is = record {
  packet = is.packet;
  ssrc = is.ssrc;
  window = is.window;
  count = is.count;
  is_greatest = is.is_greatest;
  least = is.least;
  each = is.each;
  apart = is.apart;
  open_frames = is.open_frames;
  at_hand = λ f hand came. is.at_hand f (open-hand c.window f before now hand) came;
}

-- ---- a datagram of a frame that was left

pub old-verdict : (c : ClientSettings) (now : List Received) (r : Received) → is_left c.window now r.head.frame ≡ true
    → judged c.window r now (counting c.window now) ≡ Old (greatest now)
old-verdict c now r left = cond-true (is_left c.window now r.head.frame) (Old (greatest now)) _ left

pub stands-old : (q : Queue) (c : ClientSettings) (before now : List Received) (r : Received) → IsStanding q c before now → 1 ≤ r.head.frame
    → is_left c.window now r.head.frame ≡ true → IsStanding q c now (r ∷ now)
stands-old q c before now r is least left =
    let w = c.window in
    let g = r.head.frame in
    let below = left-says w now g left in
    let same : greatest (r ∷ now) ≡ greatest now = greatest-kept r now (omega arith) in
    let passed : is_counting (judged w r now (counting w now)) ≡ false = ap is_counting (old-verdict c now r left) in
    let came-before : (f : ℕ) → greatest now < f + w → HasFrameCome (r ∷ now) f → HasFrameCome now f =
    λ f near came. come-other now f r (ne_eqb g f (λ e. absurd (omega arith))) came in
    record {
      packet = is.packet;
      ssrc = is.ssrc;
      window = is.window;
      count = is.count;
      is_greatest = is.is_greatest ∙ sym same;
      least = λ f came. elim (cases_eq g f) [
        | inl this ↦ omega arith
        | inr other ↦ is.least f (come-other now f r (ne_eqb g f other) came)
      ];
      each = λ i frame e positive. held-passed c now frame r passed (is.each i frame e positive);
      apart = is.apart;
      open_frames = λ f near came.
          let near_now : greatest now < f + w = omega arith in
          is.open_frames f near_now (came-before f near_now came);
      at_hand = λ f hand came.
          let near : greatest now < f + w = elim (or_cases (not (is_left w (r ∷ now) f)) (nat_lt 1 w && not (is_left w now f)) hand) [
            | inl is_open ↦ omega (arith, left-not_says w (r ∷ now) f (not-true (is_left w (r ∷ now) f) is_open))
            | inr was ↦ left-not_says w now f (not-true (is_left w now f) (and_parts (nat_lt 1 w) (not (is_left w now f)) was).1)
          ] in
          let is_open : is_at_hand w before now f ≡ true =
          or_left (not (is_left w now f)) (nat_lt 1 w && not (is_left w before f)) (not_from_false (is_left w now f) (left-not_from w now f near)) in
          is.at_hand f is_open (came-before f near came);
    }

-- ---- by the head of a datagram

abbrev pub received_with : ClientSettings → List ℕ → VideoHead → Received
received_with c bytes head = record { head = head; shard = carried_shard c.stream.packet head bytes }

-- what a foreign datagram gives
pub record IsForeign (c : ClientSettings) (came : List Arrival) (bytes : List ℕ) (why : Why) : Type 0 where
  pub nothing : received c.stream bytes ≡ None
  pub verdict_is : Foreign why ≡ verdict c came bytes

pub foreign : (c : ClientSettings) (came : List Arrival) (bytes : List ℕ) (o : Option VideoHead) (why : Why) → video_head c.stream.packet bytes ≡ o
    → head_or_why c.stream.ssrc o ≡ Err why → IsForeign c came bytes why
unfolding received verdict
foreign c came bytes None why e is =
    let same : Grammar ≡ why = cc in
    record {
      nothing = ap (of_session c.stream bytes) e;
      verdict_is = ap (λ (x : Why). Foreign x) (sym same) ∙ sym (ap (judged_bytes c (taken c came) bytes) e);
    }
foreign c came bytes (Some head) why e is =
    let r = received_with c bytes head in
    let test = head.ssrc == c.stream.ssrc in
    elim (cases_Bool test) [
      | inl own ↦
          let no : Ok head ≡ Err why = sym (cond-true test (Ok head) (Err (Ssrc head.ssrc)) own) ∙ is in
          cc
      | inr other ↦
          let this : Err (Ssrc head.ssrc) ≡ Err why = sym (cond-false test (Ok head) (Err (Ssrc head.ssrc)) other) ∙ is in
          let same : Ssrc head.ssrc ≡ why = cc in
          record {
            nothing = ap (of_session c.stream bytes) e ∙ cond-false test (Some r) None other;
            verdict_is = ap (λ (x : Why). Foreign x) (sym same)
                ∙ sym (ap (judged_bytes c (taken c came) bytes) e
                ∙ cond-false test (judged c.window r (taken c came) (counting c.window (taken c came))) (Foreign (Ssrc head.ssrc)) other);
          }
    ]

-- what one of the session gives
pub record IsOwn (c : ClientSettings) (came : List Arrival) (bytes : List ℕ) (head : VideoHead) : Type 0 where
  pub received_is : received c.stream bytes ≡ Some (received_with c bytes head)
  pub verdict_is :
      verdict c came bytes ≡ judged c.window (received_with c bytes head) (taken c came) (counting c.window (taken c came))

pub own : (c : ClientSettings) (came : List Arrival) (bytes : List ℕ) (o : Option VideoHead) (head : VideoHead) → video_head c.stream.packet bytes ≡ o
    → head_or_why c.stream.ssrc o ≡ Ok head → IsOwn c came bytes head
unfolding received verdict
own c came bytes None head e is = let no : Err Grammar ≡ Ok head = is in cc
own c came bytes (Some h) head e is =
    let test = h.ssrc == c.stream.ssrc in
    elim (cases_Bool test) [
      | inr other ↦
          let no : Err (Ssrc h.ssrc) ≡ Ok head = sym (cond-false test (Ok h) (Err (Ssrc h.ssrc)) other) ∙ is in
          cc
      | inl mine ↦
          let this : Ok h ≡ Ok head = sym (cond-true test (Ok h) (Err (Ssrc h.ssrc)) mine) ∙ is in
          let same : h ≡ head = cc in
          let Of : VideoHead → Type 0 = λ x. IsOwn c came bytes x in
          subst Of same (record {
            received_is = ap (of_session c.stream bytes) e ∙ cond-true test (Some (received_with c bytes h)) None mine;
            verdict_is = ap (judged_bytes c (taken c came) bytes) e
                ∙ cond-true test (judged c.window (received_with c bytes h) (taken c came) (counting c.window (taken c came))) (Foreign (Ssrc h.ssrc)) mine;
          })
    ]

-- the payload of a datagram
pub brings-with : (c : ClientSettings) (bytes : List ℕ) (head : VideoHead) → c.stream.packet ≤ length bytes
    → Brings c.stream head (drop (length bytes - payload_of c.stream) bytes) (received_with c bytes head)
brings-with c bytes head room =
    record {
      head_is = refl;
      payload_is = refl;
      size = length-drop (length bytes - payload_of c.stream) bytes ∙ omega arith;
    }

-- ---- one arrival more

-- what is taken of it
pub taken-with : (c : ClientSettings) (came : List Arrival) (bytes : List ℕ) (r : Received) → received c.stream bytes ≡ Some r
    → taken c (Datagram bytes ∷ came) ≡ r ∷ taken c came
taken-with c came bytes r e = ap (λ (o : Option Received). cons_option o (taken c came)) e

pub taken-without : (c : ClientSettings) (came : List Arrival) (bytes : List ℕ) → received c.stream bytes ≡ None
    → taken c (Datagram bytes ∷ came) ≡ taken c came
taken-without c came bytes e = ap (λ (o : Option Received). cons_option o (taken c came)) e

pub stands-behind : (q : Queue) (c : ClientSettings) (came : List Arrival) (bytes : List ℕ) (rs : List Received)
    → taken c (Datagram bytes ∷ came) ≡ rs → IsStanding q c (taken c came) rs → IsQueueOf q c (Datagram bytes ∷ came)
stands-behind q c came bytes rs e is =
    let Of : List Received → Type 0 = λ l. IsStanding q c (taken c came) l in
    subst Of (sym e) is

-- a reset changes nothing
pub stands-reset : (q : Queue) (c : ClientSettings) (came : List Arrival) → IsQueueOf q c came → IsQueueOf q c (Reset ∷ came)
stands-reset q c came is = stands-same q c (taken c (all_but_last came)) (taken c came) is
