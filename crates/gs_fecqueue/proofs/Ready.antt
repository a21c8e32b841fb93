-- A queue in which the frame of a datagram stands at its place, and the queue that has taken the datagram.
use Rattle.std.proofs.Common.{◌≡◌, ◌≢◌, ◌<◌, ◌≤◌, ◌+◌, ◌-◌, ◌%◌, ◌⊎◌, ℕ, zero, suc, Bool, true, false, ◌&&◌, ◌||◌, not, List, [], ◌∷◌, length, set, Option}
use Rattle.std.proofs.Common.{Some, None, refl, sym, ap, subst, ◌∙◌, arith, inl, inr}
use Rattle.std.specs.Prelude.{◌==◌, nat_lt, nat_le, if◌then◌else◌}
use Rattle.std.specs.List.{slice_get}
use Rattle.std.proofs.lemmas.Bool.{cases_eq, cases_lt, cases_Bool, cond-true, cond-false, lt-ltb, le-ltb, ltb-true, ne_eqb, or_cases, and_parts, not-true}
use Rattle.std.proofs.lemmas.Nat.{mod_below}
use Rattle.std.proofs.lemmas.Option.{slice_get_within}
use Rattle.gs_frames.specs.Client.{ClientSettings}
use Rattle.gs_frames.specs.Received.{Received, greatest, is_left, oldest, is_of_frame}
use Rattle.gs_frames.specs.Verdict.{first_or, is_counting, judged, counting}
use Rattle.gs_frames.proofs.Counting.{greatest-new, greatest-kept}
use Rattle.gs_frames.proofs.SettledUp.{greatest-grows, left-not_says}
use Rattle.gs_fecqueue.specs.declared.frame.Frame.{Frame}
use Rattle.gs_fecqueue.specs.declared.queue.Queue.{Queue}
use Rattle.gs_fecqueue.specs.FrameHolding.{HoldsFrame, counted_behind, IsBegun}
use Rattle.gs_fecqueue.specs.Standing.{is_at_hand, HasFrameCome, IsHeld, IsAt, IsAmong, rooms, IsStanding}
use Rattle.gs_fecqueue.specs.QueueSteps.{swapped, HasSettingsOf, IsAdvanced, IsOpened}
use Rattle.gs_fecqueue.proofs.Frames.{set-get, get-set_same, get-set_other}
use Rattle.gs_fecqueue.proofs.OtherFrames.{counting-behind, held-other, come-other, come-within, first-with, begun-holds}
use Rattle.gs_fecqueue.proofs.Places.{swapped-first, swapped-second, swapped-other, swapped-apart, place-other, rooms-one, rooms-several}

-- a frame that stands at another place than this one
pub record IsElsewhere (frames : List Frame) (place number : ℕ) : Type 0 where
  pub at : ℕ
  pub other : at ≢ place
  pub stands : IsAt frames at number

-- The queue has room for r's frame at its place, and what it held stands.
pub record IsReadyFor (q : Queue) (c : ClientSettings) (now : List Received) (r : Received) : Type 0 where
  pub packet : q.packet ≡ c.stream.packet
  pub ssrc : q.ssrc ≡ c.stream.ssrc
  pub window : q.window ≡ c.window
  pub count : length q.frames.items ≡ rooms c.window
  pub is_greatest : q.greatest ≡ greatest (r ∷ now)
  pub frame : Frame
  pub here : slice_get q.frames.items (r.head.frame % c.window) ≡ Some frame
  pub number_is : frame.number ≡ r.head.frame
  pub holds : HoldsFrame c.stream frame (counting c.window now) (first_or r (oldest (is_of_frame r.head.frame) now))
  pub others :
      (k : ℕ) (a : Frame) → k ≢ r.head.frame % c.window → slice_get q.frames.items k ≡ Some a → 0 < a.number
      → IsHeld c now a × (a.number ≢ r.head.frame)
  pub apart :
      (i j : ℕ) (a b : Frame) → i ≢ r.head.frame % c.window → j ≢ r.head.frame % c.window
      → slice_get q.frames.items i ≡ Some a → slice_get q.frames.items j ≡ Some b → i ≢ j → 0 < a.number → a.number ≢ b.number
  pub open_frames :
      (f : ℕ) → f ≢ r.head.frame → greatest (r ∷ now) < f + c.window → HasFrameCome now f
      → (f % c.window ≢ r.head.frame % c.window) × IsAt q.frames.items (f % c.window) f
  pub at_hand :
      (f : ℕ) → f ≢ r.head.frame → is_at_hand c.window now (r ∷ now) f ≡ true → HasFrameCome now f
      → IsElsewhere q.frames.items (r.head.frame % c.window) f

-- ---- going on

-- where what stands at a place stood before the queue went on
abbrev source : Queue → ℕ → ℕ → ℕ
source q to k = if nat_lt q.greatest to then swapped (to % q.window) (length q.frames.items - 1) k else k

source-kept : (q : Queue) (to k : ℕ) → to ≤ q.greatest → source q to k ≡ k
source-kept q to k old = cond-false (nat_lt q.greatest to) (swapped (to % q.window) (length q.frames.items - 1) k) k (le-ltb q.greatest to old)

source-moved : (q : Queue) (to k : ℕ) → q.greatest < to → source q to k ≡ swapped (to % q.window) (length q.frames.items - 1) k
source-moved q to k more = cond-true (nat_lt q.greatest to) (swapped (to % q.window) (length q.frames.items - 1) k) k (lt-ltb q.greatest to more)

source-apart : (q : Queue) (to k l : ℕ) → k ≢ l → source q to k ≢ source q to l
source-apart q to k l apart = elim (cases_lt q.greatest to) [
  | inl more ↦ λ e. swapped-apart (to % q.window) (length q.frames.items - 1) k l apart (sym (source-moved q to k more) ∙ e ∙ source-moved q to l more)
  | inr old ↦ λ e. apart (sym (source-kept q to k old) ∙ e ∙ source-kept q to l old)
]

-- an open frame other than the new one stays at its place
source-open : (q : Queue) (w to f : ℕ) → q.window ≡ w → 1 ≤ w → length q.frames.items ≡ rooms w → f ≢ to → f ≤ q.greatest
    → f % w ≢ to % w → (q.greatest < to → 1 < w) → source q to (f % w) ≡ f % w
source-open q w to f window least count other within apart several = elim (cases_lt q.greatest to) [
  | inr old ↦ source-kept q to (f % w) old
  | inl more ↦
      let below : f % w < w = mod_below f w (omega arith) in
      let last : length q.frames.items ≡ w + 1 = count ∙ rooms-several w (several more) in
      let place : to % q.window ≡ to % w = ap (λ (n : ℕ). to % n) window in
      source-moved q to (f % w) more
      ∙ swapped-other (to % q.window) (length q.frames.items - 1) (f % w) (λ e. apart (e ∙ place)) (λ e. absurd (omega arith))
]

-- ---- the frame of a datagram stands at its place

-- a frame that came is at least this one
greatest-with : (r : Received) (rs : List Received) → r.head.frame ≤ greatest (r ∷ rs)
greatest-with r rs = elim (cases_lt (greatest rs) r.head.frame) [
  | inl more ↦ omega (arith, greatest-new r rs more)
  | inr old ↦ omega (arith, greatest-kept r rs old)
]

-- what is known of r's frame and of the others
record IsFound (q1 q2 : Queue) (c : ClientSettings) (now : List Received) (r : Received) (frame : Frame) : Type 0 where
  number_is : frame.number ≡ r.head.frame
  holds : HoldsFrame c.stream frame (counting c.window now) (first_or r (oldest (is_of_frame r.head.frame) now))
  others :
      (k : ℕ) (a : Frame) → k ≢ r.head.frame % c.window → slice_get q1.frames.items k ≡ Some a → 0 < a.number
      → a.number ≢ r.head.frame

record IsStep (q0 q1 : Queue) (c : ClientSettings) (before now : List Received) (r : Received) : Type 0 where
  stands : IsStanding q0 c before now
  near : greatest now < r.head.frame + c.window
  least : 1 ≤ r.head.frame
  advanced : IsAdvanced q0 q1 r.head.frame

-- where it stands by the window of either
place-is : (q0 q1 : Queue) (c : ClientSettings) (before now : List Received) (r : Received) → IsStep q0 q1 c before now r
    → r.head.frame % q1.window ≡ r.head.frame % c.window
place-is q0 q1 c before now r step = ap (λ (n : ℕ). r.head.frame % n) (step.advanced.settings.window ∙ step.stands.window)

-- it stood there
stood : (q0 q1 q2 : Queue) (c : ClientSettings) (before now : List Received) (r : Received) (frame : Frame) → IsStep q0 q1 c before now r
    → slice_get q1.frames.items (r.head.frame % c.window) ≡ Some frame → frame.number ≡ r.head.frame → IsFound q1 q2 c now r frame
stood q0 q1 q2 c before now r frame step here number =
    let g = r.head.frame in
    let p = g % c.window in
    let from : slice_get q0.frames.items (source q0 g p) ≡ Some frame = sym (step.advanced.frames p) ∙ here in
    let held = step.stands.each (source q0 g p) frame from (omega (arith, number, step.least)) in
    let first_is : oldest (is_of_frame g) now ≡ Some held.first = ap (λ (n : ℕ). oldest (is_of_frame n) now) (sym number) ∙ held.first_is in
    let Holds : Option Received → Type 0 = λ o. HoldsFrame c.stream frame (counting c.window now) (first_or r o) in
    record {
      number_is = number;
      holds = subst Holds (sym first_is) held.holds;
      others = λ k a other e positive same.
          step.stands.apart (source q0 g k) (source q0 g p) a frame (sym (step.advanced.frames k) ∙ e) from (source-apart q0 g k p other) positive
          (same ∙ sym number);
    }

-- nothing of it came, where it didn't stand there
not_come : (q0 q1 : Queue) (c : ClientSettings) (before now : List Received) (r : Received) (o : Option Received) → IsStep q0 q1 c before now r
    → ((old : Frame) → slice_get q1.frames.items (r.head.frame % c.window) ≡ Some old → old.number ≢ r.head.frame)
    → oldest (is_of_frame r.head.frame) now ≡ o → oldest (is_of_frame r.head.frame) now ≡ None
not_come q0 q1 c before now r None step other e = e
not_come q0 q1 c before now r (Some first) step other e =
    let g = r.head.frame in
    let p = g % c.window in
    let came : HasFrameCome now g = λ none. let no : Some first ≡ None = sym e ∙ none in cc in
    let within = come-within now g came in
    let at = step.stands.open_frames g step.near came in
    let kept = source-kept q0 g p (omega (arith, step.stands.is_greatest)) in
    absurd (other at.frame (step.advanced.frames p ∙ ap (slice_get q0.frames.items) kept ∙ at.here) at.number_is)

-- it began
began : (q0 q1 q2 : Queue) (c : ClientSettings) (before now : List Received) (r : Received) (frame : Frame) → IsStep q0 q1 c before now r
    → IsBegun frame r.head.frame r.head.last_block
    → ((old : Frame) → slice_get q1.frames.items (r.head.frame % c.window) ≡ Some old → old.number ≢ r.head.frame) → IsFound q1 q2 c now r frame
began q0 q1 q2 c before now r frame step begun other =
    let g = r.head.frame in
    let none = not_come q0 q1 c before now r (oldest (is_of_frame g) now) step other refl in
    let Holds : Option Received → Type 0 = λ o. HoldsFrame c.stream frame (counting c.window now) (first_or r o) in
    record {
      number_is = begun.number_is;
      holds = subst Holds (sym none) (begun-holds c.stream c.window frame now r g r.head.last_block begun refl none);
      others = λ k a apart e positive same.
          let held = step.stands.each (source q0 g k) a (sym (step.advanced.frames k) ∙ e) positive in
          let no : Some held.first ≡ None = sym held.first_is ∙ ap (λ (n : ℕ). oldest (is_of_frame n) now) same ∙ none in
          cc;
    }

found : (q0 q1 q2 : Queue) (c : ClientSettings) (before now : List Received) (r : Received) → IsStep q0 q1 c before now r
    → (opened : IsOpened q1 q2 r.head.frame r.head.last_block) → IsFound q1 q2 c now r opened.frame
found q0 q1 q2 c before now r step opened =
    let at = place-is q0 q1 c before now r step in
    elim opened.stood_or_began [
      | inl was ↦ stood q0 q1 q2 c before now r opened.frame step (ap (slice_get q1.frames.items) (sym at) ∙ was.0) was.1
      | inr new ↦
          began q0 q1 q2 c before now r opened.frame step new.0 (λ old e. new.1 old (ap (slice_get q1.frames.items) at ∙ e))
    ]

-- a frame is at hand then: it was open
was-open : (w f : ℕ) (now : List Received) (r : Received) → is_at_hand w now (r ∷ now) f ≡ true → greatest now < f + w
was-open w f now r hand = elim (or_cases (not (is_left w (r ∷ now) f)) (nat_lt 1 w && not (is_left w now f)) hand) [
  | inl is_open ↦
      let near = left-not_says w (r ∷ now) f (not-true (is_left w (r ∷ now) f) is_open) in
      omega (arith, greatest-grows r now)
  | inr was ↦ left-not_says w now f (not-true (is_left w now f) (and_parts (nat_lt 1 w) (not (is_left w now f)) was).1)
]

-- the window has several frames, where r's is greater than all before it and another is at hand
has-several : (w f : ℕ) (now : List Received) (r : Received) → is_at_hand w now (r ∷ now) f ≡ true → f ≤ greatest now → greatest now < r.head.frame → 1 < w
has-several w f now r hand within more = elim (or_cases (not (is_left w (r ∷ now) f)) (nat_lt 1 w && not (is_left w now f)) hand) [
  | inl is_open ↦
      let near = left-not_says w (r ∷ now) f (not-true (is_left w (r ∷ now) f) is_open) in
      omega (arith, greatest-new r now more)
  | inr was ↦ ltb-true 1 w (and_parts (nat_lt 1 w) (not (is_left w now f)) was).0
]

-- where an open frame stood, and stands
stood-at : (q0 q1 q2 : Queue) (c : ClientSettings) (before now : List Received) (r : Received) (f : ℕ) → IsStep q0 q1 c before now r
    → IsOpened q1 q2 r.head.frame r.head.last_block → f ≢ r.head.frame → HasFrameCome now f → greatest now < f + c.window
    → f % c.window ≢ r.head.frame % c.window → (q0.greatest < r.head.frame → 1 < c.window) → IsAt q2.frames.items (f % c.window) f
stood-at q0 q1 q2 c before now r f step opened other came near apart several =
    let stands = step.stands in
    let g = r.head.frame in
    let place = f % c.window in
    let at = stands.open_frames f near came in
    let within = come-within now f came in
    let kept = source-open q0 c.window g f stands.window (omega (arith, stands.window, q0.window_least)) stands.count other
    (omega (arith, stands.is_greatest)) apart several in
    record {
      frame = at.frame;
      here = opened.others place (λ e. apart (e ∙ place-is q0 q1 c before now r step)) ∙ step.advanced.frames place
          ∙ ap (slice_get q0.frames.items) kept ∙ at.here;
      number_is = at.number_is;
    }

-- the frame whose place r's frame took stands last
stood-last : (q0 q1 q2 : Queue) (c : ClientSettings) (before now : List Received) (r : Received) (f : ℕ) → IsStep q0 q1 c before now r
    → IsOpened q1 q2 r.head.frame r.head.last_block → HasFrameCome now f → greatest now < f + c.window
    → f % c.window ≡ r.head.frame % c.window → q0.greatest < r.head.frame → 1 < c.window → IsElsewhere q2.frames.items (r.head.frame % c.window) f
stood-last q0 q1 q2 c before now r f step opened came near same more several =
    let stands = step.stands in
    let g = r.head.frame in
    let w = c.window in
    let at = stands.open_frames f near came in
    let last : length q0.frames.items - 1 ≡ w = omega (arith, stands.count, rooms-several w several) in
    let place : g % q0.window ≡ g % w = ap (λ (n : ℕ). g % n) stands.window in
    let from : source q0 g w ≡ f % w =
    source-moved q0 g w more ∙ ap (λ (n : ℕ). swapped (g % q0.window) n w) last ∙ swapped-second (g % q0.window) w ∙ place ∙ sym same in
    let below : g % w < w = mod_below g w (omega arith) in
    let apart : w ≢ g % w = λ e. absurd (omega arith) in
    record {
      at = w;
      other = apart;
      stands = record {
        frame = at.frame;
        here = opened.others w (λ e. apart (e ∙ place-is q0 q1 c before now r step)) ∙ step.advanced.frames w
            ∙ ap (slice_get q0.frames.items) from ∙ at.here;
        number_is = at.number_is;
      };
    }

pub ready : (q0 q1 q2 : Queue) (c : ClientSettings) (before now : List Received) (r : Received) → IsStanding q0 c before now
    → is_left c.window now r.head.frame ≡ false → 1 ≤ r.head.frame → IsAdvanced q0 q1 r.head.frame → IsOpened q1 q2 r.head.frame r.head.last_block
    → IsReadyFor q2 c now r
ready q0 q1 q2 c before now r stands not_left least advanced opened =
    let g = r.head.frame in
    let w = c.window in
    let near = left-not_says w now g not_left in
    let step : IsStep q0 q1 c before now r = record { stands = stands; near = near; least = least; advanced = advanced } in
    let most : w ≤ 4 = omega (arith, stands.window, q0.window_greatest) in
    let is = found q0 q1 q2 c before now r step opened in
    let at = place-is q0 q1 c before now r step in
    let back : (k : ℕ) (a : Frame) → k ≢ g % w → slice_get q2.frames.items k ≡ Some a → slice_get q1.frames.items k ≡ Some a =
    λ k a other e. sym (opened.others k (λ e'. other (e' ∙ at))) ∙ e in
    let s1 = advanced.settings in
    let s2 = opened.settings in
    record {
      packet = s2.packet ∙ s1.packet ∙ stands.packet;
      ssrc = s2.ssrc ∙ s1.ssrc ∙ stands.ssrc;
      window = s2.window ∙ s1.window ∙ stands.window;
      count = s2.count ∙ s1.count ∙ stands.count;
      is_greatest =
          opened.is_greatest ∙ advanced.is_greatest ∙ ap (λ (n : ℕ). if nat_lt n g then g else n) stands.is_greatest;
      frame = opened.frame;
      here = ap (slice_get q2.frames.items) (sym at) ∙ opened.here;
      number_is = is.number_is;
      holds = is.holds;
      others = λ k a other e positive.
          let e1 = back k a other e in
          (stands.each (source q0 g k) a (sym (advanced.frames k) ∙ e1) positive, is.others k a other e1 positive);
      apart = λ i j a b other_i other_j ea eb differ positive.
          stands.apart (source q0 g i) (source q0 g j) a b (sym (advanced.frames i) ∙ back i a other_i ea)
          (sym (advanced.frames j) ∙ back j b other_j eb) (source-apart q0 g i j differ) positive;
      open_frames = λ f other near_f came.
          let within = come-within now f came in
          let grows = greatest-grows r now in
          let mine = greatest-with r now in
          let apart = place-other w f g most other (omega arith) (omega arith) in
          let several : q0.greatest < g → 1 < w = λ more.
          let new = greatest-new r now (omega (arith, stands.is_greatest)) in omega (arith, stands.is_greatest) in
          (apart, stood-at q0 q1 q2 c before now r f step opened other came (omega arith) apart several);
      at_hand = λ f other hand came.
          let within = come-within now f came in
          let near_f = was-open w f now r hand in
          let several : q0.greatest < g → 1 < w = λ more. has-several w f now r hand within (omega (arith, stands.is_greatest)) in
          elim (cases_eq (f % w) (g % w)) [
            | inr apart ↦
                record { at = f % w; other = apart; stands = stood-at q0 q1 q2 c before now r f step opened other came near_f apart several }
            | inl same ↦ elim (cases_lt q0.greatest g) [
              | inl more ↦ stood-last q0 q1 q2 c before now r f step opened came near_f same more (several more)
              | inr old ↦ absurd (place-other w f g most other (omega arith) (omega (arith, stands.is_greatest)) same)
            ]
          ];
    }

-- ---- and has taken the datagram

pub stands-with : (q2 q3 : Queue) (c : ClientSettings) (now : List Received) (r : Received) (place : ℕ) (new : Frame) → IsReadyFor q2 c now r
    → 1 ≤ r.head.frame → ((f : ℕ) → HasFrameCome now f → 1 ≤ f) → place ≡ r.head.frame % c.window
    → q3.packet ≡ q2.packet → q3.ssrc ≡ q2.ssrc → q3.window ≡ q2.window → q3.greatest ≡ q2.greatest
    → q3.frames.items ≡ set q2.frames.items place new → length q3.frames.items ≡ length q2.frames.items → new.number ≡ r.head.frame
    → HoldsFrame c.stream new (counting c.window (r ∷ now)) (first_or r (oldest (is_of_frame r.head.frame) now))
    → IsStanding q3 c now (r ∷ now)
stands-with q2 q3 c now r place new is least least_before place_is packet ssrc window greatest_is items_are count number holds =
    let g = r.head.frame in
    let p = g % c.window in
    let at : q3.frames.items ≡ set q2.frames.items p new = items_are ∙ ap (λ (n : ℕ). set q2.frames.items n new) place_is in
    let get : (k : ℕ) → slice_get q3.frames.items k ≡ slice_get (set q2.frames.items p new) k = λ k. ap (λ (l : List Frame). slice_get l k) at in
    let here : slice_get q3.frames.items p ≡ Some new = get p ∙ get-set_same q2.frames.items p new is.frame is.here in
    let kept : (k : ℕ) → k ≢ p → slice_get q3.frames.items k ≡ slice_get q2.frames.items k = λ k other. get k ∙ get-set_other q2.frames.items p k new other in
    let held : IsHeld c (r ∷ now) new =
    let First : ℕ → Type 0 = λ n. oldest (is_of_frame n) (r ∷ now) ≡ Some (first_or r (oldest (is_of_frame g) now)) in
    record {
      first = first_or r (oldest (is_of_frame g) now);
      first_is = subst First (sym number) (first-with now r (oldest (is_of_frame g) now) refl);
      holds = holds;
    } in
    let other-frame : (f : ℕ) → f ≢ g → is_of_frame f r ≡ false = λ f other. ne_eqb g f (λ e. other (sym e)) in
    record {
      packet = packet ∙ is.packet;
      ssrc = ssrc ∙ is.ssrc;
      window = window ∙ is.window;
      count = count ∙ is.count;
      is_greatest = greatest_is ∙ is.is_greatest;
      least = λ f came. elim (cases_eq f g) [
        | inl same ↦ omega arith
        | inr other ↦ least_before f (come-other now f r (other-frame f other) came)
      ];
      each = λ i frame e positive. elim (cases_eq i p) [
        | inl same ↦
            let this : Some new ≡ Some frame = sym here ∙ ap (slice_get q3.frames.items) (sym same) ∙ e in
            let is_new : new ≡ frame = cc in
            subst (IsHeld c (r ∷ now)) is_new held
        | inr other ↦
            let found_it = is.others i frame other (sym (kept i other) ∙ e) positive in
            held-other c now frame r (other-frame frame.number found_it.1) found_it.0
      ];
      apart = λ i j a b ea eb differ positive. elim (cases_eq i p) [
        | inl at_i ↦ λ same.
            let this : Some new ≡ Some a = sym here ∙ ap (slice_get q3.frames.items) (sym at_i) ∙ ea in
            let is_new : new ≡ a = cc in
            let number_a : a.number ≡ g = ap (λ (x : Frame). x.number) (sym is_new) ∙ number in
            let other_j : j ≢ p = λ e. differ (at_i ∙ sym e) in
            (is.others j b other_j (sym (kept j other_j) ∙ eb) (omega arith)).1 (sym same ∙ number_a)
        | inr other_i ↦ elim (cases_eq j p) [
          | inl at_j ↦ λ same.
              let this : Some new ≡ Some b = sym here ∙ ap (slice_get q3.frames.items) (sym at_j) ∙ eb in
              let is_new : new ≡ b = cc in
              let number_b : b.number ≡ g = ap (λ (x : Frame). x.number) (sym is_new) ∙ number in
              (is.others i a other_i (sym (kept i other_i) ∙ ea) positive).1 (same ∙ number_b)
          | inr other_j ↦ is.apart i j a b other_i other_j (sym (kept i other_i) ∙ ea) (sym (kept j other_j) ∙ eb) differ positive
        ]
      ];
      open_frames = λ f near came. elim (cases_eq f g) [
        | inl same ↦
            record { frame = new; here = ap (λ (n : ℕ). slice_get q3.frames.items (n % c.window)) same ∙ here; number_is = number ∙ sym same }
        | inr other ↦
            let stood_there = is.open_frames f other near (come-other now f r (other-frame f other) came) in
            let at_f = stood_there.1 in
            record {
              frame = at_f.frame;
              here = kept (f % c.window) stood_there.0 ∙ at_f.here;
              number_is = at_f.number_is;
            }
      ];
      at_hand = λ f hand came. elim (cases_eq f g) [
        | inl same ↦ record { place = p; at = record { frame = new; here = here; number_is = number ∙ sym same } }
        | inr other ↦
            let there = is.at_hand f other hand (come-other now f r (other-frame f other) came) in
            let stands = there.stands in
            record {
              place = there.at;
              at = record { frame = stands.frame; here = kept there.at there.other ∙ stands.here; number_is = stands.number_is };
            }
      ];
    }
