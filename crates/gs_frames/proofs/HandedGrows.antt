-- Which frames are handed, and what one more arrival hands.
use Rattle.std.proofs.Common.{◌≡◌, ◌<◌, ◌≤◌, ◌+◌, ◌-◌, ℕ, suc, false, List, ◌∷◌, ◌++◌, length, Option, Some, None, refl, sym, ap, subst, ◌∙◌, arith, inl, inr}
use Rattle.std.proofs.Common.{length-append}
use Rattle.std.specs.Prelude.{nat_lt, is_some}
use Rattle.std.specs.List.{Contains, filter, find}
use Rattle.std.proofs.lemmas.Bool.{cases_lt, cond-false, ne_eqb, le-ltb, or_parts}
use Rattle.gs_frames.specs.Client.{ClientSettings, HasWindow, Arrival, Datagram, Reset}
use Rattle.gs_frames.specs.Image.{Frame}
use Rattle.gs_frames.specs.Received.{Received, greatest, is_left, taken}
use Rattle.gs_frames.specs.Complete.{complete}
use Rattle.gs_frames.specs.Settled.{settled}
use Rattle.gs_frames.specs.Handed.{Handed, settled_at_resets, last_reset_before, is_handed, handed_through, handed, newly_handed}
use Rattle.gs_frames.specs.HandedLaws.{HandedFramesRise, IsToHand, HandedFramesAreExactly, ArrivalHandsNewFrames, ArrivalHandsFewFrames, ResetHandsNothing}
use Rattle.gs_frames.proofs.Counting.{NoneOf-above, complete-other, complete-none, greatest-new, greatest-kept}
use Rattle.gs_frames.proofs.SettledUp.{left-not_says, done-same, settled-within, settled-done, settled-next, settled-grows, settled_never_falls}
use Rattle.gs_frames.proofs.HandedThrough.{RisesTo, through-rises, through-same, through-none, through-idle, through-length, above-none, through-split}
use Rattle.gs_frames.proofs.HandedThrough.{through-below, IsAmong, among-from, among-is}
use Rattle.gs_frames.proofs.Taken.{taken-more}

pub handed-is : (c : ClientSettings) (came : List Arrival)
    → handed c came ≡ handed_through c (taken c came) (settled_at_resets c came) (settled c (taken c came))
unfolding handed
handed-is c came = refl

-- ---- the order

pub handed_rise : HandedFramesRise
handed_rise c came =
    let n = settled c (taken c came) in
    let Rises : List Handed → Type 0 = RisesTo n in
    (subst Rises (sym (handed-is c came)) (through-rises c (taken c came) (settled_at_resets c came) n)).1

-- ---- which frames

-- those handed below a frame are the first ones
below-is : (c : ClientSettings) (came : List Arrival) (f : ℕ) → suc f ≤ settled c (taken c came)
    → filter (λ h. nat_lt h.frame (suc f)) (handed c came) ≡ handed_through c (taken c came) (settled_at_resets c came) f
below-is c came f within =
    ap (filter (λ h. nat_lt h.frame (suc f))) (handed-is c came)
    ∙ through-below c (taken c came) (settled_at_resets c came) f (settled c (taken c came)) (omega arith)

handed-to_hand : (c : ClientSettings) (came : List Arrival) (h : Handed)
    → IsAmong c (taken c came) (settled_at_resets c came) (settled c (taken c came)) h → IsToHand c came h
handed-to_hand c came h is =
    let resets = settled_at_resets c came in
    record {
      least = omega (arith, is.frame);
      is_settled = is.within;
      is_complete = ap (complete c (taken c came)) is.frame ∙ is.next.is_complete;
      is_to_hand = ap (λ (k : ℕ). is_handed resets (filter (λ g. nat_lt g.frame k) (handed c came)) k h.kind) is.frame
          ∙ ap (λ (hs : List Handed). is_handed resets hs (suc is.below) h.kind) (below-is c came is.below (omega (arith, is.frame, is.within)))
          ∙ is.next.is_to_hand;
    }

to_hand-handed : (c : ClientSettings) (came : List Arrival) (h : Handed) (below : ℕ) → h.frame ≡ suc below → IsToHand c came h
    → IsAmong c (taken c came) (settled_at_resets c came) (settled c (taken c came)) h
to_hand-handed c came h below frame is =
    let resets = settled_at_resets c came in
    record {
      below = below;
      frame = frame;
      within = is.is_settled;
      next = record {
        frame = frame;
        is_complete = ap (complete c (taken c came)) (sym frame) ∙ is.is_complete;
        is_to_hand = ap (λ (hs : List Handed). is_handed resets hs (suc below) h.kind) (sym (below-is c came below (omega (arith, is.is_settled))))
            ∙ ap (λ (k : ℕ). is_handed resets (filter (λ g. nat_lt g.frame k) (handed c came)) k h.kind) (sym frame)
            ∙ is.is_to_hand;
      };
    }

pub handed_exactly : HandedFramesAreExactly
handed_exactly c came h =
    let rs = taken c came in
    let resets = settled_at_resets c came in
    let n = settled c rs in (
      λ here. handed-to_hand c came h (among-from c rs resets n h (subst (λ (l : List Handed). Contains l h) (handed-is c came) here)),
      λ is. subst (λ (l : List Handed). Contains l h) (sym (handed-is c came))
          (among-is c rs resets n h (to_hand-handed c came h (h.frame - 1) (omega (arith, is.least)) is)),
    )

-- ---- one more arrival

-- frames that were settled stay as they are
settled-same : (c : ClientSettings) (arrival : Arrival) (came : List Arrival) (f : ℕ) → 1 ≤ f → f ≤ settled c (taken c came)
    → complete c (taken c (arrival ∷ came)) f ≡ complete c (taken c came) f
settled-same c arrival came f least within =
    taken-more (λ rs. complete c rs f ≡ complete c (taken c came) f) c arrival came refl
    (λ r. done-same c r (taken c came) f (settled-done c (taken c came) f least within))

-- a reset is none before a frame that was settled
reset-same : (c : ClientSettings) (arrival : Arrival) (came : List Arrival) (f : ℕ) → f ≤ settled c (taken c came)
    → last_reset_before (settled_at_resets c (arrival ∷ came)) f ≡ last_reset_before (settled_at_resets c came) f
reset-same c (Datagram bytes) came f within = refl
reset-same c Reset came f within =
    let s = settled c (taken c came) in
    cond-false (nat_lt s f) (Some s) (find (λ reset. nat_lt reset f) (settled_at_resets c came)) (le-ltb s f within)

-- so the first frames are handed as before
front-same : (c : ClientSettings) (arrival : Arrival) (came : List Arrival)
    → handed_through c (taken c (arrival ∷ came)) (settled_at_resets c (arrival ∷ came)) (settled c (taken c came)) ≡ handed c came
front-same c arrival came =
    through-same c (taken c (arrival ∷ came)) (taken c came) (settled_at_resets c (arrival ∷ came)) (settled_at_resets c came) (settled c (taken c came))
    (settled-same c arrival came) (λ f least within. reset-same c arrival came f within)
    ∙ sym (handed-is c came)

pub arrival_hands : ArrivalHandsNewFrames
arrival_hands c arrival came =
    let s = settled c (taken c came) in
    let now = arrival ∷ came in
    let New : List Handed → List Handed = λ l. filter (λ h. nat_lt s h.frame) l in
    handed-is c now
    ∙ through-split c (taken c now) (settled_at_resets c now) s (settled c (taken c now)) (settled_never_falls c arrival came)
    ∙ ap (λ (front : List Handed). front ++ New (handed_through c (taken c now) (settled_at_resets c now) (settled c (taken c now))))
    (front-same c arrival came)
    ∙ ap (λ (all : List Handed). handed c came ++ New all) (sym (handed-is c now))

pub reset_hands_nothing : ResetHandsNothing
reset_hands_nothing c came =
    let s = settled c (taken c came) in
    ap (filter (λ h. nat_lt s h.frame)) (handed-is c (Reset ∷ came))
    ∙ above-none c (taken c came) (settled_at_resets c (Reset ∷ came)) s s (omega arith)

-- ---- how many

-- a frame above the settled ones isn't complete, and isn't left
next-not_complete : (c : ClientSettings) (rs : List Received) → complete c rs (suc (settled c rs)) ≡ None
next-not_complete c rs =
    not_some (complete c rs (suc (settled c rs)))
    (or_parts (is_some (complete c rs (suc (settled c rs)))) (is_left c.window rs (suc (settled c rs))) (settled-next c rs)).0
  where
    not_some : (o : Option Frame) → is_some o ≡ false → o ≡ None
    not_some None e = refl
    not_some (Some held) e = cc

next-not_left : (c : ClientSettings) (rs : List Received) → greatest rs < suc (settled c rs) + c.window
next-not_left c rs =
    left-not_says c.window rs (suc (settled c rs))
    (or_parts (is_some (complete c rs (suc (settled c rs)))) (is_left c.window rs (suc (settled c rs))) (settled-next c rs)).1

-- a datagram of another frame doesn't complete one
other-none : (c : ClientSettings) (r : Received) (rs : List Received) (f : ℕ) → f < r.head.frame → complete c rs f ≡ None → complete c (r ∷ rs) f ≡ None
other-none c r rs f below none = complete-other c r rs f (ne_eqb r.head.frame f (λ e. absurd (omega (arith, e)))) ∙ none

-- where a greater frame comes, there is room for it among as many as the window has
older-few : (c : ClientSettings) (r : Received) (rs : List Received) (resets : List ℕ) → HasWindow c → greatest rs < r.head.frame
    → length (handed_through c (r ∷ rs) resets (greatest rs)) + 1 ≤ length (handed_through c (r ∷ rs) resets (settled c rs)) + c.window
older-few c r rs resets window new =
    let s = settled c rs in
    let least : 1 ≤ c.window = window.least in
    let next = next-not_left c rs in
    elim (cases_lt s (greatest rs)) [
      | inl below ↦
          let none = other-none c r rs (suc s) (omega arith) (next-not_complete c rs) in
          let same = ap (λ (l : List Handed). length l) (through-none c (r ∷ rs) resets s none) in
          let size = through-length c (r ∷ rs) resets (suc s) (greatest rs) (omega arith) in
          omega arith
      | inr at_it ↦
          let same : s ≡ greatest rs = omega (arith, settled-within c rs) in
          let size = ap (λ (n : ℕ). length (handed_through c (r ∷ rs) resets n)) same in
          omega arith
    ]

-- where that frame is settled at once: the frames between aren't complete
newer-few : (c : ClientSettings) (r : Received) (rs : List Received) (resets : List ℕ) (n : ℕ) → HasWindow c → greatest rs < n → n ≤ r.head.frame
    → length (handed_through c (r ∷ rs) resets n) ≤ length (handed_through c (r ∷ rs) resets (settled c rs)) + c.window
newer-few c r rs resets n window above within =
    let before = n - 1 in
    let one : suc before ≡ n = omega arith in
    let idle =
    through-idle c (r ∷ rs) resets (greatest rs) before (omega arith)
    (λ f more h. other-none c r rs f (omega arith) (complete-none c rs f (NoneOf-above rs f more))) in
    let same = ap (λ (l : List Handed). length l) idle in
    let last = through-length c (r ∷ rs) resets before n (omega arith) in
    omega (arith, older-few c r rs resets window (omega arith))

few : (c : ClientSettings) (r : Received) (rs : List Received) (resets : List ℕ) → HasWindow c
    → length (handed_through c (r ∷ rs) resets (settled c (r ∷ rs))) ≤ length (handed_through c (r ∷ rs) resets (settled c rs)) + c.window
few c r rs resets window =
    let s = settled c rs in
    let now = settled c (r ∷ rs) in
    let within = settled-within c (r ∷ rs) in
    elim (cases_lt (greatest rs) now) [
      | inr old ↦
          let next = next-not_left c rs in
          let size = through-length c (r ∷ rs) resets s now (settled-grows c r rs) in
          omega arith
      | inl new ↦
          elim (cases_lt (greatest rs) r.head.frame) [
            | inl greater ↦ newer-few c r rs resets now window new (omega (arith, greatest-new r rs greater))
            | inr not_greater ↦ absurd (omega (arith, greatest-kept r rs not_greater))
          ]
    ]

pub arrival_hands_few : ArrivalHandsFewFrames
arrival_hands_few c arrival came window =
    let s = settled c (taken c came) in
    let now = arrival ∷ came in
    let resets = settled_at_resets c now in
    let bound =
    taken-more (λ rs. length (handed_through c rs resets (settled c rs)) ≤ length (handed_through c rs resets s) + c.window) c arrival came (omega arith)
    (λ r. few c r (taken c came) resets window) in
    let before = ap (λ (l : List Handed). length l) (front-same c arrival came) in
    let after = ap (λ (l : List Handed). length l) (handed-is c now) in
    let both = ap (λ (l : List Handed). length l) (arrival_hands c arrival came) ∙ length-append (handed c came) (newly_handed c arrival came) in
    omega arith
