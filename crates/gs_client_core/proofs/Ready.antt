-- The frames that a datagram hands: their images are at hand.
use Rattle.std.proofs.Common.{◌≡◌, ◌<◌, ◌≤◌, ◌+◌, ℕ, Bool, true, false, ◌&&◌, not, List, ◌∷◌, Option, Some, None, refl, sym, ap, subst, ◌∙◌, arith, inl, inr}
use Rattle.std.specs.Prelude.{nat_lt, is_some}
use Rattle.std.specs.List.{Contains}
use Rattle.std.proofs.lemmas.Bool.{cases_Bool, cases_lt, lt-ltb, ltb-true, ne_eqb, or_left, or_right, and_from, not_from_false}
use Rattle.std.proofs.lemmas.List.Elements.{All-weaker, All-contains_itself, All-filter, filter_passes}
use Rattle.gs_frames.specs.Client.{ClientSettings, HasWindow, Arrival, Datagram}
use Rattle.gs_frames.specs.Image.{Frame}
use Rattle.gs_frames.specs.Received.{Received, received, taken, greatest, is_left}
use Rattle.gs_frames.specs.Complete.{complete}
use Rattle.gs_frames.specs.Settled.{is_done, settled}
use Rattle.gs_frames.specs.SettledLaws.{AreDone}
use Rattle.gs_frames.specs.Handed.{Handed, handed, newly_handed}
use Rattle.gs_frames.specs.HandedLaws.{IsToHand}
use Rattle.gs_frames.proofs.Counting.{NoneOf-above, complete-other, complete-none, greatest-new, greatest-kept}
use Rattle.gs_frames.proofs.SettledUp.{left-from, left-says, left-not_from, left-not_says, settled-greatest}
use Rattle.gs_frames.proofs.HandedGrows.{handed_exactly}
use Rattle.gs_frames.proofs.Taken.{taken-some, taken-none}
use Rattle.gs_fecqueue.specs.Standing.{is_at_hand}
use Rattle.gs_client_core.specs.Steps.{IsHandReady, AreReady}

-- a frame above the settled ones isn't left
open_above : (c : ClientSettings) (rs : List Received) (f : ℕ) → settled c rs < f → is_left c.window rs f ≡ false
open_above c rs f above = elim (cases_Bool (is_left c.window rs f)) [
  | inr is_open ↦ is_open
  | inl left ↦
      let old = left-says c.window rs f left in
      let all : AreDone c rs f =
      λ g least within. or_right (is_some (complete c rs g)) (is_left c.window rs g) (left-from c.window rs g (omega arith)) in
      let most = settled-greatest c rs f all in
      absurd (omega arith)
]

-- the only open frame isn't above the settled ones where it is complete
not_above : (c : ClientSettings) (rs : List Received) (f : ℕ) (held : Frame) → c.window ≡ 1 → greatest rs < f + 1 → complete c rs f ≡ Some held
    → f ≤ settled c rs
not_above c rs f held one near e = elim (cases_lt (greatest rs) f) [
  | inl above ↦ let none : None ≡ Some held = sym (complete-none c rs f (NoneOf-above rs f above)) ∙ e in cc
  | inr within ↦
      settled-greatest c rs f (λ g least below. elim (cases_lt g f) [
        | inl less ↦ or_right (is_some (complete c rs g)) (is_left c.window rs g) (left-from c.window rs g (omega arith))
        | inr at_it ↦
            let this : f ≡ g = omega arith in
            let here : is_done c rs f ≡ true =
            or_left (is_some (complete c rs f)) (is_left c.window rs f) (ap (λ (o : Option Frame). is_some o) e) in
            subst (λ (k : ℕ). is_done c rs k ≡ true) this here
      ])
]

-- in a window of one frame, a complete frame that wasn't settled isn't left
narrow-open : (c : ClientSettings) (r : Received) (rs : List Received) (f : ℕ) (held : Frame) → c.window ≡ 1 → settled c rs < f
    → complete c (r ∷ rs) f ≡ Some held → is_left c.window (r ∷ rs) f ≡ false
narrow-open c r rs f held one above e =
    let w = c.window in
    let g = r.head.frame in
    let near = left-not_says w rs f (open_above c rs f above) in
    elim (cases_lt (greatest rs) g) [
      | inr within ↦ left-not_from w (r ∷ rs) f (omega (arith, greatest-kept r rs within))
      | inl more ↦
          elim (cases_lt f g) [
            | inr no_less ↦ left-not_from w (r ∷ rs) f (omega (arith, greatest-new r rs more))
            | inl less ↦
                let before = sym (complete-other c r rs f (ne_eqb g f (λ same. absurd (omega arith)))) ∙ e in
                let most = not_above c rs f held one (omega arith) before in
                absurd (omega arith)
          ]
    ]

narrow-still : (c : ClientSettings) (came : List Arrival) (bytes : List ℕ) (f : ℕ) (held : Frame) (o : Option Received) → received c.stream bytes ≡ o
    → c.window ≡ 1 → settled c (taken c came) < f → complete c (taken c (Datagram bytes ∷ came)) f ≡ Some held
    → is_left c.window (taken c (Datagram bytes ∷ came)) f ≡ false
narrow-still c came bytes f held None is one above e =
    ap (λ (l : List Received). is_left c.window l f) (taken-none c (Datagram bytes) came is) ∙ open_above c (taken c came) f above
narrow-still c came bytes f held (Some r) is one above e =
    let now = taken-some c (Datagram bytes) came r is in
    ap (λ (l : List Received). is_left c.window l f) now
    ∙ narrow-open c r (taken c came) f held one above (sym (ap (λ (l : List Received). complete c l f) now) ∙ e)

ready_hand : (c : ClientSettings) (came : List Arrival) (bytes : List ℕ) (f : ℕ) (held : Frame) → HasWindow c → settled c (taken c came) < f
    → complete c (taken c (Datagram bytes ∷ came)) f ≡ Some held
    → is_at_hand c.window (taken c came) (taken c (Datagram bytes ∷ came)) f ≡ true
ready_hand c came bytes f held has above e =
    let w = c.window in
    let least : 1 ≤ w = has.least in
    let before = taken c came in
    let now = taken c (Datagram bytes ∷ came) in
    elim (cases_lt 1 w) [
      | inl wide ↦
          or_right (not (is_left w now f)) (nat_lt 1 w && not (is_left w before f))
          (and_from (nat_lt 1 w) (not (is_left w before f)) (lt-ltb 1 w wide) (not_from_false (is_left w before f) (open_above c before f above)))
      | inr narrow ↦
          or_left (not (is_left w now f)) (nat_lt 1 w && not (is_left w before f))
          (not_from_false (is_left w now f) (narrow-still c came bytes f held (received c.stream bytes) refl (omega arith) above e))
    ]

one_ready : (c : ClientSettings) (came : List Arrival) (bytes : List ℕ) (h : Handed) → HasWindow c → IsToHand c (Datagram bytes ∷ came) h
    → nat_lt (settled c (taken c came)) h.frame ≡ true → IsHandReady c (Datagram bytes ∷ came) h
one_ready c came bytes h has is new =
    let held : Frame = record { kind = h.kind; unit = h.unit } in
    record {
      at_hand = ready_hand c came bytes h.frame held has (ltb-true (settled c (taken c came)) h.frame new) is.is_complete;
      is_complete = is.is_complete;
    }

pub newly_ready : (c : ClientSettings) (came : List Arrival) (bytes : List ℕ) → HasWindow c
    → AreReady c (Datagram bytes ∷ came) (newly_handed c (Datagram bytes) came)
newly_ready c came bytes has =
    let now = Datagram bytes ∷ came in
    let all = handed c now in
    let test : Handed → Bool = λ h. nat_lt (settled c (taken c came)) h.frame in
    let to_hand =
    All-filter test (IsToHand c now) all
    (All-weaker (Contains all) (IsToHand c now) (λ h here. (handed_exactly c now h).0 here) all (All-contains_itself all)) in
    let new = filter_passes test all in
    λ k d h. one_ready c came bytes _ has (to_hand k d h) (new k d h)
