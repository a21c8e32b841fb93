-- Datagrams that aren't of a greater frame, and what all that was handed with one arrival is.
use Rattle.std.proofs.Common.{◌≡◌, ◌≢◌, ◌<◌, ◌≤◌, ◌+◌, ◌-◌, ℕ, suc, Bool, true, false, ◌||◌, List, [], ◌∷◌, ◌++◌, Option, Some, None, refl, sym, ap, subst, ◌∙◌}
use Rattle.std.proofs.Common.{arith, inl, inr}
use Rattle.std.specs.Prelude.{is_some, nat_le, nat_lt}
use Rattle.std.proofs.lemmas.Bool.{cases_Bool, cases_lt, cond-true, cond-false, ltb-true, ne_eqb}
use Rattle.std.proofs.lemmas.List.{append_cancel_left}
use Rattle.gs_frames.specs.Client.{ClientSettings, Arrival, Datagram}
use Rattle.gs_frames.specs.Image.{Frame}
use Rattle.gs_frames.specs.Received.{Received, IsReceived, received, greatest, is_left, taken}
use Rattle.gs_frames.specs.Complete.{complete}
use Rattle.gs_frames.specs.Settled.{is_done}
use Rattle.gs_frames.specs.Handed.{Handed, handed, newly_handed}
use Rattle.gs_frames.specs.Kept.{kind_if_complete, kept}
use Rattle.gs_frames.proofs.Counting.{complete-other, greatest-kept}
use Rattle.gs_frames.proofs.Taken.{taken-some}
use Rattle.gs_frames.proofs.SettledUp.{done-same, done-stays}
use Rattle.gs_frames.proofs.HandedGrows.{arrival_hands}
use Rattle.gs_fecqueue.specs.declared.moved.Moved.{Moved}
use Rattle.gs_fecqueue.specs.Moves.{moved_to, moved_of}
use Rattle.gs_depack.specs.declared.depack.Depack.{Depack}
use Rattle.gs_depack.specs.Depack.{noted_kind, Handing, IsDepackOf}
use Rattle.gs_depack.specs.Laws.{DatagramChangesNothing, DatagramCompletesFrame, NothingToNote, HandedSinceIsNewlyHanded, StandingKeepsNumbers, MovesOn}
use Rattle.gs_depack.specs.Laws.{QueueTellsMoves}
use Rattle.gs_depack.proofs.Standing.{settled-is_so, nothing-to_note, front-same}
use Rattle.gs_depack.proofs.Passing.{next-none}

-- ---- nothing changes

same-handing : (d : Depack) (c : ClientSettings) (came : List Arrival) (bytes : List ℕ) → IsDepackOf d c came
    → greatest (taken c (Datagram bytes ∷ came)) ≡ greatest (taken c came)
    → ((f : ℕ) → complete c (taken c (Datagram bytes ∷ came)) f ≡ complete c (taken c came) f)
    → Handing d c (Datagram bytes ∷ came) None (handed c came)
same-handing d c came bytes stands same_greatest same =
    let handing = stands.handing in
    let now = taken c (Datagram bytes ∷ came) in
    record {
      window = handing.window;
      is_greatest = handing.is_greatest ∙ sym same_greatest;
      kinds = λ f above within noting. handing.kinds f above within noting ∙ ap kind_if_complete (sym (same f));
      is_unnoted = handing.is_unnoted;
      none_above = handing.none_above;
      passed_settled = handing.passed_settled;
      settled_greatest = handing.settled_greatest;
      are_done = λ f least within.
          ap (λ (o : Option Frame). is_some o || is_left c.window now f) (same f)
          ∙ ap (λ (g : ℕ). is_some (complete c (taken c came) f) || nat_le (f + c.window) g) same_greatest
          ∙ handing.are_done f least within;
      next_nothing = handing.next_nothing;
      next_open = handing.next_open;
      are_given = handing.are_given ∙ sym (front-same c came (Datagram bytes ∷ came) d.passed refl (λ f least within. same f));
      last_given = handing.last_given;
      waits = handing.waits;
      since = came;
      same_resets = refl;
      was_settled = omega (arith, settled-is_so d c came (handed c came) handing, stands.all_passed);
    }

pub changes_nothing : DatagramChangesNothing
changes_nothing d c came bytes stands same_greatest same =
    let handing = same-handing d c came bytes stands same_greatest same in
    ((next-none d c (Datagram bytes ∷ came) None (handed c came) handing (omega (arith, stands.all_passed))).all refl).1

-- ---- a frame becomes complete

-- it wasn't settled
completed-above : (d : Depack) (c : ClientSettings) (came : List Arrival) (r : Received) → IsDepackOf d c came → 1 ≤ r.head.frame
    → complete c (taken c came) r.head.frame ≡ None → is_some (complete c (r ∷ taken c came) r.head.frame) ≡ true → d.settled < r.head.frame
completed-above d c came r stands least none some = elim (cases_lt d.settled r.head.frame) [
  | inl above ↦ above
  | inr within ↦
      let rs = taken c came in
      let same = done-same c r rs r.head.frame (stands.handing.are_done r.head.frame least within) in
      let not_some : is_some (complete c (r ∷ rs) r.head.frame) ≡ false = ap (λ (o : Option Frame). is_some o) (same ∙ none) in
      cc
]

other-same : (c : ClientSettings) (came : List Arrival) (bytes : List ℕ) (r : Received) (f : ℕ) → IsReceived c.stream bytes r → r.head.frame ≢ f
    → complete c (taken c (Datagram bytes ∷ came)) f ≡ complete c (taken c came) f
other-same c came bytes r f is other =
    ap (λ (l : List Received). complete c l f) (taken-some c (Datagram bytes) came r is)
    ∙ complete-other c r (taken c came) f (ne_eqb r.head.frame f other)

pub completes_frame : DatagramCompletesFrame
completes_frame d c came bytes r stands is least old none some =
    let handing = stands.handing in
    let rs = taken c came in
    let one = taken-some c (Datagram bytes) came r is in
    let Some_of : List Received → Type 0 = λ l. is_some (complete c l r.head.frame) ≡ true in
    let above = completed-above d c came r stands least none (subst Some_of one some) in
    let noting : (f : ℕ) → None ≡ Some f → ⊥ = λ f e. cc in
    record {
      window = handing.window;
      is_greatest = handing.is_greatest ∙ sym (ap (λ (l : List Received). greatest l) one ∙ greatest-kept r rs old);
      kinds = λ f more within not_it.
          handing.kinds f more within (noting f)
          ∙ ap kind_if_complete (sym (other-same c came bytes r f is (λ e. not_it (ap (λ (k : ℕ). Some k) e))));
      is_unnoted = λ f e.
          let same : r.head.frame ≡ f = cc in
          record {
            nothing =
                handing.kinds f (omega (arith, same, stands.all_passed)) (omega (arith, same, handing.is_greatest)) (noting f)
                ∙ ap kind_if_complete (ap (complete c rs) (sym same) ∙ none);
            above = omega (arith, same);
            within = omega (arith, same, handing.is_greatest);
            free = inr (omega (arith, handing.next_open, stands.all_passed));
          };
      none_above = handing.none_above;
      passed_settled = handing.passed_settled;
      settled_greatest = handing.settled_greatest;
      are_done = λ f first within.
          let stays = done-stays c r rs f (handing.are_done f first within) in
          subst (λ (l : List Received). is_done c l f ≡ true) (sym one) stays;
      next_nothing = handing.next_nothing;
      next_open = handing.next_open;
      are_given =
          handing.are_given
          ∙ sym (front-same c came (Datagram bytes ∷ came) d.passed refl
          (λ f first within. other-same c came bytes r f is (λ e. absurd (omega (arith, e, handing.passed_settled)))));
      last_given = handing.last_given;
      waits = handing.waits;
      since = came;
      same_resets = refl;
      was_settled = omega (arith, settled-is_so d c came (handed c came) handing, stands.all_passed);
    }

pub nothing_to_note : NothingToNote
nothing_to_note d c came f given handing none = nothing-to_note d c came f given handing none

pub since_is_new : HandedSinceIsNewlyHanded
since_is_new c arrival came hs e = append_cancel_left (handed c came) hs (newly_handed c arrival came) (e ∙ arrival_hands c arrival came)

-- ---- what a client keeps

pub keeps_numbers : StandingKeepsNumbers
unfolding kept
keeps_numbers d c came stands = record {
  is_greatest = stands.handing.is_greatest;
  is_settled = sym (settled-is_so d c came (handed c came) stands.handing);
  last = stands.handing.last_given;
  waits = stands.handing.waits;
}

-- ---- what a queue tells

tells-by : (moved : Moved) (c : ClientSettings) (came : List Arrival) (bytes : List ℕ) (o : Option Received) → received c.stream bytes ≡ o
    → moved_of c (taken c came) o ≡ Some moved → MovesOn moved c came bytes
tells-by moved c came bytes None is e = let no : None ≡ Some moved = e in cc
tells-by moved c came bytes (Some r) is e =
    let rs = taken c came in
    let test = nat_lt (greatest rs) r.head.frame in
    let told = moved_to c rs r.head.frame in
    elim (cases_Bool test) [
      | inr within ↦ let no : None ≡ Some moved = sym (cond-false test (Some told) None within) ∙ e in cc
      | inl more ↦
          let both : Some told ≡ Some moved = sym (cond-true test (Some told) None more) ∙ e in
          let same : told ≡ moved = cc in
          let rises : greatest rs < r.head.frame = ltb-true (greatest rs) r.head.frame more in
          record {
            r = r;
            is_move = record {
              is_received = is;
              from = ap (λ (m : Moved). m.from) (sym same);
              to = ap (λ (m : Moved). m.to) (sym same);
              rises = subst (λ (m : Moved). m.from < m.to) same rises;
            };
          }
    ]

pub queue_tells : QueueTellsMoves
queue_tells moved c came bytes e = tells-by moved c came bytes (received c.stream bytes) refl e
