-- A depack that has handed some of what came: how it settles, notes and stands for one datagram more.
use Rattle.std.proofs.Common.{◌≡◌, ◌≢◌, ◌<◌, ◌≤◌, ◌+◌, ◌-◌, ◌⊎◌, ℕ, zero, suc, Bool, true, false, ◌||◌, List, [], ◌∷◌, ◌++◌, Option, Some, None, refl, sym, ap}
use Rattle.std.proofs.Common.{subst, ◌∙◌, arith, inl, inr}
use Rattle.std.specs.Prelude.{is_some}
use Rattle.std.proofs.lemmas.Bool.{cases_Bool, cases_lt, cases_eq, ne_eqb, or_parts, or_left, or_right, both_ways}
use Rattle.gs_frames.specs.Client.{ClientSettings, HasWindow, Arrival, Datagram, Reset}
use Rattle.gs_frames.specs.Image.{Frame}
use Rattle.gs_frames.specs.Received.{Received, IsReceived, greatest, is_left, taken}
use Rattle.gs_frames.specs.Complete.{complete, IsComplete}
use Rattle.gs_frames.specs.Settled.{is_done, settled}
use Rattle.gs_frames.specs.SettledLaws.{AreDone}
use Rattle.gs_frames.specs.Handed.{Handed, settled_at_resets, handed_through, handed}
use Rattle.gs_frames.specs.Kept.{kind_if_complete, last_of, waits_for_idr_frame}
use Rattle.gs_frames.proofs.SettledUp.{left-not_from, done-same, done-stays, done-above, settled-within, settled-done, settled-unique}
use Rattle.gs_frames.proofs.HandedThrough.{through-zero, through-same}
use Rattle.gs_frames.proofs.HandedGrows.{handed-is}
use Rattle.gs_depack.specs.declared.depack.Depack.{Depack}
use Rattle.gs_depack.specs.Depack.{noted_kind, HasNoneAbove, IsUnnoted, Handing, IsDepackOf}
use Rattle.gs_depack.specs.Steps.{IsNote, IsSettling, HasSettled}

-- ---- kinds of complete frames

pub kind-none : (o : Option Frame) → kind_if_complete o ≡ None → o ≡ None
kind-none None e = refl
kind-none (Some held) e = let none : Some held.kind ≡ None = e in cc

pub kind-some : (o : Option Frame) → kind_if_complete o ≢ None → is_some o ≡ true
kind-some None e = absurd (e refl)
kind-some (Some held) e = refl

-- ---- a depack that may settle more

-- what holds of a depack that is handing, but that it may settle more
pub record Settling (d : Depack) (c : ClientSettings) (came : List Arrival) (unnoted : Option ℕ) (given : List Handed) : Type 0 where
  pub window : d.window ≡ c.window
  pub is_greatest : d.greatest ≡ greatest (taken c came)
  pub kinds :
      (f : ℕ) → d.passed < f → f ≤ d.greatest → (unnoted ≡ Some f → ⊥)
      → noted_kind d f ≡ kind_if_complete (complete c (taken c came) f)
  pub is_unnoted : (f : ℕ) → unnoted ≡ Some f → IsUnnoted d c f
  pub none_above : HasNoneAbove d
  pub passed_settled : d.passed ≤ d.settled
  pub settled_greatest : d.settled ≤ d.greatest
  pub are_done : AreDone c (taken c came) d.settled
  pub next_open : d.greatest < suc d.settled + c.window
  pub are_given : given ≡ handed_through c (taken c came) (settled_at_resets c came) d.passed
  pub last_given : d.last_handed ≡ last_of given
  pub waits : d.waits_for_idr ≡ waits_for_idr_frame given (settled_at_resets c came)
  pub since : List Arrival
  pub same_resets : settled_at_resets c came ≡ settled_at_resets c since
  pub was_settled : settled c (taken c since) ≤ d.passed

-- frames that it noted, and that aren't passed, are complete
noted-done : (d : Depack) (c : ClientSettings) (came : List Arrival) (unnoted : Option ℕ) (given : List Handed) (f : ℕ) → Settling d c came unnoted given
    → d.passed < f → f ≤ d.greatest → noted_kind d f ≢ None → is_done c (taken c came) f ≡ true
noted-done d c came unnoted given f stands above within noted =
    let noting : unnoted ≡ Some f → ⊥ = λ e. noted (stands.is_unnoted f e).nothing in
    or_left (is_some (complete c (taken c came) f)) (is_left c.window (taken c came) f)
    (kind-some (complete c (taken c came) f) (λ none. noted (stands.kinds f above within noting ∙ none)))

settle-done : (d : Depack) (c : ClientSettings) (came : List Arrival) (unnoted : Option ℕ) (given : List Handed) (s : ℕ) → Settling d c came unnoted given
    → s ≤ d.greatest → ((f : ℕ) → d.settled < f → f ≤ s → noted_kind d f ≢ None) → AreDone c (taken c came) s
settle-done d c came unnoted given s stands within noted f least below = elim (cases_lt d.settled f) [
  | inl above ↦
      noted-done d c came unnoted given f stands (omega (arith, stands.passed_settled)) (omega arith) (noted f above below)
  | inr settled ↦ stands.are_done f least settled
]

settle-unnoted : (d : Depack) (c : ClientSettings) (f s : ℕ) → IsUnnoted d c f → ((g : ℕ) → d.settled < g → g ≤ s → noted_kind d g ≢ None)
    → IsUnnoted (record d { settled = s }) c f
settle-unnoted d c f s is noted = record {
  nothing = is.nothing;
  above = elim (cases_lt s f) [
    | inl less ↦ less
    | inr within ↦ absurd (noted f is.above within is.nothing)
  ];
  within = is.within;
  free = is.free;
}

settle-at : (d : Depack) (c : ClientSettings) (came : List Arrival) (unnoted : Option ℕ) (given : List Handed) (s : ℕ) → Settling d c came unnoted given
    → d.settled ≤ s → s ≤ d.greatest → ((f : ℕ) → d.settled < f → f ≤ s → noted_kind d f ≢ None)
    → (s < d.greatest → noted_kind d (suc s) ≡ None) → Handing (record d { settled = s }) c came unnoted given
settle-at d c came unnoted given s stands more within noted next = record {
  window = stands.window;
  is_greatest = stands.is_greatest;
  kinds = stands.kinds;
  is_unnoted = λ f e. settle-unnoted d c f s (stands.is_unnoted f e) noted;
  none_above = stands.none_above;
  passed_settled = omega (arith, stands.passed_settled);
  settled_greatest = within;
  are_done = settle-done d c came unnoted given s stands within noted;
  next_nothing = next;
  next_open = omega (arith, stands.next_open);
  are_given = stands.are_given;
  last_given = stands.last_given;
  waits = stands.waits;
  since = stands.since;
  same_resets = stands.same_resets;
  was_settled = stands.was_settled;
}

-- settled as far as it noted, it is handing
pub settle-hands : (d a : Depack) (c : ClientSettings) (came : List Arrival) (unnoted : Option ℕ) (given : List Handed) → Settling d c came unnoted given
    → HasSettled d a → Handing a c came unnoted given
settle-hands d a c came unnoted given stands is =
    let all = is.settling in
    subst (λ (x : Depack). Handing x c came unnoted given) (sym all.rest)
    (settle-at d c came unnoted given a.settled stands all.more (all.within stands.settled_greatest) all.noted is.next)

-- ---- up to which frame it is settled

next-not_done : (d : Depack) (c : ClientSettings) (came : List Arrival) (given : List Handed) → Handing d c came None given
    → is_done c (taken c came) (suc d.settled) ≡ false
next-not_done d c came given stands = elim (cases_lt d.settled d.greatest) [
  | inr at_it ↦ done-above c (taken c came) (suc d.settled) (omega (arith, stands.is_greatest))
  | inl below ↦
      let rs = taken c came in
      let noting : None ≡ Some (suc d.settled) → ⊥ = λ e. cc in
      let kind = sym (stands.kinds (suc d.settled) (omega (arith, stands.passed_settled)) (omega arith) noting) ∙ stands.next_nothing below in
      ap (λ (o : Option Frame). is_some o || is_left c.window rs (suc d.settled)) (kind-none (complete c rs (suc d.settled)) kind)
      ∙ left-not_from c.window rs (suc d.settled) (omega (arith, stands.is_greatest, stands.next_open))
]

pub settled-is_so : (d : Depack) (c : ClientSettings) (came : List Arrival) (given : List Handed) → Handing d c came None given
    → settled c (taken c came) ≡ d.settled
settled-is_so d c came given stands =
    settled-unique c (taken c came) d.settled stands.are_done (next-not_done d c came given stands)

-- ---- what was noted

-- where the frame isn't complete, nothing is to be noted
pub nothing-to_note : (d : Depack) (c : ClientSettings) (came : List Arrival) (f : ℕ) (given : List Handed) → Handing d c came (Some f) given
    → complete c (taken c came) f ≡ None → Handing d c came None given
nothing-to_note d c came f given stands none = record {
  window = stands.window;
  is_greatest = stands.is_greatest;
  kinds = λ g above within noting. elim (cases_eq f g) [
    | inr other ↦ stands.kinds g above within (λ e. other cc)
    | inl same ↦
        (stands.is_unnoted g (ap (λ (k : ℕ). Some k) same)).nothing
        ∙ sym (ap kind_if_complete (ap (complete c (taken c came)) (sym same) ∙ none))
  ];
  is_unnoted = λ g e. cc;
  none_above = stands.none_above;
  passed_settled = stands.passed_settled;
  settled_greatest = stands.settled_greatest;
  are_done = stands.are_done;
  next_nothing = stands.next_nothing;
  next_open = stands.next_open;
  are_given = stands.are_given;
  last_given = stands.last_given;
  waits = stands.waits;
  since = stands.since;
  same_resets = stands.same_resets;
  was_settled = stands.was_settled;
}

-- a frame's place was free: what is noted of the others stays
note-others : (d a : Depack) (c : ClientSettings) (f kind g : ℕ) → HasWindow c → IsUnnoted d c f → IsNote d a f kind → d.passed ≤ d.settled → d.passed < g
    → g ≤ d.greatest → f ≢ g → noted_kind a g ≡ noted_kind d g
note-others d a c f kind g window is note passed above within other =
    let most : c.window ≤ 4 = window.greatest in
    let below = is.above in
    let most_frame = is.within in
    note.others g (λ e. other (sym e)) (elim is.free as (λ o. (f ≡ d.greatest) ⊎ ((f < g + 4) × (g < f + 4))) [
      | inl newest ↦ inl newest
      | inr near ↦ inr (omega arith, omega arith)
    ])

note-at : (d : Depack) (newest : Option ℕ) (frames kinds : List ℕ) (c : ClientSettings) (came : List Arrival) (f kind : ℕ) (given : List Handed) (held : Frame)
    → HasWindow c → Handing d c came (Some f) given → complete c (taken c came) f ≡ Some held → held.kind ≡ kind
    → IsNote d (record d { newest = newest; frames = frames; kinds = kinds }) f kind
    → Settling (record d { newest = newest; frames = frames; kinds = kinds }) c came None given
note-at d newest frames kinds c came f kind given held window stands is_complete is_kind note =
    let is = stands.is_unnoted f refl in
    record {
      window = stands.window;
      is_greatest = stands.is_greatest;
      kinds = λ g above within noting. elim (cases_eq f g) [
        | inl same ↦
            ap (noted_kind (record d { newest = newest; frames = frames; kinds = kinds })) (sym same)
            ∙ note.itself ∙ ap (λ (k : ℕ). Some k) (sym is_kind)
            ∙ sym (ap kind_if_complete (ap (complete c (taken c came)) (sym same) ∙ is_complete))
        | inr other ↦
            note-others d (record d { newest = newest; frames = frames; kinds = kinds }) c f kind g window is note stands.passed_settled above within other
            ∙ stands.kinds g above within (λ e. other cc)
      ];
      is_unnoted = λ g e. cc;
      none_above = note.none_above;
      passed_settled = stands.passed_settled;
      settled_greatest = stands.settled_greatest;
      are_done = stands.are_done;
      next_open = stands.next_open;
      are_given = stands.are_given;
      last_given = stands.last_given;
      waits = stands.waits;
      since = stands.since;
      same_resets = stands.same_resets;
      was_settled = stands.was_settled;
    }

pub note-settles : (d a : Depack) (c : ClientSettings) (came : List Arrival) (f kind : ℕ) (given : List Handed) (held : Frame)
    → HasWindow c → Handing d c came (Some f) given → IsComplete c (taken c came) f held → held.kind ≡ kind → IsNote d a f kind
    → Settling a c came None given
note-settles d a c came f kind given held window stands is_complete is_kind note =
    subst (λ (x : Depack). Settling x c came None given) (sym note.rest)
    (note-at d a.newest a.frames a.kinds c came f kind given held window stands is_complete is_kind
    (subst (λ (x : Depack). IsNote d x f kind) note.rest note))

-- ---- at first

pub first-none : (c : ClientSettings) → handed c [] ≡ []
first-none c =
    let none : settled c [] ≡ 0 = omega (arith, settled-within c []) in
    handed-is c [] ∙ ap (handed_through c [] []) none ∙ through-zero c [] []

pub first-stands : (d : Depack) (c : ClientSettings) → d.window ≡ c.window → d.greatest ≡ 0 → d.settled ≡ 0 → d.passed ≡ 0 → d.last_handed ≡ 0
    → d.waits_for_idr ≡ false → HasNoneAbove d → IsDepackOf d c []
first-stands d c window greatest settled passed last waits none_above =
    let none : handed c [] ≡ [] = first-none c in
    record {
      all_passed = omega arith;
      handing = record {
        window = window;
        is_greatest = greatest;
        kinds = λ f above within noting. absurd (omega arith);
        is_unnoted = λ f e. cc;
        none_above = none_above;
        passed_settled = omega arith;
        settled_greatest = omega arith;
        are_done = λ f least within. absurd (omega arith);
        next_nothing = λ below. absurd (omega arith);
        next_open = omega arith;
        are_given = none ∙ sym (ap (handed_through c [] []) passed ∙ through-zero c [] []);
        last_given = last ∙ sym (ap last_of none);
        waits = waits;
        since = [];
        same_resets = refl;
        was_settled = omega (arith, settled-within c []);
      };
    }

-- ---- one datagram more

-- the frames that were passed are handed as before
pub front-same : (c : ClientSettings) (came now : List Arrival) (n : ℕ) → settled_at_resets c now ≡ settled_at_resets c came
    → ((f : ℕ) → 1 ≤ f → f ≤ n → complete c (taken c now) f ≡ complete c (taken c came) f)
    → handed_through c (taken c now) (settled_at_resets c now) n ≡ handed_through c (taken c came) (settled_at_resets c came) n
front-same c came now n resets same =
    ap (λ (l : List ℕ). handed_through c (taken c now) l n) resets
    ∙ through-same c (taken c now) (taken c came) (settled_at_resets c came) (settled_at_resets c came) n same (λ f least within. refl)
