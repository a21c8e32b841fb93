-- Passing the settled frames: which is handed next, and what the depack stands for when none waits. And a reset.
use Rattle.std.proofs.Common.{◌≡◌, ◌≢◌, ◌<◌, ◌≤◌, ◌+◌, ◌-◌, ℕ, zero, suc, Bool, true, false, ◌&&◌, ◌||◌, not, List, [], ◌∷◌, ◌++◌, Option, Some, None, refl}
use Rattle.std.proofs.Common.{sym, ap, subst, ◌∙◌, arith, inl, inr}
use Rattle.std.specs.Prelude.{nat_lt, ◌==◌, AllPairs}
use Rattle.std.specs.List.{All, list_any}
use Rattle.std.proofs.lemmas.Bool.{cond-true, cond-false, lt-ltb, le-ltb}
use Rattle.std.proofs.lemmas.List.{append-nil}
use Rattle.std.proofs.lemmas.List.Elements.{All-head, All-tail, All-weaker}
use Rattle.std.proofs.Math.Bool.{or_assoc}
use Rattle.gs_frames.specs.Client.{ClientSettings, Arrival, Datagram, Reset}
use Rattle.gs_frames.specs.Image.{Frame}
use Rattle.gs_frames.specs.Received.{taken}
use Rattle.gs_frames.specs.Complete.{complete}
use Rattle.gs_frames.specs.Settled.{settled}
use Rattle.gs_frames.specs.Handed.{Handed, settled_at_resets, is_handed, hand_on, handed_through, handed}
use Rattle.gs_frames.specs.Kept.{kind_if_complete, last_of, waits_for_idr_frame}
use Rattle.gs_frames.specs.KeptLaws.{is_handed_next, AreBelow}
use Rattle.gs_frames.proofs.HandedThrough.{IsHandedNext, hand_on-hands, through-suc, through-rises, RisesTo}
use Rattle.gs_frames.proofs.HandedGrows.{handed-is, arrival_hands, reset_hands_nothing}
use Rattle.gs_frames.proofs.HandedNext.{resets-within, last_handed_tells}
use Rattle.gs_depack.specs.declared.depack.Depack.{Depack}
use Rattle.gs_depack.specs.Depack.{noted_kind, IsUnnoted, Handing, IsDepackOf, HandsNext, HandsNone}
use Rattle.gs_depack.proofs.Standing.{kind-none, settled-is_so}

-- ---- lists with one more

last-push : (hs : List Handed) (one : Handed) → last_of (hs ++ one ∷ []) ≡ one.frame
last-push [] one = refl
last-push (h ∷ []) one = refl
last-push (h ∷ g ∷ hs) one = last-push (g ∷ hs) one

or_one : (a : Bool) → (a || false) ≡ (false || a)
or_one true = refl
or_one false = refl

any-push : (test : Handed → Bool) (hs : List Handed) (one : Handed) → list_any test (hs ++ one ∷ []) ≡ (list_any test hs || test one)
any-push test [] one = or_one (test one)
any-push test (h ∷ hs) one =
    ap (λ (b : Bool). test h || b) (any-push test hs one) ∙ sym (or_assoc (test h) (list_any test hs) (test one))

not_either : (any is_idr above : Bool) → above ≡ true → not (any || (is_idr && above)) ≡ (not any && not is_idr)
not_either true is_idr above e = refl
not_either false true above e = ap not e
not_either false false above e = refl

-- an IDR frame behind all resets ends the waiting
waiting-push : (resets : List ℕ) (hs : List Handed) (one : Handed) → All (λ s. s < one.frame) resets
    → waits_for_idr_frame (hs ++ one ∷ []) resets ≡ (waits_for_idr_frame hs resets && not (one.kind == 2))
waiting-push [] hs one all = refl
waiting-push (reset ∷ resets) hs one all =
    let test : Handed → Bool = λ h. h.kind == 2 && nat_lt reset h.frame in
    let above : reset < one.frame = All-head (λ s. s < one.frame) reset resets all in
    ap not (any-push test hs one)
    ∙ not_either (list_any test hs) (one.kind == 2) (nat_lt reset one.frame) (lt-ltb reset one.frame above)

-- ---- the next frame

-- what holds of the frame that is passed next
pub record IsPassing (d : Depack) (c : ClientSettings) (came : List Arrival) (unnoted : Option ℕ) (given : List Handed) : Type 0 where
  pub stands : Handing d c came unnoted given
  pub more : d.passed < d.settled

next-kind : (d : Depack) (c : ClientSettings) (came : List Arrival) (unnoted : Option ℕ) (given : List Handed) → IsPassing d c came unnoted given
    → noted_kind d (suc d.passed) ≡ kind_if_complete (complete c (taken c came) (suc d.passed))
next-kind d c came unnoted given is =
    let stands = is.stands in
    let more = is.more in
    let noting : unnoted ≡ Some (suc d.passed) → ⊥ = λ e. let above = (stands.is_unnoted (suc d.passed) e).above in absurd (omega arith) in
    stands.kinds (suc d.passed) (omega arith) (omega (arith, stands.settled_greatest)) noting

given-below : (d : Depack) (c : ClientSettings) (came : List Arrival) (unnoted : Option ℕ) (given : List Handed) → Handing d c came unnoted given
    → AreBelow (suc d.passed) given
given-below d c came unnoted given stands =
    let Rises : List Handed → Type 0 = RisesTo d.passed in
    let rises = subst Rises (sym stands.are_given) (through-rises c (taken c came) (settled_at_resets c came) d.passed) in
    record {
      least = All-weaker (λ h. (1 ≤ h.frame) × (h.frame ≤ d.passed)) (λ h. 1 ≤ h.frame) (λ h both. both.0) given rises.0;
      below = All-weaker (λ h. (1 ≤ h.frame) × (h.frame ≤ d.passed)) (λ h. h.frame < suc d.passed) (λ h both. omega (arith, both.1)) given rises.0;
      rise = rises.1;
    }

-- it is handed where the numbers say so
next-handed : (d : Depack) (c : ClientSettings) (came : List Arrival) (unnoted : Option ℕ) (given : List Handed) (kind : ℕ) → Handing d c came unnoted given
    → is_handed (settled_at_resets c came) given (suc d.passed) kind ≡ is_handed_next d.last_handed d.waits_for_idr (suc d.passed) kind
next-handed d c came unnoted given kind stands =
    let f = suc d.passed in
    ap (λ (l : List ℕ). is_handed l given f kind) stands.same_resets
    ∙ last_handed_tells c stands.since given f kind (omega (arith, stands.was_settled)) (given-below d c came unnoted given stands)
    ∙ ap (λ (l : List ℕ). is_handed_next (last_of given) (waits_for_idr_frame given l) f kind) (sym stands.same_resets)
    ∙ ap (λ (waits : Bool). is_handed_next (last_of given) waits f kind) (sym stands.waits)
    ∙ ap (λ (last : ℕ). is_handed_next last d.waits_for_idr f kind) (sym stands.last_given)

through-next : (d : Depack) (c : ClientSettings) (came : List Arrival) (unnoted : Option ℕ) (given : List Handed) → Handing d c came unnoted given
    → handed_through c (taken c came) (settled_at_resets c came) (suc d.passed)
    ≡ hand_on (settled_at_resets c came) given (suc d.passed) (complete c (taken c came) (suc d.passed))
through-next d c came unnoted given stands =
    through-suc c (taken c came) (settled_at_resets c came) d.passed
    ∙ ap (λ (hs : List Handed). hand_on (settled_at_resets c came) hs (suc d.passed) (complete c (taken c came) (suc d.passed))) (sym stands.are_given)

-- ---- a frame that isn't handed

passed-by : (d : Depack) (c : ClientSettings) (came : List Arrival) (unnoted : Option ℕ) (given : List Handed) → IsPassing d c came unnoted given
    → hand_on (settled_at_resets c came) given (suc d.passed) (complete c (taken c came) (suc d.passed)) ≡ given
    → Handing (record d { passed = suc d.passed }) c came unnoted given
passed-by d c came unnoted given is same =
    let stands = is.stands in
    let more = is.more in
    record {
      window = stands.window;
      is_greatest = stands.is_greatest;
      kinds = λ f above within noting. stands.kinds f (omega arith) within noting;
      is_unnoted = λ f e. let at = stands.is_unnoted f e in record {
        nothing = at.nothing;
        above = at.above;
        within = at.within;
        free = elim at.free [ inl newest ↦ inl newest | inr near ↦ inr (omega arith) ];
      };
      none_above = stands.none_above;
      passed_settled = omega arith;
      settled_greatest = stands.settled_greatest;
      are_done = stands.are_done;
      next_nothing = stands.next_nothing;
      next_open = stands.next_open;
      are_given = sym same ∙ sym (through-next d c came unnoted given stands);
      last_given = stands.last_given;
      waits = stands.waits;
      since = stands.since;
      same_resets = stands.same_resets;
      was_settled = omega (arith, stands.was_settled);
    }

-- it isn't complete
pub pass-none : (d : Depack) (c : ClientSettings) (came : List Arrival) (unnoted : Option ℕ) (given : List Handed) → IsPassing d c came unnoted given
    → noted_kind d (suc d.passed) ≡ None → Handing (record d { passed = suc d.passed }) c came unnoted given
pass-none d c came unnoted given is none =
    let o = complete c (taken c came) (suc d.passed) in
    let not_complete : o ≡ None = kind-none o (sym (next-kind d c came unnoted given is) ∙ none) in
    passed-by d c came unnoted given is (ap (hand_on (settled_at_resets c came) given (suc d.passed)) not_complete)

-- the frame of a kind
record HasKind (o : Option Frame) (kind : ℕ) : Type 0 where
  held : Frame
  is_held : o ≡ Some held
  is_kind : held.kind ≡ kind

kind-held : (o : Option Frame) (kind : ℕ) → kind_if_complete o ≡ Some kind → HasKind o kind
kind-held None kind e = let none : None ≡ Some kind = e in cc
kind-held (Some held) kind e =
    let same : Some held.kind ≡ Some kind = e in
    record { held = held; is_held = refl; is_kind = cc }

next-held : (d : Depack) (c : ClientSettings) (came : List Arrival) (unnoted : Option ℕ) (given : List Handed) (kind : ℕ) → IsPassing d c came unnoted given
    → noted_kind d (suc d.passed) ≡ Some kind → HasKind (complete c (taken c came) (suc d.passed)) kind
next-held d c came unnoted given kind is noted =
    kind-held (complete c (taken c came) (suc d.passed)) kind (sym (next-kind d c came unnoted given is) ∙ noted)

-- it isn't to be handed
pub pass-by : (d : Depack) (c : ClientSettings) (came : List Arrival) (unnoted : Option ℕ) (given : List Handed) (kind : ℕ) → IsPassing d c came unnoted given
    → noted_kind d (suc d.passed) ≡ Some kind → is_handed_next d.last_handed d.waits_for_idr (suc d.passed) kind ≡ false
    → Handing (record d { passed = suc d.passed }) c came unnoted given
pass-by d c came unnoted given kind is noted fails =
    let f = suc d.passed in
    let resets = settled_at_resets c came in
    let at = next-held d c came unnoted given kind is noted in
    let held = at.held in
    let test = is_handed resets given f held.kind in
    let no : test ≡ false =
    ap (is_handed resets given f) at.is_kind ∙ next-handed d c came unnoted given kind is.stands ∙ fails in
    passed-by d c came unnoted given is
    (ap (hand_on resets given f) at.is_held
    ∙ cond-false test (given ++ record { frame = f; kind = held.kind; unit = held.unit } ∷ []) given no)

-- ---- a frame that is handed

resets-before : (d : Depack) (c : ClientSettings) (came : List Arrival) (unnoted : Option ℕ) (given : List Handed) → Handing d c came unnoted given
    → All (λ s. s < suc d.passed) (settled_at_resets c came)
resets-before d c came unnoted given stands =
    let Before : List ℕ → Type 0 = All (λ s. s < suc d.passed) in
    subst Before (sym stands.same_resets)
    (All-weaker (λ s. s ≤ settled c (taken c stands.since)) (λ s. s < suc d.passed) (λ s h. omega (arith, stands.was_settled))
    (settled_at_resets c stands.since) (resets-within c stands.since))

handed-on : (d : Depack) (c : ClientSettings) (came : List Arrival) (unnoted : Option ℕ) (given : List Handed) (one : Handed) → IsPassing d c came unnoted given
    → one.frame ≡ suc d.passed
    → hand_on (settled_at_resets c came) given (suc d.passed) (complete c (taken c came) (suc d.passed)) ≡ given ++ one ∷ []
    → Handing (record d { passed = suc d.passed; last_handed = suc d.passed; waits_for_idr = d.waits_for_idr && not (one.kind == 2) })
    c came unnoted (given ++ one ∷ [])
handed-on d c came unnoted given one is frame same =
    let stands = is.stands in
    let more = is.more in
    let resets = settled_at_resets c came in
    let Before : ℕ → Type 0 = λ f. All (λ s. s < f) resets in
    record {
      window = stands.window;
      is_greatest = stands.is_greatest;
      kinds = λ f above within noting. stands.kinds f (omega arith) within noting;
      is_unnoted = λ f e. let at = stands.is_unnoted f e in record {
        nothing = at.nothing;
        above = at.above;
        within = at.within;
        free = elim at.free [ inl newest ↦ inl newest | inr near ↦ inr (omega arith) ];
      };
      none_above = stands.none_above;
      passed_settled = omega arith;
      settled_greatest = stands.settled_greatest;
      are_done = stands.are_done;
      next_nothing = stands.next_nothing;
      next_open = stands.next_open;
      are_given = sym same ∙ sym (through-next d c came unnoted given stands);
      last_given = sym (last-push given one ∙ frame);
      waits =
          ap (λ (waits : Bool). waits && not (one.kind == 2)) stands.waits
          ∙ sym (waiting-push resets given one (subst Before (sym frame) (resets-before d c came unnoted given stands)));
      since = stands.since;
      same_resets = stands.same_resets;
      was_settled = omega (arith, stands.was_settled);
    }

pub pass-hands : (d : Depack) (c : ClientSettings) (came : List Arrival) (unnoted : Option ℕ) (given : List Handed) (kind : ℕ)
    → IsPassing d c came unnoted given
    → noted_kind d (suc d.passed) ≡ Some kind → is_handed_next d.last_handed d.waits_for_idr (suc d.passed) kind ≡ true
    → HandsNext (record d { passed = suc d.passed; last_handed = suc d.passed; waits_for_idr = d.waits_for_idr && not (kind == 2) })
    c came unnoted given (suc d.passed)
pass-hands d c came unnoted given kind is noted passes =
    let f = suc d.passed in
    let resets = settled_at_resets c came in
    let at = next-held d c came unnoted given kind is noted in
    let held = at.held in
    let one : Handed = record { frame = f; kind = held.kind; unit = held.unit } in
    let o = complete c (taken c came) f in
    let Stands : ℕ → Type 0 = λ k.
    Handing (record d { passed = f; last_handed = f; waits_for_idr = d.waits_for_idr && not (k == 2) }) c came unnoted (given ++ one ∷ []) in
    record {
      one = one;
      is_frame = refl;
      is_complete = at.is_held;
      stands = subst Stands at.is_kind (handed-on d c came unnoted given one is refl (hand_on-hands resets given f o one (record {
        frame = refl;
        is_complete = at.is_held;
        is_to_hand = ap (is_handed resets given f) at.is_kind ∙ next-handed d c came unnoted given kind is.stands ∙ passes;
      })));
    }

-- ---- none waits

pub next-none : (d : Depack) (c : ClientSettings) (came : List Arrival) (unnoted : Option ℕ) (given : List Handed) → Handing d c came unnoted given
    → d.settled ≤ d.passed → HandsNone d c came unnoted given
next-none d c came unnoted given stands all =
    let passed : d.passed ≡ d.settled = omega (arith, stands.passed_settled) in
    record {
      all_passed = passed;
      all = λ e.
          let noted = subst (λ (u : Option ℕ). Handing d c came u given) e stands in
          let is_all : given ≡ handed c came =
          stands.are_given
          ∙ ap (handed_through c (taken c came) (settled_at_resets c came)) (passed ∙ sym (settled-is_so d c came given noted))
          ∙ sym (handed-is c came) in
          (is_all, record { handing = subst (λ (hs : List Handed). Handing d c came None hs) is_all noted; all_passed = passed });
      stands = stands;
    }

-- ---- a reset

-- frames that were handed aren't behind it
any-none : (reset : ℕ) (hs : List Handed) → All (λ h. h.frame < suc reset) hs → list_any (λ h. h.kind == 2 && nat_lt reset h.frame) hs ≡ false
any-none reset [] all = refl
any-none reset (h ∷ hs) all =
    let first : h.frame < suc reset = All-head (λ g. g.frame < suc reset) h hs all in
    neither (h.kind == 2) (nat_lt reset h.frame) (list_any (λ g. g.kind == 2 && nat_lt reset g.frame) hs) (le-ltb reset h.frame (omega arith))
    (any-none reset hs (All-tail (λ g. g.frame < suc reset) h hs all))
  where
    neither : (is_idr above rest : Bool) → above ≡ false → rest ≡ false → ((is_idr && above) || rest) ≡ false
    neither true above rest e none = ap (λ (b : Bool). b || rest) e ∙ none
    neither false above rest e none = none

pub reset-stands : (d : Depack) (c : ClientSettings) (came : List Arrival) → IsDepackOf d c came
    → IsDepackOf (record d { waits_for_idr = true }) c (Reset ∷ came)
reset-stands d c came stands =
    let handing = stands.handing in
    let now : List Arrival = Reset ∷ came in
    let settled_so = settled-is_so d c came (handed c came) handing in
    let same : handed c now ≡ handed c came =
    arrival_hands c Reset came ∙ ap (λ (l : List Handed). handed c came ++ l) (reset_hands_nothing c came) ∙ append-nil (handed c came) in
    let below = given-below d c came None (handed c came) handing in
    let under = All-weaker (λ h. h.frame < suc d.passed) (λ h. h.frame < suc (settled c (taken c came))) (λ h is. omega (arith, settled_so, stands.all_passed))
    (handed c came) below.below in
    record {
      all_passed = stands.all_passed;
      handing = record {
        window = handing.window;
        is_greatest = handing.is_greatest;
        kinds = handing.kinds;
        is_unnoted = λ f e. cc;
        none_above = handing.none_above;
        passed_settled = handing.passed_settled;
        settled_greatest = handing.settled_greatest;
        are_done = handing.are_done;
        next_nothing = handing.next_nothing;
        next_open = handing.next_open;
        are_given =
            handed-is c now ∙ ap (handed_through c (taken c came) (settled_at_resets c now)) (settled_so ∙ sym stands.all_passed);
        last_given = handing.last_given ∙ ap last_of (sym same);
        waits = sym (ap (λ (hs : List Handed). waits_for_idr_frame hs (settled_at_resets c now)) same
            ∙ ap not (any-none (settled c (taken c came)) (handed c came) under));
        since = now;
        same_resets = refl;
        was_settled = omega (arith, settled_so, stands.all_passed);
      };
    }
