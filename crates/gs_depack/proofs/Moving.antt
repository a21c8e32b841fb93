-- A datagram of a greater frame: what the depack stands for, and the range that it asks for. And datagrams of others, and a reset.
use Rattle.std.proofs.Common.{◌≡◌, ◌≢◌, ◌<◌, ◌≤◌, ◌+◌, ◌-◌, ◌⊎◌, ℕ, zero, suc, Bool, true, false, ◌&&◌, ◌||◌, not, List, [], ◌∷◌, ◌++◌, Option, Some, None}
use Rattle.std.proofs.Common.{refl, sym, ap, subst, ◌∙◌, arith, inl, inr}
use Rattle.std.specs.Prelude.{is_some, nat_lt, ◌==◌, MatchOption}
use Rattle.std.specs.List.{All, list_any}
use Rattle.std.proofs.lemmas.Bool.{cases_Bool, cases_lt, cases_eq, ne_eqb, or_parts, or_left, or_right, both_ways, le-ltb}
use Rattle.std.proofs.lemmas.List.{append-nil}
use Rattle.gs_frames.specs.declared.range.Range.{Range}
use Rattle.gs_frames.specs.Client.{ClientSettings, HasWindow, Arrival, Datagram, Reset}
use Rattle.gs_frames.specs.Image.{Frame}
use Rattle.gs_frames.specs.Received.{Received, IsReceived, greatest, is_left, taken}
use Rattle.gs_frames.specs.Complete.{complete}
use Rattle.gs_frames.specs.Settled.{is_done, settled}
use Rattle.gs_frames.specs.SettledLaws.{AreDone}
use Rattle.gs_frames.specs.Handed.{Handed, settled_at_resets, handed_through, handed}
use Rattle.gs_frames.specs.Asks.{newly_asked}
use Rattle.gs_frames.specs.AskLaws.{IsLost, IsLostRange}
use Rattle.gs_frames.specs.Kept.{kind_if_complete, last_of, waits_for_idr_frame}
use Rattle.gs_frames.proofs.Counting.{NoneOf-above, complete-other, complete-none, greatest-new, greatest-kept}
use Rattle.gs_frames.proofs.Taken.{taken-some}
use Rattle.gs_frames.proofs.SettledUp.{left-from, left-says, left-not_from, left-not_says, done-same, done-stays, done-above, settled-within, settled-done}
use Rattle.gs_frames.proofs.SettledUp.{settled-unique}
use Rattle.gs_frames.proofs.HandedThrough.{through-zero, through-same, RisesTo, through-rises}
use Rattle.gs_frames.proofs.HandedGrows.{handed-is, arrival_hands, reset_hands_nothing}
use Rattle.gs_frames.proofs.AsksGrow.{arrival_asks_for_lost, arrival_asks_for_nothing}
use Rattle.gs_depack.specs.declared.depack.Depack.{Depack}
use Rattle.gs_fecqueue.specs.declared.moved.Moved.{Moved}
use Rattle.gs_depack.specs.Depack.{noted_kind, HasNoneAbove, IsUnnoted, Handing, IsDepackOf, IsMove}
use Rattle.gs_depack.specs.Steps.{IsAdvance, LeavesRange, LeavesNone}
use Rattle.gs_depack.proofs.Standing.{Settling, kind-none, settled-is_so, front-same}

-- ---- what a datagram of a greater frame leaves as it was

-- a datagram of a greater frame, as taken
pub record IsGreater (c : ClientSettings) (came : List Arrival) (bytes : List ℕ) (r : Received) : Type 0 where
  pub now : taken c (Datagram bytes ∷ came) ≡ r ∷ taken c came
  pub above : greatest (taken c came) < r.head.frame

pub greater-from : (moved : Moved) (c : ClientSettings) (came : List Arrival) (bytes : List ℕ) (r : Received) → IsMove moved c came bytes r
    → IsGreater c came bytes r
greater-from moved c came bytes r is = record {
  now = taken-some c (Datagram bytes) came r is.is_received;
  above = omega (arith, is.from, is.to, is.rises);
}

greater-greatest : (c : ClientSettings) (came : List Arrival) (bytes : List ℕ) (r : Received) → IsGreater c came bytes r
    → greatest (taken c (Datagram bytes ∷ came)) ≡ r.head.frame
greater-greatest c came bytes r is = ap (λ (l : List Received). greatest l) is.now ∙ greatest-new r (taken c came) is.above

-- every other frame is as it was
greater-other : (c : ClientSettings) (came : List Arrival) (bytes : List ℕ) (r : Received) (f : ℕ) → IsGreater c came bytes r → r.head.frame ≢ f
    → complete c (taken c (Datagram bytes ∷ came)) f ≡ complete c (taken c came) f
greater-other c came bytes r f is other =
    ap (λ (l : List Received). complete c l f) is.now ∙ complete-other c r (taken c came) f (ne_eqb r.head.frame f other)

greater-none : (c : ClientSettings) (came : List Arrival) (bytes : List ℕ) (r : Received) (f : ℕ) → IsGreater c came bytes r
    → greatest (taken c came) < f → f < r.head.frame → complete c (taken c (Datagram bytes ∷ came)) f ≡ None
greater-none c came bytes r f is above below =
    greater-other c came bytes r f is (λ e. absurd (omega (arith, e))) ∙ complete-none c (taken c came) f (NoneOf-above (taken c came) f above)

-- done frames stay done, and the others up to n are left
greater-done : (c : ClientSettings) (came : List Arrival) (bytes : List ℕ) (r : Received) (settled s : ℕ) → IsGreater c came bytes r
    → AreDone c (taken c came) settled → (settled < s → s + c.window ≤ r.head.frame) → AreDone c (taken c (Datagram bytes ∷ came)) s
greater-done c came bytes r settled s is done left f least within = elim (cases_lt settled f) [
  | inr below ↦
      let stays = done-stays c r (taken c came) f (done f least below) in
      subst (λ (l : List Received). is_done c l f ≡ true) (sym is.now) stays
  | inl above ↦
      let far = left (omega arith) in
      let now = taken c (Datagram bytes ∷ came) in
      or_right (is_some (complete c now f)) (is_left c.window now f)
      (left-from c.window now f (omega (arith, greater-greatest c came bytes r is)))
]

-- ---- what the depack stands for

different : (a b : ℕ) → a ≢ b → b ≤ a → b < a
different a b other within = elim (cases_lt b a) [
  | inl less ↦ less
  | inr more ↦ absurd (other (omega arith))
]

advance-kinds : (d a : Depack) (c : ClientSettings) (came : List Arrival) (bytes : List ℕ) (r : Received) (f : ℕ) → HasWindow c → IsDepackOf d c came
    → IsGreater c came bytes r → IsAdvance d a r.head.frame → d.passed < f → f ≤ r.head.frame → (Some r.head.frame ≡ Some f → ⊥)
    → noted_kind a f ≡ kind_if_complete (complete c (taken c (Datagram bytes ∷ came)) f)
advance-kinds d a c came bytes r f window stands is advance above within noting =
    let most : c.window ≤ 4 = window.greatest in
    let handing = stands.handing in
    let other : r.head.frame ≢ f = λ e. noting (ap (λ (k : ℕ). Some k) e) in
    let none : None ≡ Some f → ⊥ = λ e. cc in
    elim (cases_lt d.greatest f) [
      | inr old ↦
          advance.older f (omega arith) old (omega (arith, stands.all_passed, handing.next_open))
          ∙ handing.kinds f above old none ∙ ap kind_if_complete (sym (greater-other c came bytes r f is other))
      | inl new ↦
          advance.newer f new
          ∙ sym (ap kind_if_complete
          (greater-none c came bytes r f is (omega (arith, handing.is_greatest)) (omega (arith, different r.head.frame f other within))))
    ]

-- the depack after the greatest frame is this one, settled up to s
moved-at : (d : Depack) (frames kinds : List ℕ) (s : ℕ) (c : ClientSettings) (came : List Arrival) (bytes : List ℕ) (r : Received) → HasWindow c
    → IsDepackOf d c came → IsGreater c came bytes r
    → IsAdvance d (record d { greatest = r.head.frame; newest = None; frames = frames; kinds = kinds }) r.head.frame
    → d.settled ≤ s → s < r.head.frame → r.head.frame < suc s + c.window → (d.settled < s → s + c.window ≤ r.head.frame)
    → Settling (record d { greatest = r.head.frame; newest = None; frames = frames; kinds = kinds; settled = s }) c (Datagram bytes ∷ came)
    (Some r.head.frame) (handed c came)
moved-at d frames kinds s c came bytes r window stands is advance more below still_open left =
    let a : Depack = record d { greatest = r.head.frame; newest = None; frames = frames; kinds = kinds } in
    let handing = stands.handing in
    let is_done_now = greater-done c came bytes r d.settled s is handing.are_done left in
    record {
      window = handing.window;
      is_greatest = sym (greater-greatest c came bytes r is);
      kinds = λ f above within noting. advance-kinds d a c came bytes r f window stands is advance above within noting;
      is_unnoted = λ f e.
          let same : r.head.frame ≡ f = cc in
          record {
            nothing = advance.newer f (omega (arith, same, handing.is_greatest, is.above));
            above = omega (arith, same);
            within = omega (arith, same);
            free = inl (sym same);
          };
      none_above = advance.none_above;
      passed_settled = omega (arith, handing.passed_settled);
      settled_greatest = omega arith;
      are_done = is_done_now;
      next_open = still_open;
      are_given =
          handing.are_given
          ∙ sym (front-same c came (Datagram bytes ∷ came) d.passed refl
          (λ f least within. greater-other c came bytes r f is
          (λ e. absurd (omega (arith, e, is.above, handing.is_greatest, handing.passed_settled, handing.settled_greatest)))));
      last_given = handing.last_given;
      waits = handing.waits;
      since = came;
      same_resets = refl;
      was_settled = omega (arith, settled-is_so d c came (handed c came) handing, stands.all_passed);
    }

-- after the step that leaves frames, with the frames that it settles
pub moved-none : (d a b : Depack) (c : ClientSettings) (came : List Arrival) (bytes : List ℕ) (r : Received) → HasWindow c → IsDepackOf d c came
    → IsGreater c came bytes r → IsAdvance d a r.head.frame → LeavesNone a b
    → Settling b c (Datagram bytes ∷ came) (Some r.head.frame) (handed c came)
moved-none d a b c came bytes r window stands is advance leaves =
    let handing = stands.handing in
    let Is : Depack → Type 0 = λ x. Settling x c (Datagram bytes ∷ came) (Some r.head.frame) (handed c came) in
    let At : Depack → Type 0 = λ x. x.greatest - x.window ≤ x.settled in
    let no_more : r.head.frame - d.window ≤ d.settled = subst At advance.rest leaves.no_more in
    subst Is (sym (leaves.rest ∙ advance.rest))
    (moved-at d a.frames a.kinds d.settled c came bytes r window stands is (subst (λ (x : Depack). IsAdvance d x r.head.frame) advance.rest advance)
    (omega arith) (omega (arith, handing.settled_greatest, handing.is_greatest, is.above)) (omega (arith, handing.window)) (λ more. absurd (omega arith)))

pub moved-some : (d a b : Depack) (range : Range) (c : ClientSettings) (came : List Arrival) (bytes : List ℕ) (r : Received) → HasWindow c
    → IsDepackOf d c came → IsGreater c came bytes r → IsAdvance d a r.head.frame → LeavesRange a b range
    → Settling b c (Datagram bytes ∷ came) (Some r.head.frame) (handed c came)
moved-some d a b range c came bytes r window stands is advance leaves =
    let least : 1 ≤ c.window = window.least in
    let handing = stands.handing in
    let w : d.window ≡ c.window = handing.window in
    let Is : Depack → Type 0 = λ x. Settling x c (Datagram bytes ∷ came) (Some r.head.frame) (handed c came) in
    let Left : Depack → Depack = λ x. record x { settled = x.greatest - x.window } in
    let More : Depack → Type 0 = λ x. x.settled < x.greatest - x.window in
    let more : d.settled < r.head.frame - d.window = subst More advance.rest leaves.more in
    subst Is (sym (leaves.rest ∙ ap Left advance.rest))
    (moved-at d a.frames a.kinds (r.head.frame - d.window) c came bytes r window stands is
    (subst (λ (x : Depack). IsAdvance d x r.head.frame) advance.rest advance)
    (omega arith) (omega arith) (omega arith) (λ above. omega arith))

-- ---- what it asks for

-- a frame that is settled isn't lost
not-lost : (c : ClientSettings) (rs : List Received) (r : Received) (s f : ℕ) → AreDone c rs s → IsLost c rs (r ∷ rs) f → s < f
not-lost c rs r s f done lost = elim (cases_lt s f) [
  | inl above ↦ above
  | inr within ↦
      let is = done f lost.least within in
      let none = sym (done-same c r rs f is) ∙ lost.not_complete in
      let not_done : is_done c rs f ≡ false =
      ap (λ (o : Option Frame). is_some o || is_left c.window rs f) none ∙ lost.was_open in
      absurd (both_ways (is_done c rs f) not_done is)
]

asks-none : (c : ClientSettings) (rs : List Received) (r : Received) (s : ℕ) → AreDone c rs s → greatest rs < r.head.frame
    → r.head.frame - c.window ≤ s → (f : ℕ) → IsLost c rs (r ∷ rs) f → ⊥
asks-none c rs r s done greater no_more f lost =
    let above = not-lost c rs r s f done lost in
    let now = left-says c.window (r ∷ rs) f lost.is_left_now in
    absurd (omega (arith, greatest-new r rs greater))

pub moved-asks_none : (d : Depack) (c : ClientSettings) (came : List Arrival) (bytes : List ℕ) (r : Received) → HasWindow c → IsDepackOf d c came
    → IsGreater c came bytes r → r.head.frame - d.window ≤ d.settled → newly_asked c (Datagram bytes) came ≡ None
moved-asks_none d c came bytes r window stands is no_more =
    let rs = taken c came in
    let Nothing : List Received → Type 0 = λ l. (f : ℕ) → IsLost c rs l f → ⊥ in
    (arrival_asks_for_nothing c (Datagram bytes) came window).1
    (subst Nothing (sym is.now) (asks-none c rs r d.settled stands.handing.are_done is.above (omega (arith, stands.handing.window))))

next-none : (d : Depack) (c : ClientSettings) (came : List Arrival) → IsDepackOf d c came → d.settled < d.greatest
    → complete c (taken c came) (suc d.settled) ≡ None
next-none d c came stands below =
    let handing = stands.handing in
    let noting : None ≡ Some (suc d.settled) → ⊥ = λ e. cc in
    kind-none (complete c (taken c came) (suc d.settled))
    (sym (handing.kinds (suc d.settled) (omega (arith, handing.passed_settled)) (omega arith) noting) ∙ handing.next_nothing below)

-- the frame behind the settled ones isn't complete
next-not_complete : (d : Depack) (c : ClientSettings) (came : List Arrival) → IsDepackOf d c came → complete c (taken c came) (suc d.settled) ≡ None
next-not_complete d c came stands = elim (cases_lt d.settled d.greatest) [
  | inl below ↦ next-none d c came stands below
  | inr at_it ↦
      complete-none c (taken c came) (suc d.settled)
      (NoneOf-above (taken c came) (suc d.settled) (omega (arith, stands.handing.is_greatest)))
]

asks-some : (d : Depack) (c : ClientSettings) (came : List Arrival) (r : Received) → HasWindow c → IsDepackOf d c came
    → greatest (taken c came) < r.head.frame → d.settled < r.head.frame - d.window
    → IsLostRange c (taken c came) (r ∷ taken c came) (record { first = suc d.settled; last = r.head.frame - d.window })
asks-some d c came r window stands greater more =
    let least : 1 ≤ c.window = window.least in
    let handing = stands.handing in
    let w : d.window ≡ c.window = handing.window in
    let rs = taken c came in
    let g = greatest-new r rs greater in
    record {
      first_lost = record {
        least = omega arith;
        was_open = left-not_from c.window rs (suc d.settled) (omega (arith, handing.next_open, handing.is_greatest));
        is_left_now = left-from c.window (r ∷ rs) (suc d.settled) (omega arith);
        not_complete =
            complete-other c r rs (suc d.settled) (ne_eqb r.head.frame (suc d.settled) (λ e. absurd (omega (arith, e))))
            ∙ next-not_complete d c came stands;
      };
      none_below = λ f lost. not-lost c rs r d.settled f handing.are_done lost;
      last_left = omega arith;
    }

pub moved-asks_some : (d : Depack) (c : ClientSettings) (came : List Arrival) (bytes : List ℕ) (r : Received) → HasWindow c → IsDepackOf d c came
    → IsGreater c came bytes r → d.settled < r.head.frame - d.window
    → newly_asked c (Datagram bytes) came ≡ Some (record { first = suc d.settled; last = r.head.frame - d.window })
moved-asks_some d c came bytes r window stands is more =
    let rs = taken c came in
    let range : Range = record { first = suc d.settled; last = r.head.frame - d.window } in
    let Lost : List Received → Type 0 = λ l. IsLostRange c rs l range in
    (arrival_asks_for_lost c (Datagram bytes) came range window).1
    (subst Lost (sym is.now) (asks-some d c came r window stands is.above more))

-- ---- one move, as it is told

-- the greatest frame is the datagram's
move-advances : (moved : Moved) (d a : Depack) (c : ClientSettings) (came : List Arrival) (bytes : List ℕ) (r : Received) → IsDepackOf d c came
    → IsMove moved c came bytes r → (HasNoneAbove d → d.greatest < moved.to → IsAdvance d a moved.to) → IsAdvance d a r.head.frame
move-advances moved d a c came bytes r stands is advances =
    subst (λ (to : ℕ). IsAdvance d a to) is.to
    (advances stands.handing.none_above (omega (arith, stands.handing.is_greatest, is.from, is.rises)))

pub move-settles : (moved : Moved) (d a b : Depack) (o : Option Range) (c : ClientSettings) (came : List Arrival) (bytes : List ℕ) (r : Received) → HasWindow c
    → IsDepackOf d c came → IsMove moved c came bytes r → (HasNoneAbove d → d.greatest < moved.to → IsAdvance d a moved.to)
    → MatchOption o (LeavesNone a b) (λ range. LeavesRange a b range) → Settling b c (Datagram bytes ∷ came) (Some r.head.frame) (handed c came)
move-settles moved d a b None c came bytes r window stands is advances leaves =
    moved-none d a b c came bytes r window stands (greater-from moved c came bytes r is)
    (move-advances moved d a c came bytes r stands is advances) leaves
move-settles moved d a b (Some range) c came bytes r window stands is advances leaves =
    moved-some d a b range c came bytes r window stands (greater-from moved c came bytes r is)
    (move-advances moved d a c came bytes r stands is advances) leaves

pub move-asks : (moved : Moved) (d a b : Depack) (o : Option Range) (c : ClientSettings) (came : List Arrival) (bytes : List ℕ) (r : Received) → HasWindow c
    → IsDepackOf d c came → IsMove moved c came bytes r → (HasNoneAbove d → d.greatest < moved.to → IsAdvance d a moved.to)
    → MatchOption o (LeavesNone a b) (λ range. LeavesRange a b range) → o ≡ newly_asked c (Datagram bytes) came
move-asks moved d a b None c came bytes r window stands is advances leaves =
    let advance = move-advances moved d a c came bytes r stands is advances in
    let At : Depack → Type 0 = λ x. x.greatest - x.window ≤ x.settled in
    sym (moved-asks_none d c came bytes r window stands (greater-from moved c came bytes r is) (subst At advance.rest leaves.no_more))
move-asks moved d a b (Some range) c came bytes r window stands is advances leaves =
    let advance = move-advances moved d a c came bytes r stands is advances in
    let More : Depack → Type 0 = λ x. x.settled < x.greatest - x.window in
    let Lost : Depack → Range = λ x. record { first = suc x.settled; last = x.greatest - x.window } in
    ap (λ (x : Range). Some x) (leaves.is_range ∙ ap Lost advance.rest)
    ∙ sym (moved-asks_some d c came bytes r window stands (greater-from moved c came bytes r is) (subst More advance.rest leaves.more))
