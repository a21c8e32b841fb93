-- The frames handed among the first n, and how they grow with n.
use Rattle.std.proofs.Common.{◌≡◌, ◌<◌, ◌≤◌, ◌+◌, ◌-◌, ℕ, zero, suc, Bool, true, false, ◌&&◌, ◌||◌, not, List, [], ◌∷◌, ◌++◌, length, Option, Some, None, refl}
use Rattle.std.proofs.Common.{sym, ap, subst, ◌∙◌, arith, inl, inr, append_assoc}
use Rattle.std.specs.Prelude.{nat_lt, ◌==◌, if◌then◌else◌, AllPairs}
use Rattle.std.specs.List.{All, Contains, filter, list_any}
use Rattle.std.proofs.lemmas.Bool.{cases_Bool, cases_lt, cond-true, cond-false}
use Rattle.std.proofs.lemmas.Bool.Decides.{nat_tests}
use Rattle.std.proofs.lemmas.List.{append-nil, length_push}
use Rattle.std.proofs.lemmas.List.Elements.{All-nil, All-head, All-tail, All-weaker, All-push, filter-append, Contains-append_left, Contains-push}
use Rattle.std.proofs.lemmas.List.Elements.{Contains-push_cases}
use Rattle.std.proofs.lemmas.List.Quantifiers.{all_pairs_push}
use Rattle.gs_frames.specs.Client.{ClientSettings}
use Rattle.gs_frames.specs.Image.{Frame}
use Rattle.gs_frames.specs.Received.{Received}
use Rattle.gs_frames.specs.Complete.{complete}
use Rattle.gs_frames.specs.Handed.{Handed, is_re_entry, last_reset_before, has_idr_since, is_handed, hand_on, handed_through}

pub through-zero : (c : ClientSettings) (rs : List Received) (resets : List ℕ) → handed_through c rs resets zero ≡ []
unfolding handed_through
through-zero c rs resets = refl

pub through-suc : (c : ClientSettings) (rs : List Received) (resets : List ℕ) (n : ℕ)
    → handed_through c rs resets (suc n) ≡ hand_on resets (handed_through c rs resets n) (suc n) (complete c rs (suc n))
unfolding handed_through
through-suc c rs resets n = refl

-- ---- one frame more

-- the frame that is handed is complete, and is to be handed
pub record IsHandedNext (resets : List ℕ) (below : List Handed) (f : ℕ) (o : Option Frame) (one : Handed) : Type 0 where
  pub frame : one.frame ≡ f
  pub is_complete : o ≡ Some (record { kind = one.kind; unit = one.unit })
  pub is_to_hand : is_handed resets below f one.kind ≡ true

-- either nothing is added, or that frame
pub hand_on-keeps : (P : List Handed → Type 0) (resets : List ℕ) (below : List Handed) (f : ℕ) (o : Option Frame)
    → P below → ((one : Handed) → IsHandedNext resets below f o one → P (below ++ one ∷ [])) → P (hand_on resets below f o)
hand_on-keeps P resets below f None stays more = stays
hand_on-keeps P resets below f (Some held) stays more =
    let one : Handed = record { frame = f; kind = held.kind; unit = held.unit } in
    let test = is_handed resets below f held.kind in
    elim (cases_Bool test) [
      | inl passes ↦
          subst P (sym (cond-true test (below ++ one ∷ []) below passes)) (more one (record { frame = refl; is_complete = refl; is_to_hand = passes }))
      | inr fails ↦ subst P (sym (cond-false test (below ++ one ∷ []) below fails)) stays
    ]

-- a frame that is to be handed is
pub hand_on-hands : (resets : List ℕ) (below : List Handed) (f : ℕ) (o : Option Frame) (one : Handed) → IsHandedNext resets below f o one
    → hand_on resets below f o ≡ below ++ one ∷ []
hand_on-hands resets below f o one next =
    ap (hand_on resets below f) next.is_complete
    ∙ cond-true (is_handed resets below f one.kind) (below ++ record { frame = f; kind = one.kind; unit = one.unit } ∷ []) below next.is_to_hand
    ∙ ap (λ (k : ℕ). below ++ record { frame = k; kind = one.kind; unit = one.unit } ∷ []) (sym next.frame)

-- what is handed by the last reset before a frame
abbrev handed_since : Option ℕ → List Handed → ℕ → Frame → List Handed
handed_since reset below f held =
    if not (not (held.kind == 2) && not (has_idr_since below reset)) && (is_re_entry held.kind || list_any (λ h. h.frame + 1 == f) below)
    then below ++ record { frame = f; kind = held.kind; unit = held.unit } ∷ []
    else below

-- resets count by the last one before the frame
hand_on-resets : (resets resets' : List ℕ) (below : List Handed) (f : ℕ) (o : Option Frame) → last_reset_before resets f ≡ last_reset_before resets' f
    → hand_on resets below f o ≡ hand_on resets' below f o
hand_on-resets resets resets' below f None e = refl
hand_on-resets resets resets' below f (Some held) e = ap (λ (reset : Option ℕ). handed_since reset below f held) e

-- ---- the first n frames

-- lists of rising frames, from 1 to n
abbrev pub RisesTo : ℕ → List Handed → Type 0
RisesTo n hs = All (λ h. (1 ≤ h.frame) × (h.frame ≤ n)) hs × AllPairs (λ a b. a.frame < b.frame) hs

-- one more, above them
RisesTo-push : (n : ℕ) (hs : List Handed) (one : Handed) → RisesTo n hs → one.frame ≡ suc n → RisesTo (suc n) (hs ++ one ∷ [])
RisesTo-push n hs one before e = (
  All-push (λ h. (1 ≤ h.frame) × (h.frame ≤ suc n)) hs one
      (All-weaker (λ h. (1 ≤ h.frame) × (h.frame ≤ n)) (λ h. (1 ≤ h.frame) × (h.frame ≤ suc n)) (λ h is. (is.0, omega (arith, is.1))) hs before.0)
      (omega arith, omega arith),
  all_pairs_push (λ a b. a.frame < b.frame) hs one before.1 (λ k d h. omega (arith, (before.0 k d h).1)),
)

pub through-rises : (c : ClientSettings) (rs : List Received) (resets : List ℕ) (n : ℕ) → RisesTo n (handed_through c rs resets n)
through-rises c rs resets zero =
    subst (RisesTo zero) (sym (through-zero c rs resets)) (All-nil (λ h. (1 ≤ h.frame) × (h.frame ≤ 0)), λ i j d first second. absurd (omega arith))
through-rises c rs resets (suc n) =
    let before = through-rises c rs resets n in
    let hs = handed_through c rs resets n in
    subst (RisesTo (suc n)) (sym (through-suc c rs resets n))
    (hand_on-keeps (RisesTo (suc n)) resets hs (suc n) (complete c rs (suc n))
    (All-weaker (λ h. (1 ≤ h.frame) × (h.frame ≤ n)) (λ h. (1 ≤ h.frame) × (h.frame ≤ suc n)) (λ h is. (is.0, omega (arith, is.1))) hs before.0, before.1)
    (λ one next. RisesTo-push n hs one before next.frame))

-- they depend on what is complete of them, and on the last reset before each
pub through-same : (c : ClientSettings) (rs rs' : List Received) (resets resets' : List ℕ) (n : ℕ)
    → ((f : ℕ) → 1 ≤ f → f ≤ n → complete c rs f ≡ complete c rs' f)
    → ((f : ℕ) → 1 ≤ f → f ≤ n → last_reset_before resets f ≡ last_reset_before resets' f)
    → handed_through c rs resets n ≡ handed_through c rs' resets' n
through-same c rs rs' resets resets' zero same last = through-zero c rs resets ∙ sym (through-zero c rs' resets')
through-same c rs rs' resets resets' (suc n) same last =
    let before = handed_through c rs' resets' n in
    through-suc c rs resets n
    ∙ ap (λ (hs : List Handed). hand_on resets hs (suc n) (complete c rs (suc n)))
    (through-same c rs rs' resets resets' n (λ f least h. same f least (omega arith)) (λ f least h. last f least (omega arith)))
    ∙ ap (hand_on resets before (suc n)) (same (suc n) (omega arith) (omega arith))
    ∙ hand_on-resets resets resets' before (suc n) (complete c rs' (suc n)) (last (suc n) (omega arith) (omega arith))
    ∙ sym (through-suc c rs' resets' n)

-- a frame that isn't complete adds nothing
pub through-none : (c : ClientSettings) (rs : List Received) (resets : List ℕ) (n : ℕ) → complete c rs (suc n) ≡ None
    → handed_through c rs resets (suc n) ≡ handed_through c rs resets n
through-none c rs resets n none = through-suc c rs resets n ∙ ap (hand_on resets (handed_through c rs resets n) (suc n)) none

pub through-idle : (c : ClientSettings) (rs : List Received) (resets : List ℕ) (m n : ℕ) → m ≤ n
    → ((f : ℕ) → m < f → f ≤ n → complete c rs f ≡ None) → handed_through c rs resets n ≡ handed_through c rs resets m
through-idle c rs resets m zero within idle = let same : 0 ≡ m = omega arith in ap (handed_through c rs resets) same
through-idle c rs resets m (suc n) within idle = elim (cases_lt m (suc n)) [
  | inl below ↦
      through-none c rs resets n (idle (suc n) below (omega arith))
      ∙ through-idle c rs resets m n (omega arith) (λ f above h. idle f above (omega arith))
  | inr at_it ↦ let same : suc n ≡ m = omega arith in ap (handed_through c rs resets) same
]

-- each adds one at most
pub through-length : (c : ClientSettings) (rs : List Received) (resets : List ℕ) (m n : ℕ) → m ≤ n
    → length (handed_through c rs resets n) ≤ length (handed_through c rs resets m) + (n - m)
through-length c rs resets m zero within =
    let same : 0 ≡ m = omega arith in
    let size = ap (λ (k : ℕ). length (handed_through c rs resets k)) same in omega arith
through-length c rs resets m (suc n) within = elim (cases_lt m (suc n)) [
  | inl below ↦
      let before = through-length c rs resets m n (omega arith) in
      let hs = handed_through c rs resets n in
      let size = ap (λ (l : List Handed). length l) (through-suc c rs resets n) in
      let more =
      hand_on-keeps (λ l. length l ≤ length hs + 1) resets hs (suc n) (complete c rs (suc n)) (omega arith)
      (λ one next. omega (arith, length_push hs one)) in
      omega arith
  | inr at_it ↦
      let same : suc n ≡ m = omega arith in
      let size = ap (λ (k : ℕ). length (handed_through c rs resets k)) same in omega arith
]

-- ---- those above a frame, and those below it

filter-none : {A : Type 0} (test : A → Bool) (xs : List A) → All (λ x. test x ≡ false) xs → filter test xs ≡ []
filter-none test [] all = refl
filter-none test (x ∷ xs) all =
    cond-false (test x) (x ∷ filter test xs) (filter test xs) (All-head (λ y. test y ≡ false) x xs all)
    ∙ filter-none test xs (All-tail (λ y. test y ≡ false) x xs all)

filter-all : {A : Type 0} (test : A → Bool) (xs : List A) → All (λ x. test x ≡ true) xs → filter test xs ≡ xs
filter-all test [] all = refl
filter-all {A = A} test (x ∷ xs) all =
    cond-true (test x) (x ∷ filter test xs) (filter test xs) (All-head (λ y. test y ≡ true) x xs all)
    ∙ ap (λ (l : List A). x ∷ l) (filter-all test xs (All-tail (λ y. test y ≡ true) x xs all))

-- none of the first n is above n
pub above-none : (c : ClientSettings) (rs : List Received) (resets : List ℕ) (n m : ℕ) → n ≤ m
    → filter (λ h. nat_lt m h.frame) (handed_through c rs resets n) ≡ []
above-none c rs resets n m within =
    filter-none (λ h. nat_lt m h.frame) (handed_through c rs resets n)
    (λ k d h. let is = ((through-rises c rs resets n).0 k d h).1 in grind (arith, nat_tests))

-- one more that is above
push-above : (m : ℕ) (front hs : List Handed) (one : Handed) → hs ≡ front ++ filter (λ h. nat_lt m h.frame) hs → m < one.frame
    → hs ++ one ∷ [] ≡ front ++ filter (λ h. nat_lt m h.frame) (hs ++ one ∷ [])
push-above m front hs one before above =
    let passes : nat_lt m one.frame ≡ true = grind (arith, nat_tests) in
    let kept = filter (λ h. nat_lt m h.frame) hs in
    ap (λ (l : List Handed). l ++ one ∷ []) before ∙ append_assoc front kept (one ∷ [])
    ∙ ap (λ (l : List Handed). front ++ (kept ++ l)) (sym (cond-true (nat_lt m one.frame) (one ∷ []) [] passes))
    ∙ ap (λ (l : List Handed). front ++ l) (sym (filter-append (λ h. nat_lt m h.frame) hs (one ∷ [])))

-- one more that isn't below
push-not_below : (f : ℕ) (hs : List Handed) (one : Handed) → f < one.frame
    → filter (λ h. nat_lt h.frame (suc f)) (hs ++ one ∷ []) ≡ filter (λ h. nat_lt h.frame (suc f)) hs
push-not_below f hs one above =
    let fails : nat_lt one.frame (suc f) ≡ false = grind (arith, nat_tests) in
    let kept = filter (λ h. nat_lt h.frame (suc f)) hs in
    filter-append (λ h. nat_lt h.frame (suc f)) hs (one ∷ [])
    ∙ ap (λ (l : List Handed). kept ++ l) (cond-false (nat_lt one.frame (suc f)) (one ∷ []) [] fails) ∙ append-nil kept

-- all of the first n are at most n
below-all : (c : ClientSettings) (rs : List Received) (resets : List ℕ) (n f : ℕ) → n ≤ f
    → filter (λ h. nat_lt h.frame (suc f)) (handed_through c rs resets n) ≡ handed_through c rs resets n
below-all c rs resets n f within =
    filter-all (λ h. nat_lt h.frame (suc f)) (handed_through c rs resets n)
    (λ k d h. let is = ((through-rises c rs resets n).0 k d h).1 in grind (arith, nat_tests))

-- those of the first n, and behind them the others
pub through-split : (c : ClientSettings) (rs : List Received) (resets : List ℕ) (m n : ℕ) → m ≤ n
    → handed_through c rs resets n ≡ handed_through c rs resets m ++ filter (λ h. nat_lt m h.frame) (handed_through c rs resets n)
through-split c rs resets m zero within =
    let same : 0 ≡ m = omega arith in
    ap (handed_through c rs resets) same ∙ sym (append-nil (handed_through c rs resets m))
    ∙ ap (λ (l : List Handed). handed_through c rs resets m ++ l) (sym (above-none c rs resets zero m (omega arith)))
through-split c rs resets m (suc n) within = elim (cases_lt m (suc n)) [
  | inr at_it ↦
      let same : suc n ≡ m = omega arith in
      ap (handed_through c rs resets) same ∙ sym (append-nil (handed_through c rs resets m))
      ∙ ap (λ (l : List Handed). handed_through c rs resets m ++ l) (sym (above-none c rs resets (suc n) m (omega arith)))
  | inl below ↦
      let front = handed_through c rs resets m in
      let hs = handed_through c rs resets n in
      let Splits : List Handed → Type 0 = λ l. l ≡ front ++ filter (λ h. nat_lt m h.frame) l in
      let before = through-split c rs resets m n (omega arith) in
      subst Splits (sym (through-suc c rs resets n))
      (hand_on-keeps Splits resets hs (suc n) (complete c rs (suc n)) before
      (λ one next. push-above m front hs one before (omega (arith, next.frame))))
]

-- those of the first n that are at most f are those of the first f
pub through-below : (c : ClientSettings) (rs : List Received) (resets : List ℕ) (f n : ℕ) → f ≤ n
    → filter (λ h. nat_lt h.frame (suc f)) (handed_through c rs resets n) ≡ handed_through c rs resets f
through-below c rs resets f zero within =
    let same : 0 ≡ f = omega arith in
    below-all c rs resets zero f (omega arith) ∙ ap (handed_through c rs resets) same
through-below c rs resets f (suc n) within = elim (cases_lt f (suc n)) [
  | inr at_it ↦
      let same : suc n ≡ f = omega arith in
      below-all c rs resets (suc n) f (omega arith) ∙ ap (handed_through c rs resets) same
  | inl below ↦
      let hs = handed_through c rs resets n in
      let Below : List Handed → Type 0 = λ l. filter (λ h. nat_lt h.frame (suc f)) l ≡ handed_through c rs resets f in
      let before = through-below c rs resets f n (omega arith) in
      subst Below (sym (through-suc c rs resets n))
      (hand_on-keeps Below resets hs (suc n) (complete c rs (suc n)) before
      (λ one next. push-not_below f hs one (omega (arith, next.frame)) ∙ before))
]

-- ---- which frames are among them

-- a frame from 1 to n that is complete and to be handed
pub record IsAmong (c : ClientSettings) (rs : List Received) (resets : List ℕ) (n : ℕ) (h : Handed) : Type 0 where
  pub below : ℕ
  pub frame : h.frame ≡ suc below
  pub within : h.frame ≤ n
  pub next : IsHandedNext resets (handed_through c rs resets below) (suc below) (complete c rs (suc below)) h

-- they are among the first n
pub among-from : (c : ClientSettings) (rs : List Received) (resets : List ℕ) (n : ℕ) (h : Handed) → Contains (handed_through c rs resets n) h
    → IsAmong c rs resets n h
among-from c rs resets zero h here =
    let none : Contains [] h = subst (λ (l : List Handed). Contains l h) (through-zero c rs resets) here in
    let inside = none.1 in
    absurd (omega arith)
among-from c rs resets (suc n) h here =
    let hs = handed_through c rs resets n in
    let Among : List Handed → Type 0 = λ l. Contains l h → IsAmong c rs resets (suc n) h in
    let before : Among hs = λ there.
    let is = among-from c rs resets n h there in
    record { below = is.below; frame = is.frame; within = omega (arith, is.within); next = is.next } in
    hand_on-keeps Among resets hs (suc n) (complete c rs (suc n)) before
    (λ one next there. elim (Contains-push_cases hs one h there) [
      | inl inside ↦ before inside
      | inr same ↦
          subst (IsAmong c rs resets (suc n)) same (record { below = n; frame = next.frame; within = omega (arith, next.frame); next = next })
    ])
    (subst (λ (l : List Handed). Contains l h) (through-suc c rs resets n) here)

-- each of those is handed
pub among-is : (c : ClientSettings) (rs : List Received) (resets : List ℕ) (n : ℕ) (h : Handed) → IsAmong c rs resets n h
    → Contains (handed_through c rs resets n) h
among-is c rs resets zero h is = absurd (omega (arith, is.frame, is.within))
among-is c rs resets (suc n) h is = elim (cases_lt h.frame (suc n)) [
  | inl below ↦
      let hs = handed_through c rs resets n in
      let before = among-is c rs resets n h (record { below = is.below; frame = is.frame; within = omega arith; next = is.next }) in
      let Has : List Handed → Type 0 = λ l. Contains l h in
      subst Has (sym (through-suc c rs resets n))
      (hand_on-keeps Has resets hs (suc n) (complete c rs (suc n)) before (λ one next. Contains-append_left hs (one ∷ []) h before))
  | inr at_it ↦
      let same : is.below ≡ n = omega (arith, is.frame, is.within) in
      let next = subst (λ (k : ℕ). IsHandedNext resets (handed_through c rs resets k) (suc k) (complete c rs (suc k)) h) same is.next in
      let hs = handed_through c rs resets n in
      let Has : List Handed → Type 0 = λ l. Contains l h in
      subst Has (sym (through-suc c rs resets n ∙ hand_on-hands resets hs (suc n) (complete c rs (suc n)) h next)) (Contains-push hs h)
]
