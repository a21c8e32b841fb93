-- Frames that a reset bars, and those that it doesn't: an IDR frame was handed between.
use Rattle.std.proofs.Common.{◌≡◌, ◌≢◌, ◌⊎◌, ◌<◌, ◌≤◌, ◌+◌, ℕ, zero, suc, Bool, true, false, not, ◌&&◌, ◌||◌, List, [], ◌∷◌, Option, Some, None, refl, sym}
use Rattle.std.proofs.Common.{subst, ◌∙◌, arith, inl, inr}
use Rattle.std.specs.Prelude.{◌==◌, nat_lt}
use Rattle.std.specs.List.{All, Contains, filter, list_any}
use Rattle.std.proofs.lemmas.Bool.{cond-true, cond-false, cases_Bool, eq-eqb, eqb-true, ne_eqb, ltb-true, ltb-false, lt-ltb, and_parts, and_from, not_from_true}
use Rattle.std.proofs.lemmas.Bool.{not_from_false, false≢true}
use Rattle.std.proofs.lemmas.List.Elements.{All-nil, All-cons, All-weaker, All-filter, All-contains, All-contains_itself, filter_passes}
use Rattle.std.proofs.lemmas.List.Folds.{Any-from_list_any, list_any-from_Any}
use Rattle.gs_frames.specs.Client.{ClientSettings, Arrival, Datagram, Reset}
use Rattle.gs_frames.specs.Handed.{Handed, is_re_entry, settled_at_resets, last_reset_before, has_idr_since, is_barred, handed}
use Rattle.gs_frames.specs.HandedLaws.{handed_below, IsToHand}
use Rattle.gs_bytes.proofs.Lists.{contains_behind}
use Rattle.gs_frames.proofs.HandedNext.{resets-within}

-- ---- lists

one_or_behind : {X : Type 0} (y : X) (ys : List X) (x : X) → Contains (y ∷ ys) x → (y ≡ x) ⊎ Contains ys x
one_or_behind y ys x (zero, within, at) = inl at
one_or_behind y ys x (suc k, within, at) = inr (k, omega arith, at)

pub in_front : {X : Type 0} (x : X) (xs : List X) → Contains (x ∷ xs) x
in_front x xs = (0, omega arith, refl)

-- what passes the test is kept
kept : {X : Type 0} (test : X → Bool) (xs : List X) (x : X) → test x ≡ true → Contains xs x → Contains (filter test xs) x
kept test [] x passes found = absurd (omega (arith, found.1))
kept {X} test (y ∷ ys) x passes found =
    let Has : List X → Type 0 = λ l. Contains l x in
    elim (one_or_behind y ys x found) [
      | inl it ↦
          let Passes : X → Type 0 = λ z. test z ≡ true in
          let In : X → Type 0 = λ z. Contains (z ∷ filter test ys) x in
          subst Has (sym (cond-true (test y) (y ∷ filter test ys) (filter test ys) (subst Passes (sym it) passes)))
          (subst In (sym it) (in_front x (filter test ys)))
      | inr behind ↦ elim (cases_Bool (test y)) [
        | inl also ↦
            subst Has (sym (cond-true (test y) (y ∷ filter test ys) (filter test ys) also))
            (contains_behind y (filter test ys) x (kept test ys x passes behind))
        | inr other ↦ subst Has (sym (cond-false (test y) (y ∷ filter test ys) (filter test ys) other)) (kept test ys x passes behind)
      ]
    ]

-- a handed frame below another
pub below_is : (client : ClientSettings) (came : List Arrival) (f : ℕ) (g : Handed) → Contains (handed_below client came f) g
    → Contains (handed client came) g × (g.frame < f)
below_is client came f g among =
    let all = handed client came in
    let test : Handed → Bool = λ h. nat_lt h.frame f in (
      All-contains (Contains all) (filter test all) g (All-filter test (Contains all) all (All-contains_itself all)) among,
      ltb-true g.frame f (All-contains (λ h. test h ≡ true) (filter test all) g (filter_passes test all) among),
    )

pub is_below : (client : ClientSettings) (came : List Arrival) (f : ℕ) (g : Handed) → Contains (handed client came) g → g.frame < f
    → Contains (handed_below client came f) g
is_below client came f g among less = kept (λ h. nat_lt h.frame f) (handed client came) g (lt-ltb g.frame f less) among

-- ---- resets

-- the newest is the greatest
abbrev NewestFirst : List ℕ → Type 0
NewestFirst [] = Unit {0}
NewestFirst (s ∷ resets) = All (λ t. t ≤ s) resets × NewestFirst resets

newest_first : (client : ClientSettings) (came : List Arrival) → NewestFirst (settled_at_resets client came)
newest_first client [] = tt
newest_first client (Datagram bytes ∷ came) = newest_first client came
newest_first client (Reset ∷ came) = (resets-within client came, newest_first client came)

-- the greatest reset before a frame, where there is one
abbrev IsLastBefore : List ℕ → ℕ → Option ℕ → Type 0
IsLastBefore resets f None = All (λ s. f ≤ s) resets
IsLastBefore resets f (Some t) = Contains resets t × (t < f) × All (λ s. s < f → s ≤ t) resets

last_is : (resets : List ℕ) (f : ℕ) → NewestFirst resets → IsLastBefore resets f (last_reset_before resets f)
last_is [] f order = All-nil (λ s. f ≤ s)
last_is (s ∷ resets) f order =
    let Is : Option ℕ → Type 0 = IsLastBefore (s ∷ resets) f in
    elim (cases_Bool (nat_lt s f)) [
      | inl before ↦
          subst Is (sym (cond-true (nat_lt s f) (Some s) (last_reset_before resets f) before)) (
            in_front s resets,
            ltb-true s f before,
            All-cons (λ t. t < f → t ≤ s) s resets (λ less. omega arith)
                (All-weaker (λ t. t ≤ s) (λ t. t < f → t ≤ s) (λ t most less. most) resets order.0),
          )
      | inr behind ↦
          subst Is (sym (cond-false (nat_lt s f) (Some s) (last_reset_before resets f) behind))
          (more (last_reset_before resets f) (last_is resets f order.1) (ltb-false s f behind))
    ]
  where
    more : (o : Option ℕ) → IsLastBefore resets f o → f ≤ s → IsLastBefore (s ∷ resets) f o
    more None all above = All-cons (λ t. f ≤ t) s resets above all
    more (Some t) is above = (
      contains_behind s resets t is.0,
      is.1,
      All-cons (λ r. r < f → r ≤ t) s resets (λ less. absurd (omega arith)) is.2,
    )

-- ---- frames that aren't barred

-- an IDR frame that was handed between the reset and the frame
pub record IsIdrBetween (client : ClientSettings) (came : List Arrival) (reset f : ℕ) (idr : Handed) : Type 0 where
  pub among : Contains (handed client came) idr
  pub kind : idr.kind ≡ 2
  pub behind : reset < idr.frame
  pub before : idr.frame < f

since_last : (client : ClientSettings) (came : List Arrival) (f : ℕ) (o : Option ℕ) → IsLastBefore (settled_at_resets client came) f o
    → has_idr_since (handed_below client came f) o ≡ true → (s : ℕ) → Contains (settled_at_resets client came) s → s < f
    → (idr : Handed) × IsIdrBetween client came s f idr
since_last client came f None is has s reset before = let above = All-contains (λ t. f ≤ t) (settled_at_resets client came) s is reset in absurd (omega arith)
since_last client came f (Some t) is has s reset before =
    let found = Any-from_list_any (λ h. h.kind == 2 && nat_lt t h.frame) (handed_below client came f) has in
    let idr : Handed = found.1 in
    let below = below_is client came f idr (found.0, found.2, found.3) in
    let parts = and_parts (idr.kind == 2) (nat_lt t idr.frame) found.4 in
    let last : s ≤ t = All-contains (λ r. r < f → r ≤ t) (settled_at_resets client came) s is.2 reset before in
    let behind = ltb-true t idr.frame parts.1 in
    (idr, record { among = below.0; kind = eqb-true idr.kind 2 parts.0; behind = omega arith; before = below.1 })

not_barred : (kind : ℕ) (has rest : Bool) → kind ≢ 2 → (not (not (kind == 2) && not has) && rest) ≡ true → has ≡ true
not_barred kind true rest other e = refl
not_barred kind false rest other e =
    let barred = and_from (not (kind == 2)) (not false) (not_from_false (kind == 2) (ne_eqb kind 2 other)) refl in
    let parts = and_parts (not (not (kind == 2) && not false)) rest e in
    absurd (false≢true (sym (not_from_true (not (kind == 2) && not false) barred) ∙ parts.0))

-- where a frame that refers to another is handed behind a reset, an IDR frame was handed between
pub idr_since : (client : ClientSettings) (came : List Arrival) (g : Handed) → IsToHand client came g → g.kind ≢ 2 → (s : ℕ)
    → Contains (settled_at_resets client came) s → s < g.frame → (idr : Handed) × IsIdrBetween client came s g.frame idr
idr_since client came g is other s reset before =
    let resets = settled_at_resets client came in
    let below = handed_below client came g.frame in
    let last = last_reset_before resets g.frame in
    let follows = is_re_entry g.kind || list_any (λ h. h.frame + 1 == g.frame) below in
    since_last client came g.frame last (last_is resets g.frame (newest_first client came))
    (not_barred g.kind (has_idr_since below last) follows other is.is_to_hand) s reset before

-- ---- frames that are barred

-- there is a reset before the frame behind which no IDR frame was handed
pub record IsBarredBy (client : ClientSettings) (came : List Arrival) (f reset : ℕ) : Type 0 where
  pub is_reset : Contains (settled_at_resets client came) reset
  pub before : reset < f
  pub no_idr : (idr : Handed) → IsIdrBetween client came reset f idr → ⊥

barred_since : (client : ClientSettings) (came : List Arrival) (f : ℕ) (o : Option ℕ) → IsLastBefore (settled_at_resets client came) f o
    → has_idr_since (handed_below client came f) o ≡ false → (reset : ℕ) × IsBarredBy client came f reset
barred_since client came f None is none = absurd (false≢true (sym none))
barred_since client came f (Some t) is none = (
  t,
  record {
    is_reset = is.0;
    before = is.1;
    no_idr = λ idr between.
        let below = is_below client came f idr between.among between.before in
        let passes = and_from (idr.kind == 2) (nat_lt t idr.frame) (eq-eqb idr.kind 2 between.kind) (lt-ltb t idr.frame between.behind) in
        absurd (false≢true (sym none ∙ list_any-from_Any (λ h. h.kind == 2 && nat_lt t h.frame) (handed_below client came f)
        (below.0, idr, below.1, below.2, passes)));
  },
)

has-none : (kind : ℕ) (has : Bool) → (not (kind == 2) && not has) ≡ true → (kind ≢ 2) × (has ≡ false)
has-none kind true e = absurd (false≢true (and_parts (not (kind == 2)) (not true) e).1)
has-none kind false e = (
  λ two. absurd (false≢true (sym (not_from_true (kind == 2) (eq-eqb kind 2 two)) ∙ (and_parts (not (kind == 2)) (not false) e).0)),
  refl,
)

pub barred_is : (client : ClientSettings) (came : List Arrival) (f kind : ℕ)
    → is_barred (settled_at_resets client came) (handed_below client came f) f kind ≡ true → (kind ≢ 2) × ((reset : ℕ) × IsBarredBy client came f reset)
barred_is client came f kind barred =
    let resets = settled_at_resets client came in
    let last = last_reset_before resets f in
    let is = has-none kind (has_idr_since (handed_below client came f) last) barred in
    (is.0, barred_since client came f last (last_is resets f (newest_first client came)) is.1)
