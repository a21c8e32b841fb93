-- The newest valid frames of a history, as it grows.
use Rattle.std.proofs.Common.{◌≡◌, ◌≢◌, ◌<◌, ◌≤◌, ◌+◌, ◌-◌, ℕ, ℤ, zero, suc, true, false, not, ◌&&◌, ◌||◌, List, [], ◌∷◌, ◌++◌, length, take, drop, Option}
use Rattle.std.proofs.Common.{Some, None, refl, sym, ap, subst, ◌∙◌, arith, inl, inr}
use Rattle.std.specs.Prelude.{◌==◌, nat_lt, slice_get, min, if◌then◌else◌}
use Rattle.std.proofs.lemmas.Bool.{cond-true, cond-false, cases_Bool, cases_eq, cases_lt, and_parts, and_from, and_left, and_right, eq-eqb, ne_eqb, lt-ltb}
use Rattle.std.proofs.lemmas.Bool.{le-ltb, le-leb, lt-leb, leb-true, leb-false, false≢true}
use Rattle.std.proofs.lemmas.List.{length-append}
use Rattle.circular_buffer.specs.Buffer.{keep_last, last_item}
use Rattle.gs_tape.specs.Tick.{Tick}
use Rattle.gs_refs.specs.declared.entry.Entry.{Entry}
use Rattle.gs_refs.specs.declared.entry.Entry.TheVariants.{Sent, Invalid, IdrAsked, Ended}
use Rattle.gs_refs.specs.declared.candidate.Candidate.{Candidate}
use Rattle.gs_refs.specs.History.{frames, tick_of, is_valid, IsValid}
use Rattle.gs_refs.specs.Choice.{names}
use Rattle.gs_refs.specs.Candidates.{KeptCandidates, NoneBetween, AreValidAbove, KeepsValid, frame_or, reaches_at, reaches, IsGreatestNamed}
use Rattle.gs_refs.proofs.Choices.{valid_was_sent}
use Rattle.gs_refs.proofs.Lookups.{tick_of-sent, tick_of-before}
use Rattle.gs_refs.proofs.Greatest.{is_usable, NoneAbove, greatest-some, greatest-none}

-- ---- what wasn't sent isn't valid

pub unsent : (h : List Entry) (v : ℕ) → frames h < v → is_valid h v ≡ false
unsent h v above = elim (cases_Bool (is_valid h v)) [
  | inl valid ↦ let sent = valid_was_sent h v valid in absurd (omega (arith, sent.1))
  | inr not_valid ↦ not_valid
]

pub no_zero : (h : List Entry) → is_valid h 0 ≡ false
no_zero h = elim (cases_Bool (is_valid h 0)) [
  | inl valid ↦ let sent = valid_was_sent h 0 valid in absurd (omega (arith, sent.0))
  | inr not_valid ↦ not_valid
]

-- ---- one more frame

-- behind the frame that was sent last, nothing is valid yet
none_behind : (h : List Entry) (tick kind reference : ℕ) → AreValidAbove (Sent tick kind reference ∷ h) (frames h + 1) []
none_behind h tick kind reference v above = unsent (Sent tick kind reference ∷ h) v above

pub newest_is_valid : (h : List Entry) (tick kind reference v : ℕ) → v ≡ frames h + 1 → IsValid (Sent tick kind reference ∷ h) v
newest_is_valid h tick kind reference v e = ap (λ b. b || (not (kind == 2) && is_valid h v)) (eq-eqb v (frames h + 1) e)

-- a frame that refers to another leaves those before it as they were
pub before_is : (h : List Entry) (tick kind reference v : ℕ) → kind ≢ 2 → v ≤ frames h → is_valid (Sent tick kind reference ∷ h) v ≡ is_valid h v
before_is h tick kind reference v other most =
    ap (λ b. b || (not (kind == 2) && is_valid h v)) (ne_eqb v (frames h + 1) (λ e. omega (arith, e)))
    ∙ ap (λ b. not b && is_valid h v) (ne_eqb kind 2 other)

-- and an IDR frame leaves none of them
pub none_before : (h : List Entry) (tick reference v : ℕ) → v ≤ frames h → is_valid (Sent tick 2 reference ∷ h) v ≡ false
none_before h tick reference v most = ap (λ b. b || false) (ne_eqb v (frames h + 1) (λ e. omega (arith, e)))

pub above-idr : (h : List Entry) (tick reference : ℕ) (c : Candidate) → c.frame ≡ frames h + 1 → c.tick ≡ tick
    → AreValidAbove (Sent tick 2 reference ∷ h) 0 (c ∷ [])
above-idr h tick reference c e is_tick = (
  omega (arith, e),
  newest_is_valid h tick 2 reference c.frame e,
  tick_of-sent h tick 2 reference c.frame e ∙ sym is_tick,
  λ v above below. none_before h tick reference v (omega (arith, e)),
  λ v above. unsent (Sent tick 2 reference ∷ h) v (omega (arith, e)),
)

pub above-sent : (h : List Entry) (tick kind reference low : ℕ) (cs : List Candidate) (c : Candidate) → kind ≢ 2 → c.frame ≡ frames h + 1 → c.tick ≡ tick
    → low ≤ frames h → AreValidAbove h low cs → AreValidAbove (Sent tick kind reference ∷ h) low (cs ++ c ∷ [])
above-sent h tick kind reference low [] c other e is_tick most none = (
  omega (arith, e),
  newest_is_valid h tick kind reference c.frame e,
  tick_of-sent h tick kind reference c.frame e ∙ sym is_tick,
  λ v above below. before_is h tick kind reference v other (omega (arith, e)) ∙ none v above,
  λ v above. unsent (Sent tick kind reference ∷ h) v (omega (arith, e)),
)
above-sent h tick kind reference low (d ∷ ds) c other e is_tick most all =
    let within : d.frame ≤ frames h = (valid_was_sent h d.frame (all.1)).1 in (
      all.0,
      before_is h tick kind reference d.frame other within ∙ all.1,
      tick_of-before h tick kind reference d.frame within ∙ all.2,
      λ v above below. before_is h tick kind reference v other (omega arith) ∙ all.3 v above below,
      above-sent h tick kind reference d.frame ds c other e is_tick within all.4,
    )

-- ---- entries that send nothing

pub above-asked : (h : List Entry) (low : ℕ) (cs : List Candidate) → AreValidAbove h low cs → AreValidAbove (IdrAsked ∷ h) low cs
above-asked h low [] none = none
above-asked h low (c ∷ cs) all = (all.0, all.1, all.2, all.3, above-asked h c.frame cs all.4)

pub above-ended : (h : List Entry) (first last : ℤ) (low : ℕ) (cs : List Candidate) → AreValidAbove h low cs → AreValidAbove (Ended first last ∷ h) low cs
above-ended h first last low [] none = none
above-ended h first last low (c ∷ cs) all = (all.0, all.1, all.2, all.3, above-ended h first last c.frame cs all.4)

-- ---- an invalidation

-- they are the valid frames above the one and below the other, and perhaps some above that
abbrev pub AreValidBelow : List Entry → ℕ → ℕ → List Candidate → Type 0
AreValidBelow h low first [] = NoneBetween h low first
AreValidBelow h low first (c ∷ cs) =
    (low < c.frame) × IsValid h c.frame × (tick_of h c.frame ≡ c.tick) × NoneBetween h low c.frame × AreValidBelow h c.frame first cs

pub below-all : (h : List Entry) (low first : ℕ) (cs : List Candidate) → AreValidAbove h low cs → AreValidBelow h low first cs
below-all h low first [] none = λ v above below. none v above
below-all h low first (c ∷ cs) all = (all.0, all.1, all.2, all.3, below-all h c.frame first cs all.4)

pub below-popped : (h : List Entry) (low first : ℕ) (cs : List Candidate) (c : Candidate) → first ≤ c.frame → AreValidBelow h low first (cs ++ c ∷ [])
    → AreValidBelow h low first cs
below-popped h low first [] c reached all = λ v above below. all.3 v above (omega arith)
below-popped h low first (d ∷ ds) c reached all = (all.0, all.1, all.2, all.3, below-popped h d.frame first ds c reached all.4)

last_item-more : (c d : Candidate) (ds : List Candidate) → last_item (c ∷ d ∷ ds) ≡ last_item (d ∷ ds)
last_item-more c d ds =
    let e : length (c ∷ d ∷ ds) - 1 ≡ suc (length (d ∷ ds) - 1) = omega arith in ap (slice_get (c ∷ d ∷ ds)) e

-- where the last isn't reached, the first isn't either
head_below : (h : List Entry) (low first : ℕ) (c : Candidate) (cs : List Candidate) → AreValidBelow h low first (c ∷ cs)
    → reaches first (c ∷ cs) ≡ false → c.frame < first
head_below h low first c [] all short = leb-false first c.frame short
head_below h low first c (d ∷ ds) all short =
    let short' : reaches first (d ∷ ds) ≡ false = ap (reaches_at first) (sym (last_item-more c d ds)) ∙ short in
    let below = head_below h c.frame first d ds all.4 short' in
    omega (arith, all.4.0)

rest_short : (first : ℕ) (c : Candidate) (cs : List Candidate) → reaches first (c ∷ cs) ≡ false → reaches first cs ≡ false
rest_short first c [] short = refl
rest_short first c (d ∷ ds) short = ap (reaches_at first) (sym (last_item-more c d ds)) ∙ short

-- no frame from the first on is valid then
gone : (h : List Entry) (first last v : ℕ) → first ≤ v → is_valid (Invalid first last ∷ h) v ≡ false
gone h first last v reached = and_left (nat_lt v first) (is_valid h v) (le-ltb v first reached)

still : (h : List Entry) (first last v : ℕ) → v < first → is_valid (Invalid first last ∷ h) v ≡ is_valid h v
still h first last v below = ap (λ b. b && is_valid h v) (lt-ltb v first below)

above-kept : (h : List Entry) (first last low : ℕ) (cs : List Candidate) → low < first → AreValidBelow h low first cs → reaches first cs ≡ false
    → AreValidAbove (Invalid first last ∷ h) low cs
above-kept h first last low [] under none short = λ v above. elim (cases_lt v first) [
  | inl below ↦ still h first last v below ∙ none v above below
  | inr reached ↦ gone h first last v reached
]
above-kept h first last low (c ∷ cs) under all short =
    let below = head_below h low first c cs all short in (
      all.0,
      still h first last c.frame below ∙ all.1,
      all.2,
      λ v above lower. still h first last v (omega arith) ∙ all.3 v above lower,
      above-kept h first last c.frame cs below all.4 (rest_short first c cs short),
    )

none_left : (h : List Entry) (first last low : ℕ) (cs : List Candidate) → first ≤ low → AreValidBelow h low first cs → reaches first cs ≡ false
    → AreValidAbove (Invalid first last ∷ h) (first - 1) cs
none_left h first last low [] over none short = λ v above. elim (cases_eq first 0) [
  | inl none_below ↦ gone h first last v (omega (arith, none_below))
  | inr some_below ↦ gone h first last v (omega arith)
]
none_left h first last low (c ∷ cs) over all short =
    let below = head_below h low first c cs all short in absurd (omega (arith, all.0))

pub above-invalid : (h : List Entry) (first last low : ℕ) (cs : List Candidate) → AreValidBelow h low first cs → reaches first cs ≡ false
    → AreValidAbove (Invalid first last ∷ h) (min low (first - 1)) cs
above-invalid h first last low cs all short = elim (cases_lt low first) [
  | inl under ↦
      let e : min low (first - 1) ≡ low = omega arith in
      subst (λ (w : ℕ). AreValidAbove (Invalid first last ∷ h) w cs) (sym e) (above-kept h first last low cs under all short)
  | inr over ↦
      let e : min low (first - 1) ≡ first - 1 = omega arith in
      subst (λ (w : ℕ). AreValidAbove (Invalid first last ∷ h) w cs) (sym e) (none_left h first last low cs over all short)
]

-- ---- the last one that is kept

-- it is valid, and no frame above it is
last_is : (h : List Entry) (low : ℕ) (cs : List Candidate) (c : Candidate) → AreValidAbove h low cs → last_item cs ≡ Some c
    → IsValid h c.frame × ((v : ℕ) → c.frame < v → is_valid h v ≡ false)
last_is h low [] c all e = absurd (cc e)
last_is h low (d ∷ []) c all e =
    let same : d ≡ c = grind (arith, e) in
    subst (λ (x : Candidate). IsValid h x.frame × ((v : ℕ) → x.frame < v → is_valid h v ≡ false)) same (all.1, all.4)
last_is h low (d ∷ b ∷ bs) c all e = last_is h d.frame (b ∷ bs) c all.4 (sym (last_item-more d b bs) ∙ e)

last_by : (h : List Entry) (low n : ℕ) (cs : List Candidate) (o : Option Candidate) → AreValidAbove h low cs → low < n → n ≡ frames h → last_item cs ≡ o
    → reaches_at n o ≡ is_valid h n
last_by h low n [] o all above count e = subst (λ (x : Option Candidate). reaches_at n x ≡ is_valid h n) e (sym (all n above))
last_by h low n (c ∷ cs) None all above count e = absurd (some_last c cs e)
  where
    some_last : (c : Candidate) (cs : List Candidate) → last_item (c ∷ cs) ≡ None → ⊥
    some_last c [] e = cc e
    some_last c (d ∷ ds) e = some_last d ds (sym (last_item-more c d ds) ∙ e)
last_by h low n (c ∷ cs) (Some d) all above count e =
    let it = last_is h low (c ∷ cs) d all e in
    let sent = valid_was_sent h d.frame it.0 in
    elim (cases_eq d.frame n) [
      | inl same ↦ le-leb n d.frame (omega (arith, same)) ∙ sym (subst (λ (k : ℕ). is_valid h k ≡ true) same it.0)
      | inr other ↦ lt-leb n d.frame (omega (arith, sent.1, count)) ∙ sym (it.1 n (omega (arith, sent.1, count)))
    ]

pub last-valid : (h : List Entry) (k : KeptCandidates) (n : ℕ) → KeepsValid h k → 1 ≤ n → n ≡ frames h → reaches n k.frames ≡ is_valid h n
last-valid h k n keeps least count = last_by h k.watermark n k.frames (last_item k.frames) keeps.above (omega (arith, keeps.below, count)) count refl

-- ---- a ring of them

-- one more frame joins the ring, and the oldest falls out of a full one
pushed_room : (h : List Entry) (kind reference watermark capacity : ℕ) (items : List Candidate) (c : Candidate) → kind ≢ 2 → c.frame ≡ frames h + 1
    → length items < capacity → KeepsValid h (record { frames = items; watermark = watermark })
    → KeepsValid (Sent c.tick kind reference ∷ h) (record { frames = keep_last capacity (items ++ c ∷ []); watermark = watermark })
pushed_room h kind reference watermark capacity items c other e room keeps =
    let all : List Candidate = items ++ c ∷ [] in
    let whole : keep_last capacity all ≡ all = ap (λ (n : ℕ). drop n all) (none_over items c capacity room) in
    record {
      above = subst (λ (cs : List Candidate). AreValidAbove (Sent c.tick kind reference ∷ h) watermark cs) (sym whole)
          (above-sent h c.tick kind reference watermark items c other e refl (omega (arith, keeps.below)) keeps.above);
      below = omega (arith, keeps.below);
    }
  where
    none_over : (items : List Candidate) (c : Candidate) (capacity : ℕ) → length items < capacity → length (items ++ c ∷ []) - capacity ≡ 0
    none_over items c capacity room = let e = length-append items (c ∷ []) in omega (arith, e)

pushed_full : (h : List Entry) (kind reference watermark capacity : ℕ) (x : Candidate) (xs : List Candidate) (c : Candidate) → kind ≢ 2
    → c.frame ≡ frames h + 1
    → length (x ∷ xs) ≡ capacity → KeepsValid h (record { frames = x ∷ xs; watermark = watermark })
    → KeepsValid (Sent c.tick kind reference ∷ h) (record { frames = keep_last capacity ((x ∷ xs) ++ c ∷ []); watermark = x.frame })
pushed_full h kind reference watermark capacity x xs c other e full keeps =
    let all : List Candidate = (x ∷ xs) ++ c ∷ [] in
    let rest : keep_last capacity all ≡ xs ++ c ∷ [] = ap (λ (n : ℕ). drop n all) (one_over x xs c capacity full) in
    let sent : x.frame ≤ frames h = (valid_was_sent h x.frame keeps.above.1).1 in
    record {
      above = subst (λ (cs : List Candidate). AreValidAbove (Sent c.tick kind reference ∷ h) x.frame cs) (sym rest)
          (above-sent h c.tick kind reference x.frame xs c other e refl sent keeps.above.4);
      below = omega (arith, sent);
    }
  where
    one_over : (x : Candidate) (xs : List Candidate) (c : Candidate) (capacity : ℕ) → length (x ∷ xs) ≡ capacity → length ((x ∷ xs) ++ c ∷ []) - capacity ≡ 1
    one_over x xs c capacity full = let e = length-append (x ∷ xs) (c ∷ []) in omega (arith, e, full)

pub pushed : (h : List Entry) (kind reference watermark capacity : ℕ) (items : List Candidate) (c : Candidate) → kind ≢ 2 → c.frame ≡ frames h + 1
    → 1 ≤ capacity → length items ≤ capacity → KeepsValid h (record { frames = items; watermark = watermark })
    → KeepsValid (Sent c.tick kind reference ∷ h)
    (record {
      frames = keep_last capacity (items ++ c ∷ []);
      watermark = frame_or (if nat_lt (length items) capacity then None else slice_get (items ++ c ∷ []) 0) watermark;
    })
pushed h kind reference watermark capacity [] c other e some within keeps =
    let P : ℕ → Type 0 = λ w. KeepsValid (Sent c.tick kind reference ∷ h) (record { frames = keep_last capacity (c ∷ []); watermark = w }) in
    let same = cond-true (nat_lt 0 capacity) None (slice_get (c ∷ []) 0) (lt-ltb 0 capacity some) in
    subst P (sym (ap (λ (o : Option Candidate). frame_or o watermark) same)) (pushed_room h kind reference watermark capacity [] c other e some keeps)
pushed h kind reference watermark capacity (x ∷ xs) c other e some within keeps =
    let P : ℕ → Type 0 = λ w. KeepsValid (Sent c.tick kind reference ∷ h) (record { frames = keep_last capacity ((x ∷ xs) ++ c ∷ []); watermark = w }) in
    elim (cases_lt (length (x ∷ xs)) capacity) [
      | inl room ↦
          let same = cond-true (nat_lt (length (x ∷ xs)) capacity) None (Some x) (lt-ltb (length (x ∷ xs)) capacity room) in
          subst P (sym (ap (λ (o : Option Candidate). frame_or o watermark) same))
          (pushed_room h kind reference watermark capacity (x ∷ xs) c other e room keeps)
      | inr full ↦
          let same = cond-false (nat_lt (length (x ∷ xs)) capacity) None (Some x) (le-ltb (length (x ∷ xs)) capacity full) in
          subst P (sym (ap (λ (o : Option Candidate). frame_or o watermark) same))
          (pushed_full h kind reference watermark capacity x xs c other e (omega (arith, full, within)) keeps)
    ]

-- the last one is taken out
pub popped : (cs : List Candidate) (c : Candidate) → last_item cs ≡ Some c → cs ≡ take (length cs - 1) cs ++ c ∷ []
popped [] c e = absurd (cc e)
popped (d ∷ []) c e = let same : d ≡ c = grind (arith, e) in ap (λ (x : Candidate). x ∷ []) same
popped (d ∷ b ∷ bs) c e =
    let rest = popped (b ∷ bs) c (sym (last_item-more d b bs) ∙ e) in
    let count : length (d ∷ b ∷ bs) - 1 ≡ suc (length (b ∷ bs) - 1) = omega arith in
    ap (λ (l : List Candidate). d ∷ l) rest ∙ sym (ap (λ (n : ℕ). take n (d ∷ b ∷ bs) ++ c ∷ []) count)

-- it was reached
pub reached : (frame : ℕ) (cs : List Candidate) (c : Candidate) → last_item cs ≡ Some c → reaches frame cs ≡ true → frame ≤ c.frame
reached frame cs c e is = leb-true frame c.frame (sym (ap (reaches_at frame) e) ∙ is)

pub none_reached : (frame : ℕ) (cs : List Candidate) → last_item cs ≡ None → reaches frame cs ≡ true → ⊥
none_reached frame cs e is = false≢true (sym (ap (reaches_at frame) e) ∙ is)

-- the last one is taken out where it was reached
pub below-pop : (h : List Entry) (low first : ℕ) (cs : List Candidate) → reaches first cs ≡ true → AreValidBelow h low first cs
    → AreValidBelow h low first (take (length cs - 1) cs)
below-pop h low first cs is all = by_last (last_item cs) refl
  where
    by_last : (o : Option Candidate) → last_item cs ≡ o → AreValidBelow h low first (take (length cs - 1) cs)
    by_last None e = absurd (none_reached first cs e is)
    by_last (Some c) e =
        below-popped h low first (take (length cs - 1) cs) c (reached first cs c e is)
        (subst (λ (l : List Candidate). AreValidBelow h low first l) (popped cs c e) all)

-- the frames from the first on were taken out
pub dropped : (h : List Entry) (first last watermark : ℕ) (cs : List Candidate) (old : KeptCandidates) → KeepsValid h old → watermark ≡ old.watermark
    → AreValidBelow h watermark first cs → reaches first cs ≡ false
    → KeepsValid (Invalid first last ∷ h) (record { frames = cs; watermark = min watermark (first - 1) })
dropped h first last watermark cs old keeps same all short = record {
  above = above-invalid h first last watermark cs all short;
  below = omega (arith, keeps.below, same);
}

-- ---- what is found among them

abbrev pub NoneNamed : Tick → List Candidate → Type 0
NoneNamed t [] = Unit {0}
NoneNamed t (c ∷ cs) = (names t c.tick ≡ false) × NoneNamed t cs

pub none_above : (h : List Entry) (t : Tick) (low : ℕ) (cs : List Candidate) → AreValidAbove h low cs → NoneNamed t cs → NoneAbove h t low
none_above h t low [] all none v above = and_left (is_valid h v) (names t (tick_of h v)) (all v above)
none_above h t low (c ∷ cs) all none v above = elim (cases_lt v c.frame) [
  | inl below ↦ and_left (is_valid h v) (names t (tick_of h v)) (all.3 v above below)
  | inr reached ↦ elim (cases_eq v c.frame) [
    | inl at_it ↦ and_right (is_valid h v) (names t (tick_of h v)) (ap (λ k. names t (tick_of h k)) at_it ∙ ap (names t) all.2 ∙ none.0)
    | inr over ↦ none_above h t c.frame cs all.4 none.1 v (omega arith)
  ]
]

-- the last one that is named is the greatest
pub found_above : (h : List Entry) (t : Tick) (low : ℕ) (before : List Candidate) (c : Candidate) (after : List Candidate)
    → AreValidAbove h low (before ++ c ∷ after)
    → names t c.tick ≡ true → NoneNamed t after → (tick_of h c.frame ≡ c.tick) × (is_usable h t c.frame ≡ true) × NoneAbove h t c.frame
found_above h t low [] c after all named none =
    (all.2, and_from (is_valid h c.frame) (names t (tick_of h c.frame)) all.1 (ap (names t) all.2 ∙ named), none_above h t c.frame after all.4 none)
found_above h t low (d ∷ before) c after all named none = found_above h t d.frame before c after all.4 named none

-- the list round one of its places
split-at : (cs : List Candidate) (i : ℕ) (c : Candidate) → slice_get cs i ≡ Some c → cs ≡ take i cs ++ c ∷ drop (i + 1) cs
split-at [] i c e = absurd (cc e)
split-at (d ∷ ds) zero c e = let same : d ≡ c = grind (arith, e) in ap (λ (x : Candidate). x ∷ ds) same
split-at (d ∷ ds) (suc i) c e =
    let next : suc i + 1 ≡ suc (i + 1) = omega arith in
    ap (λ (l : List Candidate). d ∷ l) (split-at ds i c e) ∙ sym (ap (λ (n : ℕ). d ∷ (take i ds ++ c ∷ drop n (d ∷ ds))) next)

pub found-greatest : (h : List Entry) (t : Tick) (k : KeptCandidates) (i : ℕ) (c : Candidate) → KeepsValid h k → slice_get k.frames i ≡ Some c
    → names t c.tick ≡ true
    → NoneNamed t (drop (i + 1) k.frames) → IsGreatestNamed h t (Some c)
found-greatest h t k i c keeps at named none =
    let all = subst (λ (l : List Candidate). AreValidAbove h k.watermark l) (split-at k.frames i c at) keeps.above in
    let found = found_above h t k.watermark (take i k.frames) c (drop (i + 1) k.frames) all named none in
    let valid = (and_parts (is_valid h c.frame) (names t (tick_of h c.frame)) found.1).0 in
    let sent = valid_was_sent h c.frame valid in
    (greatest-some h t c.frame (frames h) sent.0 sent.1 found.1 found.2, found.0)

pub found-none : (h : List Entry) (t : Tick) (k : KeptCandidates) → KeepsValid h k → k.watermark ≡ 0 → NoneNamed t k.frames → IsGreatestNamed h t None
found-none h t k keeps none_below none =
    greatest-none h t (frames h) (subst (λ (w : ℕ). NoneAbove h t w) none_below (none_above h t k.watermark k.frames keeps.above none))

-- one more isn't named
pub none-more : (t : Tick) (cs : List Candidate) (i : ℕ) (c : Candidate) → slice_get cs i ≡ Some c → names t c.tick ≡ false → NoneNamed t (drop (i + 1) cs)
    → NoneNamed t (drop i cs)
none-more t [] i c e unnamed none = absurd (cc e)
none-more t (d ∷ ds) zero c e unnamed none =
    let same : d ≡ c = grind (arith, e) in (ap (λ (x : Candidate). names t x.tick) same ∙ unnamed, none)
none-more t (d ∷ ds) (suc i) c e unnamed none =
    let next : suc i + 1 ≡ suc (i + 1) = omega arith in
    none-more t ds i c e unnamed (subst (λ (n : ℕ). NoneNamed t (drop n (d ∷ ds))) next none)
