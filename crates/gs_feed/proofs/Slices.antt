-- A slice of the ticks that a feed keeps.
use Rattle.std.proofs.Common.{◌≡◌, ℕ, ◌+◌, ◌-◌, ◌<◌, ◌≤◌, List, length, map, take, drop, get_or, min, Some, All, inl, inr, sym, ap, subst, ◌∙◌, arith}
use Rattle.std.proofs.Common.{length-take, length-drop}
use Rattle.std.specs.List.{range_with_len}
use Rattle.std.proofs.lemmas.Bool.{cases_lt}
use Rattle.std.proofs.lemmas.List.{take-map, drop-map, get_or-map, length-map}
use Rattle.std.proofs.lemmas.List.Elements.{All-take, All-drop}
use Rattle.std.proofs.lemmas.Simd.{map-map}
use Rattle.gs_tape.specs.Tick.{Tick, tick_numbered}
use Rattle.gs_feed.specs.Feeding.{Feeding, IsFeedSound, IsOf, forgotten}
use Rattle.gs_feed.proofs.LastTicks.{part_of_numbers, part_of_last, numbered_of}

-- the ticks kept above a number and below the newest: `c` of them behind the first `s`
pub record IsSince (feed : Feeding) (last s c : ℕ) : Type 0 where
  pub fits : s + c ≤ length feed.kept
  pub many : c ≡ feed.count - (last + 1)
  pub from : 0 < c → forgotten feed + s ≡ last

pub since_is : (feed : Feeding) (last s m : ℕ) → IsFeedSound feed → forgotten feed ≤ last → m ≡ length feed.kept - 1
    → s ≡ min (min (last - forgotten feed) (length feed.kept)) m → IsSince feed last s (m - s)
since_is feed last s m sound above newest start = elim (cases_lt 0 feed.count) [
  | inl some ↦
      let kept = sound.has_newest some in
      record {
        fits = omega (arith, newest, start);
        many = omega (arith, newest, start, sound.few_kept, kept, above);
        from = λ h. omega (arith, newest, start, sound.few_kept, kept, above, h);
      }
  | inr none ↦
      record {
        fits = omega (arith, newest, start);
        many = omega (arith, newest, start, sound.few_kept, none);
        from = λ h. absurd (omega (arith, newest, start, sound.few_kept, none, h));
      }
]

-- what is handed out is a slice of the items, whose values are the ticks kept
pub slice_values : {A : Type 0} (value : A → Tick) (items : List A) (kept : List Tick) (s c : ℕ) → map value items ≡ kept
    → map value (take c (drop s items)) ≡ take c (drop s kept)
slice_values value items kept s c is =
    sym (ap (λ (l : List Tick). take c l) (drop-map value s items) ∙ take-map value c (drop s items))
    ∙ ap (λ (l : List Tick). take c (drop s l)) is

pub slice_numbers : {A : Type 0} (feed : Feeding) (value : A → Tick) (items : List A) (last s c : ℕ) → map value items ≡ feed.kept
    → IsFeedSound feed → IsSince feed last s c
    → map (λ t. (value t).number) (take c (drop s items)) ≡ range_with_len (last + 1) (feed.count - (last + 1))
slice_numbers feed value items last s c is sound since =
    let number : Tick → ℕ = λ t. t.number in
    let kept = length feed.kept in
    sym (map-map number value (take c (drop s items)))
    ∙ ap (map number) (slice_values value items feed.kept s c is)
    ∙ sym (ap (λ (l : List ℕ). take c l) (drop-map number s feed.kept) ∙ take-map number c (drop s feed.kept))
    ∙ ap (λ (l : List ℕ). take c (drop s l)) sound.numbers
    ∙ part_of_numbers (forgotten feed) kept s c last since.fits since.from
    ∙ ap (λ (n : ℕ). range_with_len (last + 1) n) since.many

pub slice_ticks : {A : Type 0} (feed : Feeding) (value : A → Tick) (items : List A) (last s c : ℕ) (ticks : List Tick)
    → map value items ≡ feed.kept → IsFeedSound feed → IsSince feed last s c → IsOf feed ticks
    → map value (take c (drop s items)) ≡ drop last (take (feed.count - 1) ticks)
slice_ticks feed value items last s c ticks is sound since of =
    slice_values value items feed.kept s c is
    ∙ ap (λ (l : List Tick). take c (drop s l)) of.kept_are
    ∙ part_of_last ticks feed.count (forgotten feed) s c last of.captured
    (omega (arith, since.fits, sound.few_kept)) since.many since.from

pub slice_of : {A : Type 0} (feed : Feeding) (value : A → Tick) (items : List A) (last s c : ℕ) (ticks : List Tick)
    → map value items ≡ feed.kept → IsFeedSound feed → IsSince feed last s c → IsOf feed ticks
    → All (λ t. tick_numbered ticks t.number ≡ Some t) (map value (take c (drop s items)))
slice_of feed value items last s c ticks is sound since of =
    let ys = map value (take c (drop s items)) in
    let number : Tick → ℕ = λ t. t.number in
    let same : ys ≡ take c (drop s feed.kept) = slice_values value items feed.kept s c is in
    let long : length ys ≡ c =
    ap (λ (l : List Tick). length l) same ∙ omega (arith, since.fits, length-take c (drop s feed.kept), length-drop s feed.kept) in
    let many : length ys ≡ feed.count - (last + 1) = long ∙ since.many in
    let numbers : map number ys ≡ range_with_len (last + 1) (length ys) =
    map-map number value (take c (drop s items)) ∙ slice_numbers feed value items last s c is sound since
    ∙ ap (λ (n : ℕ). range_with_len (last + 1) n) (sym many) in
    numbered_of ticks ys last (feed.count - 1) (omega (arith, of.captured))
    (slice_ticks feed value items last s c ticks is sound since of) numbers

-- what holds of each tick kept holds of each item
pub items_each : {A : Type 0} (P : Tick → Type 0) (value : A → Tick) (items : List A) (kept : List Tick) → map value items ≡ kept
    → All P kept → All (λ t. P (value t)) items
items_each P value items kept is all k d h =
    let here : k < length kept = subst Below is (omega (arith, length-map items value, h)) in
    subst P (ap (λ (l : List Tick). get_or l k (value d)) (sym is) ∙ get_or-map value items k d (value d) h) (all k (value d) here)
  where
    Below : List Tick → Type 0
    Below l = k < length l

pub slice_each : {A : Type 0} (P : Tick → Type 0) (value : A → Tick) (items : List A) (kept : List Tick) (s c : ℕ)
    → map value items ≡ kept → All P kept → All (λ t. P (value t)) (take c (drop s items))
slice_each P value items kept s c is all =
    All-take (λ t. P (value t)) c (drop s items) (All-drop (λ t. P (value t)) s items (items_each P value items kept is all))
