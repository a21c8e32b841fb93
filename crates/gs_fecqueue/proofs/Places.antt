-- Where frames stand in a queue, and how they change places.
use Rattle.std.proofs.Common.{◌≡◌, ◌≢◌, ◌<◌, ◌≤◌, ◌+◌, ◌-◌, ◌%◌, ◌⊎◌, ℕ, zero, suc, Bool, true, false, List, [], ◌∷◌, length, get_or, Option, Some, None, refl}
use Rattle.std.proofs.Common.{sym, ap, subst, ◌∙◌, arith, inl, inr}
use Rattle.std.specs.Prelude.{◌==◌, if◌then◌else◌, nat_lt}
use Rattle.std.specs.List.{slice_get, SwappedAt}
use Rattle.std.proofs.lemmas.Bool.{cases_eq, cases_lt, cond-true, cond-false, eq-eqb, ne_eqb, lt-ltb, le-ltb}
use Rattle.std.proofs.lemmas.Option.{slice_get-get_or, slice_get_past, slice_get_within}
use Rattle.gs_fecqueue.specs.QueueSteps.{swapped}
use Rattle.gs_fecqueue.specs.Standing.{rooms}
use Rattle.gs_bytes.proofs.Lists.{some_within}

-- ---- two change places

pub swapped-first : (i j : ℕ) → swapped i j i ≡ j
swapped-first i j = cond-true (i == i) j (if i == j then i else i) (eq-eqb i i refl)

pub swapped-second : (i j : ℕ) → swapped i j j ≡ i
swapped-second i j = elim (cases_eq j i) [
  | inl same ↦ cond-true (j == i) j (if j == j then i else j) (eq-eqb j i same) ∙ same
  | inr other ↦ cond-false (j == i) j (if j == j then i else j) (ne_eqb j i other) ∙ cond-true (j == j) i j (eq-eqb j j refl)
]

pub swapped-other : (i j k : ℕ) → k ≢ i → k ≢ j → swapped i j k ≡ k
swapped-other i j k other second =
    cond-false (k == i) j (if k == j then i else k) (ne_eqb k i other) ∙ cond-false (k == j) i k (ne_eqb k j second)

-- going back
swapped-twice : (i j k : ℕ) → swapped i j (swapped i j k) ≡ k
swapped-twice i j k = elim (cases_eq k i) [
  | inl first ↦ ap (λ (n : ℕ). swapped i j (swapped i j n)) first ∙ ap (swapped i j) (swapped-first i j) ∙ swapped-second i j ∙ sym first
  | inr other ↦ elim (cases_eq k j) [
    | inl second ↦ ap (λ (n : ℕ). swapped i j (swapped i j n)) second ∙ ap (swapped i j) (swapped-second i j) ∙ swapped-first i j ∙ sym second
    | inr neither ↦ ap (swapped i j) (swapped-other i j k other neither) ∙ swapped-other i j k other neither
  ]
]

pub swapped-apart : (i j k l : ℕ) → k ≢ l → swapped i j k ≢ swapped i j l
swapped-apart i j k l apart e = apart (sym (swapped-twice i j k) ∙ ap (swapped i j) e ∙ swapped-twice i j l)

-- what stands at each place then
pub swapped-get : {X : Type 0} (xs ys : List X) (i j k : ℕ) → length ys ≡ length xs → i < length xs → j < length xs → SwappedAt xs ys i j
    → slice_get ys k ≡ slice_get xs (swapped i j k)
swapped-get xs ys i j k size in_i in_j swaps =
    let d = (some_within xs i in_i).0 in
    elim (cases_lt k (length xs)) [
      | inr past ↦
          let e = swapped-other i j k (λ e. absurd (omega arith)) (λ e. absurd (omega arith)) in
          slice_get_past ys k (omega arith) ∙ sym (ap (slice_get xs) e ∙ slice_get_past xs k past)
      | inl within ↦
          slice_get-get_or ys k d (omega arith) ∙ elim (cases_eq k i) [
            | inl first ↦
                ap (λ (n : ℕ). Some (get_or ys n d)) first ∙ ap (λ (x : _). Some x) (swaps.0 d)
                ∙ sym (ap (λ (n : ℕ). slice_get xs (swapped i j n)) first ∙ ap (slice_get xs) (swapped-first i j) ∙ slice_get-get_or xs j d in_j)
            | inr other ↦ elim (cases_eq k j) [
              | inl second ↦
                  ap (λ (n : ℕ). Some (get_or ys n d)) second ∙ ap (λ (x : _). Some x) (swaps.1 d)
                  ∙ sym (ap (λ (n : ℕ). slice_get xs (swapped i j n)) second ∙ ap (slice_get xs) (swapped-second i j) ∙ slice_get-get_or xs i d in_i)
              | inr neither ↦
                  ap (λ (x : _). Some x) (swaps.2 k d other neither)
                  ∙ sym (ap (slice_get xs) (swapped-other i j k other neither) ∙ slice_get-get_or xs k d within)
            ]
          ]
    ]

-- ---- numbers modulo the window

-- open frames have places of their own
pub place-apart : (w f g : ℕ) → w ≤ 4 → f < g → g < f + w → f % w ≢ g % w
place-apart zero f g most less near e = absurd (omega arith)
place-apart (suc zero) f g most less near e = absurd (omega arith)
place-apart (suc (suc zero)) f g most less near e = absurd (omega arith)
place-apart (suc (suc (suc zero))) f g most less near e = absurd (omega arith)
place-apart (suc (suc (suc (suc zero)))) f g most less near e = absurd (omega arith)
place-apart (suc (suc (suc (suc (suc w))))) f g most less near e = absurd (omega arith)

pub place-other : (w f g : ℕ) → w ≤ 4 → f ≢ g → f < g + w → g < f + w → f % w ≢ g % w
place-other w f g most other near near' e = elim (cases_lt f g) [
  | inl less ↦ place-apart w f g most less near' e
  | inr more ↦ place-apart w g f most (omega arith) near (sym e)
]

pub rooms-one : (w : ℕ) → w ≤ 1 → rooms w ≡ 1
rooms-one w h = cond-false (nat_lt 1 w) (w + 1) 1 (le-ltb 1 w h)

pub rooms-several : (w : ℕ) → 1 < w → rooms w ≡ w + 1
rooms-several w h = cond-true (nat_lt 1 w) (w + 1) 1 (lt-ltb 1 w h)
