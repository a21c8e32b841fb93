-- What a client asks for: each frame that it left and that isn't complete.
use Rattle.std.proofs.Common.{◌≡◌, ◌⊎◌, ◌<◌, ◌≤◌, ℕ, true, List, [], ◌∷◌, ◌++◌, length, Option, Some, None, refl, sym, ap, subst, ◌∙◌, arith, inl, inr}
use Rattle.std.proofs.Common.{length-append}
use Rattle.std.specs.List.{Contains}
use Rattle.std.proofs.lemmas.Bool.{cases_Bool}
use Rattle.std.proofs.lemmas.List.{append-nil, append_assoc, same_from_push}
use Rattle.std.proofs.lemmas.List.Elements.{Contains-append_left, Contains-push}
use Rattle.gs_frames.specs.declared.range.Range.{Range}
use Rattle.gs_frames.specs.Client.{ClientSettings, HasWindow, Arrival}
use Rattle.gs_frames.specs.Image.{Frame}
use Rattle.gs_frames.specs.Received.{Received, is_left, taken}
use Rattle.gs_frames.specs.Complete.{complete}
use Rattle.gs_frames.specs.Asks.{as_list, asks, newly_asked}
use Rattle.gs_frames.specs.AskLaws.{IsLost, IsLostRange}
use Rattle.gs_frames.proofs.CompleteStays.{complete_stays}
use Rattle.gs_frames.proofs.SettledUp.{left-from, left-says}
use Rattle.gs_frames.proofs.Taken.{taken-more}
use Rattle.gs_frames.proofs.AsksGrow.{asks-is, asks_of-empty, arrival_asks, arrival_asks_for_lost, arrival_asks_for_nothing}

-- the frame is complete
abbrev pub Completes : ClientSettings → List Received → ℕ → Type 0
Completes client rs v = (held : Frame) × (complete client rs v ≡ Some held)

-- the frame is in one of these ranges
abbrev pub IsAsked : List Range → ℕ → Type 0
IsAsked ranges v = (range : Range) × (Contains ranges range) × (range.first ≤ v) × (v ≤ range.last)

completes-more : (client : ClientSettings) (arrival : Arrival) (came : List Arrival) (v : ℕ) → Completes client (taken client came) v
    → Completes client (taken client (arrival ∷ came)) v
completes-more client arrival came v done =
    taken-more (λ rs. Completes client rs v) client arrival came done
    (λ r. (done.0, complete_stays client r (taken client came) v done.0 done.1))

none_or_held : (o : Option Frame) → (o ≡ None) ⊎ ((held : Frame) × (o ≡ Some held))
none_or_held None = inl refl
none_or_held (Some held) = inr (held, refl)

-- ---- lists that end in one member

-- the last member of a list that isn't empty
last_of : {X : Type 0} (x : X) (xs : List X) → (front : List X) × (last : X) × (x ∷ xs ≡ front ++ last ∷ [])
last_of x [] = ([], x, refl)
last_of {X} x (y ∷ ys) = let more = last_of y ys in (x ∷ more.0, more.1, ap (λ (l : List X). x ∷ l) more.2)

-- a member of a list with one more is the last one, or stands in what is before it
last_or_before : {X : Type 0} (xs front rest : List X) (x y : X) → xs ++ x ∷ [] ≡ front ++ y ∷ rest
    → ((xs ≡ front) × (x ≡ y)) ⊎ ((less : List X) × (xs ≡ front ++ y ∷ less))
last_or_before xs front [] x y e = inl (same_from_push xs front x y e)
last_or_before {X} xs front (z ∷ zs) x y e =
    let more = last_of z zs in
    let all : xs ++ x ∷ [] ≡ (front ++ y ∷ more.0) ++ more.1 ∷ [] =
    e ∙ ap (λ (l : List X). front ++ y ∷ l) more.2 ∙ sym (append_assoc front (y ∷ more.0) (more.1 ∷ [])) in
    inr (more.0, (same_from_push xs (front ++ y ∷ more.0) x more.1 all).0)

no_member : {X : Type 0} (front rest : List X) (y : X) → [] ≡ front ++ y ∷ rest → ⊥
no_member {X} front rest y e =
    let count : 0 ≡ length (front ++ y ∷ rest) = ap (λ (l : List X). length l) e in
    absurd (omega (arith, count, length-append front (y ∷ rest)))

-- ---- frames that are left

asked-before : (client : ClientSettings) (arrival : Arrival) (came : List Arrival) (v : ℕ) → IsAsked (asks client came) v
    → IsAsked (asks client (arrival ∷ came)) v
asked-before client arrival came v asked =
    let Asked : List Range → Type 0 = λ l. IsAsked l v in
    subst Asked (sym (arrival_asks client arrival came))
    (asked.0, Contains-append_left (asks client came) (as_list (newly_asked client arrival came)) asked.0 asked.1, asked.2, asked.3)

-- a frame that is lost now is asked for
asked-now : (client : ClientSettings) (arrival : Arrival) (came : List Arrival) (v : ℕ) → HasWindow client
    → IsLost client (taken client came) (taken client (arrival ∷ came)) v → IsAsked (asks client (arrival ∷ came)) v
asked-now client arrival came v window lost =
    let Asked : List Range → Type 0 = λ l. IsAsked l v in
    subst Asked (sym (arrival_asks client arrival came)) (by (newly_asked client arrival came) refl)
  where
    by : (o : Option Range) → newly_asked client arrival came ≡ o → IsAsked (asks client came ++ as_list o) v
    by None e = absurd ((arrival_asks_for_nothing client arrival came window).0 e v lost)
    by (Some range) e =
        let is = (arrival_asks_for_lost client arrival came range window).0 e in
        let left = left-says client.window (taken client (arrival ∷ came)) v lost.is_left_now in
        let last = is.last_left in
        (range, Contains-push (asks client came) range, is.none_below v lost, omega arith)

-- each frame that is left is complete or was asked for
pub left_or_asked : (client : ClientSettings) (came : List Arrival) (v : ℕ) → HasWindow client → 1 ≤ v
    → is_left client.window (taken client came) v ≡ true → Completes client (taken client came) v ⊎ IsAsked (asks client came) v
left_or_asked client [] v window least left = let within = left-says client.window [] v left in absurd (omega arith)
left_or_asked client (arrival ∷ came) v window least left =
    let now = taken client (arrival ∷ came) in
    elim (cases_Bool (is_left client.window (taken client came) v)) [
      | inl before ↦ elim (left_or_asked client came v window least before) [
        | inl done ↦ inl (completes-more client arrival came v done)
        | inr asked ↦ inr (asked-before client arrival came v asked)
      ]
      | inr still ↦ elim (none_or_held (complete client now v)) [
        | inr held ↦ inl held
        | inl none ↦
            inr (asked-now client arrival came v window (record { least = least; was_open = still; is_left_now = left; not_complete = none }))
      ]
    ]

-- ---- frames below what was asked for

-- a frame below a range that is asked for now is complete, or was asked for before
below_now : (client : ClientSettings) (arrival : Arrival) (came : List Arrival) (range : Range) (v : ℕ) → HasWindow client
    → IsLostRange client (taken client came) (taken client (arrival ∷ came)) range → 1 ≤ v → v < range.first
    → Completes client (taken client (arrival ∷ came)) v ⊎ IsAsked (asks client came) v
below_now client arrival came range v window is least below =
    let now = taken client (arrival ∷ came) in
    let first = left-says client.window now range.first is.first_lost.is_left_now in
    let left = left-from client.window now v (omega arith) in
    elim (cases_Bool (is_left client.window (taken client came) v)) [
      | inl before ↦ elim (left_or_asked client came v window least before) [
        | inl done ↦ inl (completes-more client arrival came v done)
        | inr asked ↦ inr asked
      ]
      | inr still ↦ elim (none_or_held (complete client now v)) [
        | inr held ↦ inl held
        | inl none ↦
            let above = is.none_below v (record { least = least; was_open = still; is_left_now = left; not_complete = none }) in
            absurd (omega arith)
      ]
    ]

-- a frame below a range that was asked for is complete, or in a range that was asked for before
pub below_asked : (client : ClientSettings) (came : List Arrival) (front rest : List Range) (range : Range) (v : ℕ) → HasWindow client
    → asks client came ≡ front ++ range ∷ rest → 1 ≤ v → v < range.first → Completes client (taken client came) v ⊎ IsAsked front v
below_asked client [] front rest range v window e least below =
    absurd (no_member front rest range (sym (asks-is client [] ∙ asks_of-empty client) ∙ e))
below_asked client (arrival ∷ came) front rest range v window e least below =
    by (newly_asked client arrival came) refl (λ others order. below_asked client came front others range v window order least below)
    (sym (arrival_asks client arrival came) ∙ e)
  where
    now : List Received
    now = taken client (arrival ∷ came)

    after : Completes client (taken client came) v ⊎ IsAsked front v → Completes client now v ⊎ IsAsked front v
    after either = elim either [
      | inl done ↦ inl (completes-more client arrival came v done)
      | inr asked ↦ inr asked
    ]

    by : (o : Option Range) → newly_asked client arrival came ≡ o
        → ((others : List Range) → asks client came ≡ front ++ range ∷ others → Completes client (taken client came) v ⊎ IsAsked front v)
        → asks client came ++ as_list o ≡ front ++ range ∷ rest → Completes client now v ⊎ IsAsked front v
    by None none again order = after (again rest (sym (append-nil (asks client came)) ∙ order))
    by (Some last) new again order = elim (last_or_before (asks client came) front rest last range order) [
      | inl it ↦
          let Is : Range → Type 0 = IsLostRange client (taken client came) now in
          let Asked : List Range → Type 0 = λ l. IsAsked l v in
          let is = subst Is it.1 ((arrival_asks_for_lost client arrival came last window).0 new) in
          elim (below_now client arrival came range v window is least below) [
            | inl done ↦ inl done
            | inr asked ↦ inr (subst Asked it.0 asked)
          ]
      | inr before ↦ after (again before.0 before.1)
    ]
