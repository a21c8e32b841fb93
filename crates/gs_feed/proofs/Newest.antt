-- The newest of the ticks that a feed keeps.
use Rattle.std.proofs.Common.{◌≡◌, ℕ, ◌+◌, ◌-◌, ◌<◌, List, length, map, get_or, Some, sym, ap, ◌∙◌, arith}
use Rattle.std.proofs.lemmas.List.{get_or-map, length-map}
use Rattle.std.proofs.lemmas.List.FromFn.{get_or-range_with_len}
use Rattle.gs_tape.specs.Tick.{Tick, tick_numbered}
use Rattle.gs_feed.specs.Feeding.{Feeding, IsFeedSound, IsOf, forgotten}
use Rattle.gs_feed.proofs.LastTicks.{last_of}

pub some_kept : {A : Type 0} (value : A → Tick) (items : List A) (kept : List Tick) → map value items ≡ kept → 0 < length items
    → 0 < length kept
some_kept value items kept is some =
    let many : length items ≡ length kept = sym (length-map items value) ∙ ap (λ (l : List Tick). length l) is in
    omega (arith, many, some)

-- the last of the items
newest_at : {A : Type 0} (value : A → Tick) (items : List A) (kept : List Tick) (x : A) → map value items ≡ kept
    → 0 < length kept → ((d : A) → x ≡ get_or items (length items - 1) d) → (d : Tick) → value x ≡ get_or kept (length kept - 1) d
newest_at value items kept x is some last d =
    let many : length items ≡ length kept = sym (length-map items value) ∙ ap (λ (l : List Tick). length l) is in
    sym (ap (λ (l : List Tick). get_or l (length kept - 1) d) (sym is)
    ∙ get_or-map value items (length kept - 1) x d (omega (arith, many, some))
    ∙ ap (λ (i : ℕ). value (get_or items i x)) (ap (λ (n : ℕ). n - 1) (sym many)) ∙ ap value (sym (last x)))

pub newest_number : {A : Type 0} (feed : Feeding) (value : A → Tick) (items : List A) (x : A) → map value items ≡ feed.kept
    → IsFeedSound feed → 0 < length feed.kept → ((d : A) → x ≡ get_or items (length items - 1) d) → (value x).number ≡ feed.count
newest_number feed value items x is sound some last =
    let n = length feed.kept in
    let at : value x ≡ get_or feed.kept (n - 1) (value x) = newest_at value items feed.kept x is some last (value x) in
    ap (λ (t : Tick). t.number) at
    ∙ sym (get_or-map (λ (t : Tick). t.number) feed.kept (n - 1) (value x) 0 (omega (arith, some)))
    ∙ ap (λ (l : List ℕ). get_or l (n - 1) 0) sound.numbers
    ∙ get_or-range_with_len (forgotten feed + 1) n (n - 1) 0 (omega (arith, some))
    ∙ omega (arith, some, sound.few_kept)

pub newest_of : {A : Type 0} (feed : Feeding) (value : A → Tick) (items : List A) (x : A) (ticks : List Tick)
    → map value items ≡ feed.kept → IsFeedSound feed → 0 < length feed.kept → ((d : A) → x ≡ get_or items (length items - 1) d)
    → IsOf feed ticks → tick_numbered ticks feed.count ≡ Some (value x)
newest_of feed value items x ticks is sound some last of =
    let place : feed.count - forgotten feed - 1 ≡ length feed.kept - 1 = omega (arith, sound.few_kept) in
    last_of ticks feed.kept feed.count (forgotten feed) (value x) of.captured of.kept_are (omega (arith, some, sound.few_kept))
    (λ d. newest_at value items feed.kept x is some last d ∙ ap (λ (i : ℕ). get_or feed.kept i d) (sym place))
