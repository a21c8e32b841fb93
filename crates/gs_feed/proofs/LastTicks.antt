-- The ticks that are kept: the last of those captured, numbered on.
use Rattle.std.proofs.Common.{◌≡◌, ℕ, zero, suc, ◌+◌, ◌-◌, ◌<◌, ◌≤◌, List, length, map, take, drop, get_or, Some, All, sym, ap, ◌∙◌, arith, length-take}
use Rattle.std.proofs.Common.{length-drop}
use Rattle.std.specs.List.{range_with_len}
use Rattle.std.proofs.lemmas.List.{same_lists, get_or-take, get_or-drop, get_or-map}
use Rattle.std.proofs.lemmas.List.FromFn.{length-range_with_len, get_or-range_with_len}
use Rattle.std.proofs.lemmas.Option.{slice_get-get_or}
use Rattle.gs_tape.specs.Tick.{Tick, tick_numbered}

-- a part of some lists
part_length : {X : Type 0} (xs : List X) (s c : ℕ) → s + c ≤ length xs → length (take c (drop s xs)) ≡ c
part_length xs s c h = omega (arith, length-take c (drop s xs), length-drop s xs)

part_at : {X : Type 0} (xs : List X) (s c k : ℕ) (d : X) → k < c → get_or (take c (drop s xs)) k d ≡ get_or xs (s + k) d
part_at xs s c k d h = get_or-take c (drop s xs) k d h ∙ get_or-drop s xs k d

-- a part of numbers that count up, where it isn't empty
pub part_of_numbers : (f n s c a : ℕ) → s + c ≤ n → (0 < c → f + s ≡ a)
    → take c (drop s (range_with_len (f + 1) n)) ≡ range_with_len (a + 1) c
part_of_numbers f n s c a fits from =
    let all = range_with_len (f + 1) n in
    let long : length (take c (drop s all)) ≡ c = part_length all s c (omega (arith, length-range_with_len (f + 1) n)) in
    same_lists _ _ (long ∙ sym (length-range_with_len (a + 1) c))
    (λ k d h.
    let below : k < c = omega (arith, long) in
    let start : f + s ≡ a = from (omega arith) in
    let same : f + 1 + (s + k) ≡ a + 1 + k = omega arith in
    part_at all s c k d below ∙ get_or-range_with_len (f + 1) n (s + k) d (omega arith)
    ∙ same ∙ sym (get_or-range_with_len (a + 1) c k d below))

-- a part of the last of the first n, where it isn't empty
pub part_of_last : {X : Type 0} (xs : List X) (n f s c a : ℕ) → n ≤ length xs → s + c ≤ n - f → c ≡ n - (a + 1) → (0 < c → f + s ≡ a)
    → take c (drop s (drop f (take n xs))) ≡ drop a (take (n - 1) xs)
part_of_last xs n f s c a within fits many from =
    let ys = drop f (take n xs) in
    let first : length (take n xs) ≡ n = omega (arith, length-take n xs) in
    let kept : length ys ≡ n - f = omega (arith, length-drop f (take n xs)) in
    let long : length (take c (drop s ys)) ≡ c = part_length ys s c (omega arith) in
    let before : length (take (n - 1) xs) ≡ n - 1 = omega (arith, length-take (n - 1) xs) in
    same_lists _ _ (omega (arith, length-drop a (take (n - 1) xs)))
    (λ k d h.
    let below : k < c = omega (arith, long) in
    let start : f + s ≡ a = from (omega arith) in
    let same : f + (s + k) ≡ a + k = omega arith in
    part_at ys s c k d below ∙ get_or-drop f (take n xs) (s + k) d ∙ get_or-take n xs (f + (s + k)) d (omega arith)
    ∙ ap (λ (i : ℕ). get_or xs i d) same
    ∙ sym (get_or-drop a (take (n - 1) xs) k d ∙ get_or-take (n - 1) xs (a + k) d (omega arith)))

-- ticks in a row of a capture, numbered from the place where they stand
pub numbered_of : (ticks ys : List Tick) (a b : ℕ) → b ≤ length ticks → ys ≡ drop a (take b ticks)
    → map (λ t. t.number) ys ≡ range_with_len (a + 1) (length ys) → All (λ t. tick_numbered ticks t.number ≡ Some t) ys
numbered_of ticks ys a b within is numbers k d h =
    let many : length ys ≡ length (take b ticks) - a = ap (λ (l : List Tick). length l) is ∙ length-drop a (take b ticks) in
    let below : a + k < b = omega (arith, many, length-take b ticks) in
    let at : get_or ys k d ≡ get_or ticks (a + k) d =
    ap (λ (l : List Tick). get_or l k d) is ∙ get_or-drop a (take b ticks) k d ∙ get_or-take b ticks (a + k) d below in
    let number : (get_or ys k d).number ≡ suc (a + k) =
    sym (get_or-map (λ (t : Tick). t.number) ys k d 0 h) ∙ ap (λ (l : List ℕ). get_or l k 0) numbers
    ∙ get_or-range_with_len (a + 1) (length ys) k 0 h ∙ next a k in
    ap (tick_numbered ticks) number ∙ slice_get-get_or ticks (a + k) d (omega (arith, below)) ∙ ap (λ (t : Tick). Some t) (sym at)
  where
    next : (m n : ℕ) → m + 1 + n ≡ suc (m + n)
    next m n = omega arith

-- the last of ticks in a row
pub last_of : (ticks ys : List Tick) (n f : ℕ) (t : Tick) → n ≤ length ticks → ys ≡ drop f (take n ticks) → f < n
    → ((d : Tick) → t ≡ get_or ys (n - f - 1) d) → tick_numbered ticks n ≡ Some t
last_of ticks ys zero f t within is some last = absurd (omega (arith, some))
last_of ticks ys (suc n) f t within is some last =
    let place : f + (suc n - f - 1) ≡ n = omega arith in
    let at : t ≡ get_or ticks n t =
    last t ∙ ap (λ (l : List Tick). get_or l (suc n - f - 1) t) is ∙ get_or-drop f (take (suc n) ticks) (suc n - f - 1) t
    ∙ ap (λ (i : ℕ). get_or (take (suc n) ticks) i t) place ∙ get_or-take (suc n) ticks n t (omega arith) in
    slice_get-get_or ticks n t (omega (arith, within)) ∙ ap (λ (x : Tick). Some x) (sym at)
