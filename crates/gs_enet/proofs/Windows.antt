-- A window and the messages in it.
use Rattle.std.proofs.Common.{◌≡◌, ◌≢◌, ◌⊎◌, ◌<◌, ◌≤◌, ◌+◌, ◌-◌, ◌%◌, ◌^◌, ℕ, zero, suc, Bool, true, false, not, cond, List, [], ◌∷◌, ◌++◌, length, map, take}
use Rattle.std.proofs.Common.{drop, replicate, get_or, set, Option, Some, None, refl, sym, ap, subst, ◌∙◌, arith, inl, inr, add_assoc}
use Rattle.std.proofs.lemmas.List.{append_assoc, append-nil, length-append, take_more, take_more_set, drop-set-lt, drop-drop, get_or-drop, get_or-take}
use Rattle.std.proofs.lemmas.List.{get_or-set_same, get_or-set_other, get_or-append_right, set-get_or, length-take, length-replicate, length-set}
use Rattle.std.proofs.lemmas.List.Elements.{AllZip-push}
use Rattle.std.proofs.lemmas.Bool.{or_parts, or_from, cond-true, cond-false, false≢true, eq-eqb, ne_eqb, cases_eq, ltb-false}
use Rattle.std.proofs.lemmas.Bool.Decides.{nat_tests}
use Rattle.std.proofs.lemmas.List.Folds.{list_any_none}
use Rattle.std.proofs.lemmas.List.Sums.{fails_before_first}
use Rattle.std.proofs.lemmas.List.Quantifiers.{position-Some}
use Rattle.std.specs.Option.{option_map}
use Rattle.std.specs.Prelude.{◌==◌, ◌&&◌, ◌||◌, nat_lt, position, is_some}
use Rattle.std.specs.List.{list_any, AllZip, find, filter, position_or_len}
use Rattle.gs_enet.specs.declared.held.Held.{Held}
use Rattle.gs_enet.specs.Record.{Unacknowledged, Message, fresh}
use Rattle.gs_enet.specs.Receive.{is_named}
use Rattle.gs_enet.specs.Steps.{had_last_wait, due_again}
use Rattle.gs_enet.specs.Write.{is_due, written_once, first_written}
use Rattle.gs_enet.specs.Window.{unacknowledged, in_window, passes, held_lost, held_due, IsMarkedDue, Rewrites}

pub in_window-append : (c n : ℕ) (xs ys : List (Option Held)) → in_window c n (xs ++ ys) ≡ in_window c n xs ++ in_window c (n + length xs) ys
in_window-append c n [] ys = ap (λ (m : ℕ). in_window c m ys) (omega arith)
in_window-append c n (None ∷ xs) ys = in_window-append c (n + 1) xs ys ∙ ap (λ (m : ℕ). in_window c (n + 1) xs ++ in_window c m ys) (omega arith)
in_window-append c n (Some h ∷ xs) ys =
    ap (λ (us : List Unacknowledged). unacknowledged c n h ∷ us)
    (in_window-append c (n + 1) xs ys ∙ ap (λ (m : ℕ). in_window c (n + 1) xs ++ in_window c m ys) (omega arith))

pub in_window-push : (c n : ℕ) (xs ys : List (Option Held)) (h : Held) → ys ≡ xs ++ Some h ∷ []
    → in_window c n ys ≡ in_window c n xs ++ unacknowledged c (n + length xs) h ∷ []
in_window-push c n xs ys h e = ap (in_window c n) e ∙ in_window-append c n xs (Some h ∷ [])

pub in_window-skip : (c n k : ℕ) (xs ys : List (Option Held)) → xs ≡ replicate k None ++ ys → in_window c n xs ≡ in_window c (n + k) ys
in_window-skip c n k xs ys e = ap (in_window c n) e ∙ skips k n where
  skips : (k n : ℕ) → in_window c n (replicate k None ++ ys) ≡ in_window c (n + k) ys
  skips zero n = ap (λ (m : ℕ). in_window c m ys) (omega arith)
  skips (suc k) n = skips k (n + 1) ∙ ap (λ (m : ℕ). in_window c m ys) (omega arith)

pub none_at : {X : Type 0} (p : X → Bool) (xs : List X) (i : ℕ) (d : X) → list_any p xs ≡ false → i < length xs → p (get_or xs i d) ≡ false
none_at p [] i d e lt = absurd (omega arith)
none_at p (x ∷ xs) zero d e lt = (or_parts (p x) (list_any p xs) e).0
none_at p (x ∷ xs) (suc i) d e lt = none_at p xs i d (or_parts (p x) (list_any p xs) e).1 (omega arith)

-- one more place of a list that is rewritten in place
pub rewritten_more : {X : Type 0} (R : X → X → Type 0) (xs ys : List X) (i : ℕ) (new d : X) → length ys ≡ length xs → i < length xs
    → AllZip R (take i xs) (take i ys) → drop i ys ≡ drop i xs → R (get_or xs i d) new
    → AllZip R (take (i + 1) xs) (take (i + 1) (set ys i new)) × (drop (i + 1) (set ys i new) ≡ drop (i + 1) xs)
rewritten_more R xs ys i new d size lt before rest step = (
  subst (λ (zs : List _). AllZip R zs (take (i + 1) (set ys i new))) (sym (take_more xs i d lt))
      (subst (λ (zs : List _). AllZip R (take i xs ++ get_or xs i d ∷ []) zs) (sym (take_more_set ys i new (omega (arith, size))))
      (AllZip-push R (take i xs) (take i ys) (get_or xs i d) new before step)),
  drop-set-lt (i + 1) ys i new (omega arith) ∙ sym (drop-drop 1 i ys) ∙ ap (drop 1) rest ∙ drop-drop 1 i xs,
)

-- what is read at a place behind which the lists agree
pub same_read : {X : Type 0} (xs ys : List X) (i : ℕ) (d : X) → drop i ys ≡ drop i xs → get_or ys i d ≡ get_or xs i d
same_read xs ys i d e = sym (get_or-drop i ys 0 d ∙ ap (λ (k : ℕ). get_or ys k d) (omega arith)) ∙ ap (λ (zs : List _). get_or zs 0 d) e
    ∙ get_or-drop i xs 0 d ∙ ap (λ (k : ℕ). get_or xs k d) (omega arith)

-- ---- the first message that passes a test, which doesn't read its channel and number

find_first : (test : Unacknowledged → Bool) (held : Held → Bool) → ((c n : ℕ) (h : Held) → test (unacknowledged c n h) ≡ held h)
    → (c n : ℕ) (xs : List (Option Held)) (i : ℕ)
    → passes held (get_or xs i None) ≡ true → ((k : ℕ) → k < i → passes held (get_or xs k None) ≡ false)
    → option_map (λ (u : Unacknowledged). u.order.number) (find test (in_window c n xs)) ≡ Some (n + i)
find_first test held agree c n [] i there before = absurd (false≢true there)
find_first test held agree c n (None ∷ xs) zero there before = absurd (false≢true there)
find_first test held agree c n (None ∷ xs) (suc i) there before =
    find_first test held agree c (n + 1) xs i there (λ k lt. before (suc k) (omega arith)) ∙ ap (λ (m : ℕ). Some m) (omega arith)
find_first test held agree c n (Some h ∷ xs) zero there before =
    ap (option_map (λ (u : Unacknowledged). u.order.number)) (cond-true (test (unacknowledged c n h)) (Some (unacknowledged c n h)) _ (agree c n h ∙ there))
    ∙ ap (λ (m : ℕ). Some m) (omega arith)
find_first test held agree c n (Some h ∷ xs) (suc i) there before =
    ap (option_map (λ (u : Unacknowledged). u.order.number)) (cond-false (test (unacknowledged c n h)) (Some (unacknowledged c n h)) _
    (agree c n h ∙ before 0 (omega arith)))
    ∙ find_first test held agree c (n + 1) xs i there (λ k lt. before (suc k) (omega arith)) ∙ ap (λ (m : ℕ). Some m) (omega arith)

find_none : (test : Unacknowledged → Bool) (held : Held → Bool) → ((c n : ℕ) (h : Held) → test (unacknowledged c n h) ≡ held h)
    → (c n : ℕ) (xs : List (Option Held))
    → list_any (passes held) xs ≡ false → find test (in_window c n xs) ≡ None
find_none test held agree c n [] none = refl
find_none test held agree c n (None ∷ xs) none = find_none test held agree c (n + 1) xs none
find_none test held agree c n (Some h ∷ xs) none =
    let parts = or_parts (held h) (list_any (passes held) xs) none in
    cond-false (test (unacknowledged c n h)) (Some (unacknowledged c n h)) _ (agree c n h ∙ parts.0) ∙ find_none test held agree c (n + 1) xs parts.1

none_found : (test : Unacknowledged → Bool) (held : Held → Bool) → ((c n : ℕ) (h : Held) → test (unacknowledged c n h) ≡ held h)
    → (c n : ℕ) (xs : List (Option Held))
    → option_map (λ (u : Unacknowledged). u.order.number) (find test (in_window c n xs)) ≡ None → list_any (passes held) xs ≡ false
none_found test held agree c n [] e = refl
none_found test held agree c n (None ∷ xs) e = none_found test held agree c (n + 1) xs e
none_found test held agree c n (Some h ∷ xs) e = here (test (unacknowledged c n h)) refl e (λ rest. none_found test held agree c (n + 1) xs rest) where
  here : (b : Bool) → test (unacknowledged c n h) ≡ b
      → option_map (λ (u : Unacknowledged). u.order.number) (cond b (Some (unacknowledged c n h)) (find test (in_window c (n + 1) xs))) ≡ None
      → (option_map (λ (u : Unacknowledged). u.order.number) (find test (in_window c (n + 1) xs)) ≡ None → list_any (passes held) xs ≡ false)
      → (held h || list_any (passes held) xs) ≡ false
  here true is e go = absurd cc
  here false is e go = or_from (held h) (list_any (passes held) xs) (sym (agree c n h) ∙ is) (go e)

none_passes : (held : Held → Bool) (xs : List (Option Held)) → position (passes held) xs ≡ None → list_any (passes held) xs ≡ false
none_passes held xs e = list_any_none (passes held) xs (λ k d lt. fails_before_first (passes held) xs k d
    (omega (arith, lt, past (nat_lt (position_or_len (passes held) xs) (length xs)) refl e))) where
      past : (b : Bool) → nat_lt (position_or_len (passes held) xs) (length xs) ≡ b → cond b (Some (position_or_len (passes held) xs)) None ≡ None
          → length xs ≤ position_or_len (passes held) xs
      past true is clash = absurd cc
      past false is same = ltb-false (position_or_len (passes held) xs) (length xs) is

pub lost_at : (now c n : ℕ) (xs : List (Option Held)) (i : ℕ) → position (passes (held_lost now)) xs ≡ Some i
    → option_map (λ (u : Unacknowledged). u.order.number) (find (had_last_wait now) (in_window c n xs)) ≡ Some (n + i)
lost_at now c n xs i e =
    let first = position-Some (passes (held_lost now)) xs i None e in
    find_first (had_last_wait now) (held_lost now) (λ c n h. refl) c n xs i first.1 first.2

pub lost_nowhere : (now c n : ℕ) (xs : List (Option Held)) → position (passes (held_lost now)) xs ≡ None
    → option_map (λ (u : Unacknowledged). u.order.number) (find (had_last_wait now) (in_window c n xs)) ≡ None
lost_nowhere now c n xs e =
    ap (option_map (λ (u : Unacknowledged). u.order.number))
    (find_none (had_last_wait now) (held_lost now) (λ c n h. refl) c n xs (none_passes (held_lost now) xs e))

pub none_is_lost : (now c n : ℕ) (xs : List (Option Held))
    → option_map (λ (u : Unacknowledged). u.order.number) (find (had_last_wait now) (in_window c n xs)) ≡ None → list_any (passes (held_lost now)) xs ≡ false
none_is_lost now c n xs e = none_found (had_last_wait now) (held_lost now) (λ c n h. refl) c n xs e

-- ---- marks and writings

abbrev numbered : ℕ → ℕ → Unacknowledged → Unacknowledged
numbered c n u = record u { order = record { content = u.order.content; channel = c; number = n } }

pub in_window-marks : (now c n : ℕ) (xs ys : List (Option Held)) → AllZip (IsMarkedDue now) xs ys → in_window c n ys ≡ map (due_again now) (in_window c n xs)
in_window-marks now c n [] [] h = refl
in_window-marks now c n (x ∷ xs) [] h = absurd h
in_window-marks now c n [] (y ∷ ys) h = absurd h
in_window-marks now c n (None ∷ xs) (None ∷ ys) h = in_window-marks now c (n + 1) xs ys h.1
in_window-marks now c n (None ∷ xs) (Some k ∷ ys) h = absurd (let clash = h.0 in cc)
in_window-marks now c n (Some k ∷ xs) (None ∷ ys) h = absurd h.0
in_window-marks now c n (Some k ∷ xs) (Some m ∷ ys) h =
    let first : unacknowledged c n m ≡ due_again now (unacknowledged c n k) = ap (numbered c n) h.0 in
    let rest : in_window c (n + 1) ys ≡ map (due_again now) (in_window c (n + 1) xs) = in_window-marks now c (n + 1) xs ys h.1 in
    cc

pub first_written-none : (now : ℕ) (us : List Unacknowledged) → first_written now 0 us ≡ us
first_written-none now [] = refl
first_written-none now (u ∷ us) = refl

pub in_window-writes : (now c n : ℕ) (xs : List (Option Held)) (i : ℕ) (slot : Option Held) → passes held_due (get_or xs i None) ≡ true
    → list_any (passes held_due) (take i xs) ≡ false → Rewrites now (get_or xs i None) slot
    → in_window c n (set xs i slot) ≡ first_written now 1 (in_window c n xs)
in_window-writes now c n [] i slot due before h = absurd (false≢true due)
in_window-writes now c n (None ∷ xs) zero slot due before h = absurd h
in_window-writes now c n (Some k ∷ xs) zero None due before h = absurd h
in_window-writes now c n (Some k ∷ xs) zero (Some m) due before h =
    let first : unacknowledged c n m ≡ written_once now (unacknowledged c n k) = ap (numbered c n) h in
    ap (λ (u : Unacknowledged). u ∷ in_window c (n + 1) xs) first
    ∙ ap (λ (us : List Unacknowledged). written_once now (unacknowledged c n k) ∷ us) (sym (first_written-none now (in_window c (n + 1) xs)))
    ∙ sym (cond-true k.due _ _ due)
in_window-writes now c n (None ∷ xs) (suc i) slot due before h = in_window-writes now c (n + 1) xs i slot due before h
in_window-writes now c n (Some k ∷ xs) (suc i) slot due before h =
    let parts = or_parts k.due (list_any (passes held_due) (take i xs)) before in
    ap (λ (us : List Unacknowledged). unacknowledged c n k ∷ us) (in_window-writes now c (n + 1) xs i slot due parts.1 h)
    ∙ sym (cond-false k.due _ _ parts.0)

-- the first message that is to be written, and that there is none
pub due_first : (c n : ℕ) (xs : List (Option Held)) (i : ℕ) (h : Held) → list_any (passes held_due) (take i xs) ≡ false
    → get_or xs i None ≡ Some h → h.due ≡ true
    → (rest : List Unacknowledged) × (filter is_due (in_window c n xs) ≡ unacknowledged c (n + i) h ∷ rest)
due_first c n [] i h before there due = absurd cc
due_first c n (None ∷ xs) zero h before there due = absurd cc
due_first c n (Some k ∷ xs) zero h before there due =
    let same : k ≡ h = cc in (
      filter is_due (in_window c (n + 1) xs),
      cond-true k.due _ _ (ap (λ (x : Held). x.due) same ∙ due)
          ∙ ap (λ (x : Held). unacknowledged c n x ∷ filter is_due (in_window c (n + 1) xs)) same
          ∙ ap (λ (m : ℕ). unacknowledged c m h ∷ filter is_due (in_window c (n + 1) xs)) (omega arith),
    )
due_first c n (None ∷ xs) (suc i) h before there due =
    let rest = due_first c (n + 1) xs i h before there due in
    (rest.0, rest.1 ∙ ap (λ (m : ℕ). unacknowledged c m h ∷ rest.0) (omega arith))
due_first c n (Some k ∷ xs) (suc i) h before there due =
    let parts = or_parts k.due (list_any (passes held_due) (take i xs)) before in
    let rest = due_first c (n + 1) xs i h parts.1 there due in (
      rest.0,
      cond-false k.due _ _ parts.0 ∙ rest.1 ∙ ap (λ (m : ℕ). unacknowledged c m h ∷ rest.0) (omega arith),
    )

pub due_none : (c n : ℕ) (xs : List (Option Held)) → list_any (passes held_due) xs ≡ false → filter is_due (in_window c n xs) ≡ []
due_none c n [] none = refl
due_none c n (None ∷ xs) none = due_none c (n + 1) xs none
due_none c n (Some k ∷ xs) none =
    let parts = or_parts k.due (list_any (passes held_due) xs) none in
    cond-false k.due _ _ parts.0 ∙ due_none c (n + 1) xs parts.1

-- ---- an acknowledgement

-- the place whose number has these 16 bits
abbrev Hits : ℕ → ℕ → ℕ → ℕ → Type 0
Hits number n size place = (i : ℕ) → i < size → ((n + i) % 65536 == number) ≡ (i == place)

hits_later : (number n size place : ℕ) → Hits number n (suc size) (suc place) → Hits number (n + 1) size place
hits_later number n size place h i lt =
    ap (λ (m : ℕ). m % 65536 == number) (let same : n + 1 + i ≡ n + (i + 1) = omega arith in same) ∙ h (i + 1) (omega arith) ∙ same_test i place where
      same_test : (i place : ℕ) → ((i + 1) == suc place) ≡ (i == place)
      same_test i place = grind (arith, nat_tests)

named_is : (c number n : ℕ) (h : Held) → is_named c number (unacknowledged c n h) ≡ (n % 65536 == number)
named_is c number n h = ap (λ (b : Bool). b && (n % 65536 == number)) (eq-eqb c c refl)

keeps_all : (c number n : ℕ) (xs : List (Option Held)) → ((i : ℕ) → i < length xs → ((n + i) % 65536 == number) ≡ false)
    → (in_window c n xs ≡ filter (λ v. not (is_named c number v)) (in_window c n xs)) × (find (is_named c number) (in_window c n xs) ≡ None)
keeps_all c number n [] h = (refl, refl)
keeps_all c number n (None ∷ xs) h =
    keeps_all c number (n + 1) xs (λ i lt. ap (λ (m : ℕ). m % 65536 == number) (let same : n + 1 + i ≡ n + (i + 1) = omega arith in same)
    ∙ h (i + 1) (omega arith))
keeps_all c number n (Some k ∷ xs) h =
    let rest = keeps_all c number (n + 1) xs (λ i lt. ap (λ (m : ℕ). m % 65536 == number) (let same : n + 1 + i ≡ n + (i + 1) = omega arith in same)
    ∙ h (i + 1) (omega arith)) in
    let other : is_named c number (unacknowledged c n k) ≡ false =
    named_is c number n k ∙ ap (λ (m : ℕ). m % 65536 == number) (let same : n ≡ n + 0 = omega arith in same) ∙ h 0 (omega arith) in (
      ap (λ (us : List Unacknowledged). unacknowledged c n k ∷ us) rest.0 ∙ sym (cond-true (not (is_named c number (unacknowledged c n k))) _ _ (ap not other)),
      cond-false (is_named c number (unacknowledged c n k)) _ _ other ∙ rest.1,
    )

pub in_window-drops : (c number n : ℕ) (xs : List (Option Held)) (place : ℕ) → Hits number n (length xs) place
    → (in_window c n (set xs place None) ≡ filter (λ v. not (is_named c number v)) (in_window c n xs))
    × (is_some (find (is_named c number) (in_window c n xs)) ≡ is_some (get_or xs place None))
in_window-drops c number n [] place h = (refl, refl)
in_window-drops c number n (None ∷ xs) zero h =
    let rest = keeps_all c number (n + 1) xs (λ i lt. ap (λ (m : ℕ). m % 65536 == number) (let same : n + 1 + i ≡ n + (i + 1) = omega arith in same)
    ∙ h (i + 1) (omega arith) ∙ ne_eqb (i + 1) 0 (λ e. omega arith)) in
    (rest.0, ap is_some rest.1)
in_window-drops c number n (Some k ∷ xs) zero h =
    let rest = keeps_all c number (n + 1) xs (λ i lt. ap (λ (m : ℕ). m % 65536 == number) (let same : n + 1 + i ≡ n + (i + 1) = omega arith in same)
    ∙ h (i + 1) (omega arith) ∙ ne_eqb (i + 1) 0 (λ e. omega arith)) in
    let hit : is_named c number (unacknowledged c n k) ≡ true =
    named_is c number n k ∙ ap (λ (m : ℕ). m % 65536 == number) (let same : n ≡ n + 0 = omega arith in same) ∙ h 0 (omega arith) in (
      rest.0 ∙ sym (cond-false (not (is_named c number (unacknowledged c n k))) _ _ (ap not hit)),
      ap is_some (cond-true (is_named c number (unacknowledged c n k)) (Some (unacknowledged c n k)) _ hit),
    )
in_window-drops c number n (None ∷ xs) (suc place) h = in_window-drops c number (n + 1) xs place (hits_later number n (length xs) place h)
in_window-drops c number n (Some k ∷ xs) (suc place) h =
    let rest = in_window-drops c number (n + 1) xs place (hits_later number n (length xs) place h) in
    let other : is_named c number (unacknowledged c n k) ≡ false =
    named_is c number n k ∙ ap (λ (m : ℕ). m % 65536 == number) (let same : n ≡ n + 0 = omega arith in same) ∙ h 0 (omega arith)
    ∙ ne_eqb 0 (suc place) (λ e. omega arith) in (
      ap (λ (us : List Unacknowledged). unacknowledged c n k ∷ us) rest.0 ∙ sym (cond-true (not (is_named c number (unacknowledged c n k))) _ _ (ap not other)),
      ap is_some (cond-false (is_named c number (unacknowledged c n k)) _ _ other) ∙ rest.1,
    )

-- of no more than 256 numbers only one has these 16 bits
pub hits_from : (number n size place : ℕ) → size ≤ 256 → number < 65536 → place < 65536 → (place + n) % 65536 ≡ number → Hits number n size place
hits_from number n size place few small low is i lt = elim (cases_eq i place) [
  | inl same ↦ eq-eqb ((n + i) % 65536) number (omega (arith, same, is)) ∙ sym (eq-eqb i place same)
  | inr apart ↦ ne_eqb ((n + i) % 65536) number (λ hit. apart (only_one n i place number (omega arith) low hit is)) ∙ sym (ne_eqb i place apart)
] where
  only_one : (n i place number : ℕ) → i < 65536 → place < 65536 → (n + i) % 65536 ≡ number → (place + n) % 65536 ≡ number → i ≡ place
  only_one n i place number below low hit is = omega arith

-- ---- what acknowledging a number leaves

pub place_hits : (number n size place : ℕ) → size ≤ 256 → number < 65536 → place ≡ (number + (65536 - n % 65536)) % 65536 → Hits number n size place
place_hits number n size place few small is = hits_from number n size place few small (omega (arith, is)) (omega (arith, is))

is_none : (x : Option Held) → is_some x ≡ false → x ≡ None
is_none None e = refl
is_none (Some h) e = absurd (false≢true (sym e))

pub set-nothing : (xs : List (Option Held)) (place : ℕ) → is_some (get_or xs place None) ≡ false → set xs place None ≡ xs
set-nothing xs place empty = ap (set xs place) (sym (is_none (get_or xs place None) empty)) ∙ set-get_or xs place None

-- nothing stands in that place
pub drops_nothing : (c number n : ℕ) (xs : List (Option Held)) (place : ℕ) → Hits number n (length xs) place → is_some (get_or xs place None) ≡ false
    → (is_some (find (is_named c number) (in_window c n xs)) ≡ false) × (in_window c n xs ≡ filter (λ v. not (is_named c number v)) (in_window c n xs))
drops_nothing c number n xs place hits empty =
    let drops = in_window-drops c number n xs place hits in
    (drops.1 ∙ empty, sym (ap (in_window c n) (set-nothing xs place empty)) ∙ drops.0)

-- a message stood in that place
pub drops_one : (c number n : ℕ) (xs ys zs : List (Option Held)) (place k : ℕ) → Hits number n (length xs) place → is_some (get_or xs place None) ≡ true
    → ys ≡ set xs place None → ys ≡ replicate k None ++ zs
    → (is_some (find (is_named c number) (in_window c n xs)) ≡ true) × (in_window c (n + k) zs ≡ filter (λ v. not (is_named c number v)) (in_window c n xs))
drops_one c number n xs ys zs place k hits there after parts =
    let drops = in_window-drops c number n xs place hits in
    (drops.1 ∙ there, sym (in_window-skip c n k ys zs parts) ∙ ap (in_window c n) after ∙ drops.0)

still_none_due : (xs : List (Option Held)) (due place : ℕ) → list_any (passes held_due) (take due xs) ≡ false → (i : ℕ) (d : Option Held) → i < due
    → i < length xs
    → passes held_due (get_or (set xs place None) i d) ≡ false
still_none_due xs due place none i d before within = elim (cases_eq i place) [
  | inl same ↦ ap (passes held_due) (ap (λ (j : ℕ). get_or (set xs place None) j d) same ∙ get_or-set_same xs place None d (omega (arith, same)))
  | inr apart ↦ ap (passes held_due) (get_or-set_other xs place i None d apart ∙ sym (get_or-take due xs i d before))
      ∙ none_at (passes held_due) (take due xs) i d none (omega (arith, length-take due xs))
]

pub none_due_after : (xs ys zs : List (Option Held)) (due place k : ℕ) → due ≤ length xs → list_any (passes held_due) (take due xs) ≡ false
    → ys ≡ set xs place None → ys ≡ replicate k None ++ zs → list_any (passes held_due) (take (due - k) zs) ≡ false
none_due_after xs ys zs due place k within none after parts =
    list_any_none (passes held_due) (take (due - k) zs) (λ i d lt.
    let bound : i < due - k = omega (arith, lt, length-take (due - k) zs) in
    ap (passes held_due) (get_or-take (due - k) zs i d bound
    ∙ sym (get_or-append_right (replicate k None) zs k (k + i) d (length-replicate k None) (omega arith) ∙ ap (λ (j : ℕ). get_or zs j d) (omega arith))
    ∙ sym (ap (λ (l : List (Option Held)). get_or l (k + i) d) parts) ∙ ap (λ (l : List (Option Held)). get_or l (k + i) d) after)
    ∙ still_none_due xs due place none (k + i) d (omega (arith, bound)) (omega (arith, bound, within)))

pub sizes_after : (xs ys zs : List (Option Held)) (place k : ℕ) → ys ≡ set xs place None → ys ≡ replicate k None ++ zs → length xs ≡ k + length zs
sizes_after xs ys zs place k after parts =
    sym (length-set xs place None) ∙ sym (ap length after) ∙ ap length parts ∙ length-append (replicate k None) zs
    ∙ ap (λ (j : ℕ). j + length zs) (length-replicate k None)

pub find_none_in : (now c n : ℕ) (xs : List (Option Held)) → list_any (passes (held_lost now)) xs ≡ false → find (had_last_wait now) (in_window c n xs) ≡ None
find_none_in now c n xs e = find_none (had_last_wait now) (held_lost now) (λ c n h. refl) c n xs e
