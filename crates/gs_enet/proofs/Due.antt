-- Which messages are to be written, and what noting that one was written leaves.
use Rattle.std.proofs.Common.{◌≡◌, ◌≢◌, ◌⊎◌, ◌<◌, ◌≤◌, ◌+◌, ◌-◌, ℕ, zero, suc, Bool, true, false, cond, List, [], ◌∷◌, ◌++◌, length, map, take, drop, get_or}
use Rattle.std.proofs.Common.{set, Option, Some, None, refl, sym, ap, subst, ◌∙◌, arith, inl, inr}
use Rattle.std.specs.Prelude.{◌==◌}
use Rattle.std.specs.List.{filter, list_any}
use Rattle.std.proofs.lemmas.Bool.{cond-true, cond-false, false≢true, cases_eq, or_parts}
use Rattle.std.proofs.lemmas.List.{append_assoc, append-nil, length-append, get_or_default, get_or-set_same, get_or-set_other, get_or-take, length-take}
use Rattle.std.proofs.lemmas.List.{length-take-le, take_all, length-set, drop-drop}
use Rattle.std.proofs.lemmas.List.Elements.{filter-append}
use Rattle.gs_enet.specs.declared.held.Held.{Held}
use Rattle.gs_enet.specs.declared.channel.Channel.{Channel}
use Rattle.gs_enet.specs.Record.{PeerRecord, Unacknowledged}
use Rattle.gs_enet.specs.Write.{is_due, written_once, first_written}
use Rattle.gs_enet.specs.Window.{in_window, passes, held_due}
use Rattle.gs_enet.specs.Channels.{next_of, channel_held, all_held, SameHeld, SameCounts, AreSame, HasDue}
use Rattle.gs_enet.specs.Busy.{IsSettled, AreIdle}
use Rattle.gs_enet.specs.Standing.{HasCounts}
use Rattle.gs_enet.proofs.Windows.{due_none, first_written-none}

-- ---- settled channels

pub settled_none : (c : ℕ) (ch : Channel) → IsSettled ch → filter is_due (channel_held c ch) ≡ []
settled_none c ch settled =
    due_none c ch.first ch.window.items
    (ap (list_any (passes held_due)) (sym (take_all ch.next_due ch.window.items (omega (arith, settled)))) ∙ ch.none_due)

pub due_unsettled : (ch : Channel) → HasDue ch → IsSettled ch → ⊥
due_unsettled ch due settled = let below = due.0 in omega (arith, below, settled)

pub all_settled : (c : ℕ) (chs : List Channel) → ((i : ℕ) (d : Channel) → i < length chs → IsSettled (get_or chs i d))
    → filter is_due (all_held c chs) ≡ []
all_settled c [] h = refl
all_settled c (ch ∷ chs) h =
    filter-append is_due (channel_held c ch) (all_held (suc c) chs)
    ∙ ap (λ (us : List Unacknowledged). us ++ filter is_due (all_held (suc c) chs)) (settled_none c ch (h 0 ch (omega arith)))
    ∙ all_settled (suc c) chs (λ i d lt. h (suc i) d (omega (arith, lt)))

pub settled_before : (from to : ℕ) (chs : List Channel) → from ≤ length chs → AreIdle from to chs
    → filter is_due (all_held 0 (take from chs)) ≡ []
settled_before from to chs few idle =
    all_settled 0 (take from chs) (λ i d lt.
    let below : i < from = omega (arith, lt, length-take from chs) in
    subst IsSettled (sym (get_or-take from chs i d below)) (idle i d (omega (arith, below, few)) (λ within. omega (arith, within.0, below))))

-- one channel more is settled
pub idle_more : (from to : ℕ) (chs ys : List Channel) (old new : Channel) → length ys ≡ length chs → AreIdle from to chs → IsSettled new
    → ys ≡ set chs from new → AreIdle (from + 1) to ys
idle_more from to chs ys old new size idle settled is i d lt out = subst (λ (xs : List Channel). IsSettled (get_or xs i d)) (sym is)
    (elim (cases_eq i from) [
      | inl same ↦ subst IsSettled
          (sym (ap (λ (j : ℕ). get_or (set chs from new) j d) same ∙ get_or-set_same chs from new d (omega (arith, same, lt, size)))) settled
      | inr apart ↦ subst IsSettled (sym (get_or-set_other chs from i new d apart))
          (idle i d (omega (arith, lt, size)) (λ within. out (omega (arith, within.0, apart), within.1)))
    ])

-- a channel that may have a message to be written changed
pub idle_within : (from to : ℕ) (chs : List Channel) (c : ℕ) (new : Channel) → AreIdle from to chs → (((from ≤ c) × (c < to) → ⊥) → ⊥)
    → AreIdle from to (set chs c new)
idle_within from to chs c new idle within i d lt out = elim (cases_eq i c) [
  | inl same ↦ absurd (within (λ both. out (omega (arith, both.0, same), omega (arith, both.1, same))))
  | inr apart ↦ subst IsSettled (sym (get_or-set_other chs c i new d apart)) (idle i d (omega (arith, lt, length-set chs c new)) out)
]

-- a channel changed, and is settled if it was
pub idle_kept : (from to : ℕ) (chs : List Channel) (c : ℕ) (new : Channel) → AreIdle from to chs
    → ((d : Channel) → c < length chs → IsSettled (get_or chs c d) → IsSettled new) → AreIdle from to (set chs c new)
idle_kept from to chs c new idle kept i d lt out = elim (cases_eq i c) [
  | inl same ↦ subst IsSettled
      (sym (ap (λ (j : ℕ). get_or (set chs c new) j d) same ∙ get_or-set_same chs c new d (omega (arith, same, lt, length-set chs c new))))
      (kept d (omega (arith, same, lt, length-set chs c new))
      (idle c d (omega (arith, same, lt, length-set chs c new)) (λ both. out (omega (arith, both.0, same), omega (arith, both.1, same)))))
  | inr apart ↦ subst IsSettled (sym (get_or-set_other chs c i new d apart)) (idle i d (omega (arith, lt, length-set chs c new)) out)
]

-- more channels may have one
pub idle_wider : (from to from' to' : ℕ) (chs : List Channel) → AreIdle from to chs
    → ((i : ℕ) → (from ≤ i) × (i < to) → (from' ≤ i) × (i < to')) → AreIdle from' to' chs
idle_wider from to from' to' chs idle wider i d lt out = idle i d lt (λ both. out (wider i both))

-- ---- the same channels

pub same_refl : (chs : List Channel) → AreSame chs chs
same_refl chs i d lt = record { same = record { next = refl; heard = refl }; held = λ c. refl }

same_then : (x y z : Channel) → SameHeld x y → SameHeld y z → SameHeld x z
same_then x y z h k =
    record {
      same = record { next = k.same.next ∙ h.same.next; heard = k.same.heard ∙ h.same.heard };
      held = λ c. k.held c ∙ h.held c;
    }

pub same_set : (xs ys : List Channel) (c : ℕ) (e new : Channel) → length ys ≡ length xs → AreSame xs ys → c < length ys
    → SameHeld (get_or ys c e) new → AreSame xs (set ys c new)
same_set xs ys c e new size h below same i d lt = elim (cases_eq i c) [
  | inl at ↦ subst (SameHeld (get_or xs i d))
      (sym (ap (λ (j : ℕ). get_or (set ys c new) j d) at ∙ get_or-set_same ys c new d below))
      (same_then (get_or xs i d) (get_or ys c e) new
      (subst (SameHeld (get_or xs i d)) (ap (λ (j : ℕ). get_or ys j d) at ∙ get_or_default ys c d e below) (h i d lt)) same)
  | inr apart ↦ subst (SameHeld (get_or xs i d)) (sym (get_or-set_other ys c i new d apart)) (h i d lt)
]

pub same_held : (c : ℕ) (xs ys : List Channel) → length ys ≡ length xs → AreSame xs ys → all_held c ys ≡ all_held c xs
same_held c [] [] size h = refl
same_held c [] (y ∷ ys) size h = absurd (omega (arith, size))
same_held c (x ∷ xs) [] size h = absurd (omega (arith, size))
same_held c (x ∷ xs) (y ∷ ys) size h =
    ap (λ (us : List Unacknowledged). us ++ all_held (suc c) ys) ((h 0 x (omega arith)).held c)
    ∙ ap (λ (us : List Unacknowledged). channel_held c x ++ us)
    (same_held (suc c) xs ys (omega (arith, size)) (λ i d lt. h (suc i) d (omega (arith, lt))))

pub counts_same : (r : PeerRecord) (xs ys : List Channel) → length ys ≡ length xs → AreSame xs ys → HasCounts r xs → HasCounts r ys
counts_same r xs ys size h counts c d lt =
    let same = (h c d (omega (arith, lt, size))).same in
    let had = counts c d (omega (arith, lt, size)) in
    (same.next ∙ had.0, same.heard ∙ had.1)

-- ---- what was noted as written

-- those that are written first aren't among those that aren't to be written
pub first_written-past : (now : ℕ) (xs ys : List Unacknowledged) → filter is_due xs ≡ [] → first_written now 1 (xs ++ ys) ≡ xs ++ first_written now 1 ys
first_written-past now [] ys none = refl
first_written-past now (x ∷ xs) ys none = here x.due refl none (first_written-past now xs ys) where
  here : (b : Bool) → x.due ≡ b → cond b (x ∷ filter is_due xs) (filter is_due xs) ≡ []
      → (filter is_due xs ≡ [] → first_written now 1 (xs ++ ys) ≡ xs ++ first_written now 1 ys)
      → cond x.due (written_once now x ∷ first_written now 0 (xs ++ ys)) (x ∷ first_written now 1 (xs ++ ys)) ≡ x ∷ (xs ++ first_written now 1 ys)
  here true is clash go = absurd cc
  here false is rest go = cond-false x.due _ _ is ∙ ap (λ (us : List Unacknowledged). x ∷ us) (go rest)

pub first_written-within : (now : ℕ) (xs ys : List Unacknowledged) (u : Unacknowledged) (rest : List Unacknowledged) → filter is_due xs ≡ u ∷ rest
    → first_written now 1 (xs ++ ys) ≡ first_written now 1 xs ++ ys
first_written-within now [] ys u rest some = absurd cc
first_written-within now (x ∷ xs) ys u rest some = here x.due refl some (first_written-within now xs ys u rest) where
  here : (b : Bool) → x.due ≡ b → cond b (x ∷ filter is_due xs) (filter is_due xs) ≡ u ∷ rest
      → (filter is_due xs ≡ u ∷ rest → first_written now 1 (xs ++ ys) ≡ first_written now 1 xs ++ ys)
      → cond x.due (written_once now x ∷ first_written now 0 (xs ++ ys)) (x ∷ first_written now 1 (xs ++ ys))
      ≡ cond x.due (written_once now x ∷ first_written now 0 xs) (x ∷ first_written now 1 xs) ++ ys
  here true is first go =
      cond-true x.due _ _ is ∙ ap (λ (us : List Unacknowledged). written_once now x ∷ us) (first_written-none now (xs ++ ys))
      ∙ ap (λ (us : List Unacknowledged). written_once now x ∷ (us ++ ys)) (sym (first_written-none now xs))
      ∙ sym (ap (λ (us : List Unacknowledged). us ++ ys) (cond-true x.due _ _ is))
  here false is rest go =
      cond-false x.due _ _ is ∙ ap (λ (us : List Unacknowledged). x ∷ us) (go rest)
      ∙ sym (ap (λ (us : List Unacknowledged). us ++ ys) (cond-false x.due (written_once now x ∷ first_written now 0 xs) (x ∷ first_written now 1 xs) is))

-- one more is written
pub first_written-more : (now n : ℕ) (us : List Unacknowledged) → first_written now (suc n) us ≡ first_written now 1 (first_written now n us)
first_written-more now n [] = refl
first_written-more now zero (u ∷ us) = refl
first_written-more now (suc n) (u ∷ us) = here u.due refl (first_written-more now n us) (first_written-more now (suc n) us) where
  here : (b : Bool) → u.due ≡ b → first_written now (suc n) us ≡ first_written now 1 (first_written now n us)
      → first_written now (suc (suc n)) us ≡ first_written now 1 (first_written now (suc n) us)
      → cond u.due (written_once now u ∷ first_written now (suc n) us) (u ∷ first_written now (suc (suc n)) us)
      ≡ first_written now 1 (cond u.due (written_once now u ∷ first_written now n us) (u ∷ first_written now (suc n) us))
  here true is one more =
      cond-true u.due _ _ is ∙ ap (λ (vs : List Unacknowledged). written_once now u ∷ vs) one
      ∙ sym (ap (first_written now 1) (cond-true u.due (written_once now u ∷ first_written now n us) (u ∷ first_written now (suc n) us) is))
  here false is one more =
      cond-false u.due _ _ is ∙ ap (λ (vs : List Unacknowledged). u ∷ vs) more
      ∙ sym (cond-false u.due (written_once now u ∷ first_written now 0 (first_written now (suc n) us))
      (u ∷ first_written now 1 (first_written now (suc n) us)) is)
      ∙ sym (ap (first_written now 1) (cond-false u.due (written_once now u ∷ first_written now n us) (u ∷ first_written now (suc n) us) is))

-- what was written isn't to be written any more
pub due_after : (now n : ℕ) (us : List Unacknowledged) → filter is_due (first_written now n us) ≡ drop n (filter is_due us)
due_after now zero [] = refl
due_after now (suc n) [] = refl
due_after now zero (u ∷ us) = refl
due_after now (suc n) (u ∷ us) = here u.due refl (due_after now n us) (due_after now (suc n) us) where
  here : (b : Bool) → u.due ≡ b → filter is_due (first_written now n us) ≡ drop n (filter is_due us)
      → filter is_due (first_written now (suc n) us) ≡ drop (suc n) (filter is_due us)
      → filter is_due (cond u.due (written_once now u ∷ first_written now n us) (u ∷ first_written now (suc n) us))
      ≡ drop (suc n) (cond u.due (u ∷ filter is_due us) (filter is_due us))
  here true is one more =
      ap (filter is_due) (cond-true u.due (written_once now u ∷ first_written now n us) (u ∷ first_written now (suc n) us) is) ∙ one
      ∙ sym (ap (drop (suc n)) (cond-true u.due (u ∷ filter is_due us) (filter is_due us) is))
  here false is one more =
      ap (filter is_due) (cond-false u.due (written_once now u ∷ first_written now n us) (u ∷ first_written now (suc n) us) is)
      ∙ cond-false u.due (u ∷ filter is_due (first_written now (suc n) us)) (filter is_due (first_written now (suc n) us)) is ∙ more
      ∙ sym (ap (drop (suc n)) (cond-false u.due (u ∷ filter is_due us) (filter is_due us) is))
