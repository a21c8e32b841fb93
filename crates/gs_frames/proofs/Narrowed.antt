-- A client with a window of one frame and no resets.
use Rattle.std.proofs.Common.{◌≡◌, ◌<◌, ◌≤◌, ◌+◌, ◌-◌, ℕ, zero, suc, Bool, true, false, ◌&&◌, ◌||◌, not, List, [], ◌∷◌, ◌++◌, get_or, Option, Some, None, refl}
use Rattle.std.proofs.Common.{sym, ap, ◌∙◌, arith, inl, inr}
use Rattle.std.specs.Prelude.{nat_lt, nat_le, ◌==◌, is_some, if◌then◌else◌}
use Rattle.std.specs.List.{find, list_any, range_with_len}
use Rattle.std.proofs.lemmas.Bool.{cases_Bool, cases_lt, cond-true, cond-false, and_left, and_right, and_from, eq-eqb, ne_eqb, le-leb, le-ltb, lt-ltb, or_left}
use Rattle.std.proofs.lemmas.Bool.{or_right}
use Rattle.std.proofs.lemmas.Bool.Decides.{nat_tests}
use Rattle.std.proofs.lemmas.List.{append-nil}
use Rattle.std.proofs.lemmas.List.Folds.{list_any_none, list_any-append}
use Rattle.gs_rtp.specs.Stream.{StreamSettings}
use Rattle.gs_frames.specs.declared.range.Range.{Range}
use Rattle.gs_frames.specs.Client.{datagrams}
use Rattle.gs_frames.specs.Image.{Frame}
use Rattle.gs_frames.specs.Received.{Received, greatest, is_left}
use Rattle.gs_frames.specs.Complete.{complete}
use Rattle.gs_frames.specs.Settled.{is_done, settled}
use Rattle.gs_frames.specs.Handed.{Handed, is_re_entry, is_barred, is_handed, hand_on, handed_through}
use Rattle.gs_frames.specs.Asks.{lost_to, lost_by, as_list, asks_of}
use Rattle.gs_frames.specs.Narrow.{narrow, narrow_taken, is_decodable, is_narrow_handed, handed_one, narrow_handed_through, narrow_handed_of, narrow_handed}
use Rattle.gs_frames.specs.Narrow.{first_lost, range_or_none, narrow_lost_by, narrow_asks_of, narrow_asks, NarrowClientIsClient, NarrowClientSettlesComplete}
use Rattle.gs_frames.specs.Narrow.{NoResetBarsNothing}
use Rattle.gs_frames.proofs.Counting.{NoneOf-above, complete-none}
use Rattle.gs_frames.proofs.SettledUp.{left-from, left-not_from, done-above, settled-greatest, settled-unique, settled-within}
use Rattle.gs_frames.proofs.HandedThrough.{RisesTo, through-zero, through-suc, through-rises}
use Rattle.gs_frames.proofs.HandedGrows.{handed-is}
use Rattle.gs_frames.proofs.AsksGrow.{asks-is, asks_of-more, asks_of-empty, not_held}
use Rattle.gs_frames.proofs.OneBlock.{no_resets}

-- ---- of what came

narrow_handed-is : (s : StreamSettings) (came : List (List ℕ)) → narrow_handed s came ≡ narrow_handed_of s (narrow_taken s came)
unfolding narrow_handed
narrow_handed-is s came = refl

narrow_asks-is : (s : StreamSettings) (came : List (List ℕ)) → narrow_asks s came ≡ narrow_asks_of s (narrow_taken s came)
unfolding narrow_asks
narrow_asks-is s came = refl

-- ---- what isn't complete

abbrev handed_next : List Handed → Bool → ℕ → Option Frame → List Handed
handed_next before handed f held = before ++ (if handed then handed_one f held else [])

-- frames that aren't complete add nothing
is_narrow_handed-idle : (s : StreamSettings) (rs : List Received) (n : ℕ) → complete (narrow s) rs (suc n) ≡ None → is_narrow_handed s rs (suc n) ≡ false
unfolding is_narrow_handed
is_narrow_handed-idle s rs n e = ap (is_decodable (is_narrow_handed s rs n)) e

narrow_handed_through-idle : (s : StreamSettings) (rs : List Received) (g n : ℕ) → g ≤ n → ((f : ℕ) → g < f → complete (narrow s) rs f ≡ None)
    → narrow_handed_through s rs n ≡ narrow_handed_through s rs g
unfolding narrow_handed_through
narrow_handed_through-idle s rs g zero h idle = let same : 0 ≡ g = omega arith in ap (narrow_handed_through s rs) same
narrow_handed_through-idle s rs g (suc n) h idle = elim (cases_lt g (suc n)) [
  | inl below ↦
      ap (λ (b : Bool). handed_next (narrow_handed_through s rs n) b (suc n) (complete (narrow s) rs (suc n)))
      (is_narrow_handed-idle s rs n (idle (suc n) below))
      ∙ append-nil (narrow_handed_through s rs n) ∙ narrow_handed_through-idle s rs g n (omega arith) idle
  | inr at_it ↦ let same : suc n ≡ g = omega arith in ap (narrow_handed_through s rs) same
]

-- ---- what is handed among the first n

-- a handed one is just below
abbrev follows : List Handed → ℕ → Bool
follows below f = list_any (λ h. h.frame + 1 == f) below

-- the narrow list is the client's, and says whether the last of the first n was handed
abbrev AgreesTo : StreamSettings → List Received → ℕ → Type 0
AgreesTo s rs n =
    (narrow_handed_through s rs n ≡ handed_through (narrow s) rs [] n)
    × (is_narrow_handed s rs n ≡ follows (handed_through (narrow s) rs [] n) (suc n))

-- a frame that isn't barred is handed where it is decodable
not_barred : (x d : Bool) → (not (x && not true) && d) ≡ d
not_barred true d = refl
not_barred false d = refl

-- none of the frames up to n is just below the one after the next
follows-none : (below : List Handed) (n : ℕ) → RisesTo n below → follows below (suc (suc n)) ≡ false
follows-none below n rises =
    list_any_none (λ h. h.frame + 1 == suc (suc n)) below
    (λ k d h. let is = (rises.0 k d h).1 in ne_eqb ((get_or below k d).frame + 1) (suc (suc n)) (λ e. absurd (omega arith)))

-- one frame more
abbrev AgreesNext : List Handed → ℕ → Option Frame → Type 0
AgreesNext below n o =
    (below ++ (if is_decodable (follows below (suc n)) o then handed_one (suc n) o else []) ≡ hand_on [] below (suc n) o)
    × (is_decodable (follows below (suc n)) o ≡ follows (hand_on [] below (suc n) o) (suc (suc n)))

agrees-next : (below : List Handed) (n : ℕ) (o : Option Frame) → RisesTo n below → AgreesNext below n o
agrees-next below n None rises = (append-nil below, sym (follows-none below n rises))
agrees-next below n (Some held) rises =
    let one : Handed = record { frame = suc n; kind = held.kind; unit = held.unit } in
    let decodable = is_re_entry held.kind || follows below (suc n) in
    let test = is_handed [] below (suc n) held.kind in
    let same : test ≡ decodable = not_barred (not (held.kind == 2)) decodable in
    elim (cases_Bool decodable) [
      | inl passes ↦
          let on : hand_on [] below (suc n) (Some held) ≡ below ++ one ∷ [] = cond-true test (below ++ one ∷ []) below (same ∙ passes) in
          let here : follows (below ++ one ∷ []) (suc (suc n)) ≡ true =
          list_any-append (λ h. h.frame + 1 == suc (suc n)) below (one ∷ [])
          ∙ or_right (follows below (suc (suc n))) (follows (one ∷ []) (suc (suc n)))
          (or_left (suc n + 1 == suc (suc n)) false (eq-eqb (suc n + 1) (suc (suc n)) (omega arith))) in (
            ap (λ (l : List Handed). below ++ l) (cond-true decodable (one ∷ []) [] passes) ∙ sym on,
            passes ∙ sym (ap (λ (l : List Handed). follows l (suc (suc n))) on ∙ here),
          )
      | inr fails ↦
          let on : hand_on [] below (suc n) (Some held) ≡ below = cond-false test (below ++ one ∷ []) below (same ∙ fails) in (
            ap (λ (l : List Handed). below ++ l) (cond-false decodable (one ∷ []) [] fails) ∙ append-nil below ∙ sym on,
            fails ∙ sym (ap (λ (l : List Handed). follows l (suc (suc n))) on ∙ follows-none below n rises),
          )
    ]

agrees : (s : StreamSettings) (rs : List Received) (n : ℕ) → AgreesTo s rs n
unfolding narrow_handed_through is_narrow_handed
agrees s rs zero = (sym (through-zero (narrow s) rs []), sym (ap (λ (l : List Handed). follows l 1) (through-zero (narrow s) rs [])))
agrees s rs (suc n) =
    let before = agrees s rs n in
    let below = handed_through (narrow s) rs [] n in
    let o = complete (narrow s) rs (suc n) in
    let next = agrees-next below n o (through-rises (narrow s) rs [] n) in
    let more = through-suc (narrow s) rs [] n in (
      ap (λ (l : List Handed). l ++ (if is_decodable (is_narrow_handed s rs n) o then handed_one (suc n) o else [])) before.0
          ∙ ap (λ (b : Bool). below ++ (if is_decodable b o then handed_one (suc n) o else [])) before.1
          ∙ next.0 ∙ sym more,
      ap (λ (b : Bool). is_decodable b o) before.1 ∙ next.1
          ∙ ap (λ (l : List Handed). follows l (suc (suc n))) (sym more),
    )

-- ---- what is settled

-- each frame below the greatest is left
done-below : (s : StreamSettings) (rs : List Received) (f : ℕ) → f < greatest rs → is_done (narrow s) rs f ≡ true
done-below s rs f below = or_right (is_some (complete (narrow s) rs f)) (is_left 1 rs f) (left-from 1 rs f (omega arith))

-- the greatest is settled where it is complete
settled-whole : (s : StreamSettings) (rs : List Received) (held : Frame) → complete (narrow s) rs (greatest rs) ≡ Some held
    → settled (narrow s) rs ≡ greatest rs
settled-whole s rs held whole =
    settled-unique (narrow s) rs (greatest rs)
    (λ f least within. elim (cases_lt f (greatest rs)) [
      | inl below ↦ done-below s rs f below
      | inr at_it ↦
          let same : greatest rs ≡ f = omega arith in
          ap (is_done (narrow s) rs) (sym same) ∙ ap (λ (o : Option Frame). is_some o || is_left 1 rs (greatest rs)) whole
    ])
    (done-above (narrow s) rs (suc (greatest rs)) (omega arith))

-- else the one before it is the last
settled-before : (s : StreamSettings) (rs : List Received) (n : ℕ) → greatest rs ≡ suc n → complete (narrow s) rs (suc n) ≡ None
    → settled (narrow s) rs ≡ n
settled-before s rs n greatest_is none =
    settled-unique (narrow s) rs n (λ f least within. done-below s rs f (omega arith))
    (ap (λ (o : Option Frame). is_some o || is_left 1 rs (suc n)) none ∙ left-not_from 1 rs (suc n) (omega arith))

settled-all : (s : StreamSettings) (rs : List Received) (o : Option Frame) → complete (narrow s) rs (greatest rs) ≡ o
    → narrow_handed_of s rs ≡ handed_through (narrow s) rs [] (settled (narrow s) rs)
settled-all s rs (Some held) e =
    (agrees s rs (greatest rs)).0 ∙ ap (handed_through (narrow s) rs []) (sym (settled-whole s rs held e))
settled-all s rs None e = elim (cases_lt 0 (greatest rs)) [
  | inr nothing ↦
      let same : greatest rs ≡ settled (narrow s) rs = omega (arith, settled-within (narrow s) rs) in
      (agrees s rs (greatest rs)).0 ∙ ap (handed_through (narrow s) rs []) same
  | inl some ↦
      let n = greatest rs - 1 in
      let greatest_is : greatest rs ≡ suc n = omega arith in
      let none = ap (complete (narrow s) rs) (sym greatest_is) ∙ e in
      narrow_handed_through-idle s rs n (greatest rs) (omega arith)
      (λ f above. elim (cases_lt (greatest rs) f) [
        | inl more ↦ complete-none (narrow s) rs f (NoneOf-above rs f more)
        | inr not_more ↦ let same : greatest rs ≡ f = omega arith in ap (complete (narrow s) rs) (sym same) ∙ e
      ])
      ∙ (agrees s rs n).0 ∙ ap (handed_through (narrow s) rs []) (sym (settled-before s rs n greatest_is none))
]

-- each complete frame is
pub settles_complete : NarrowClientSettlesComplete
settles_complete s rs f held whole = elim (cases_lt (greatest rs) f) [
  | inl above ↦ let none : None ≡ Some held = sym (complete-none (narrow s) rs f (NoneOf-above rs f above)) ∙ whole in cc
  | inr within ↦
      settled-greatest (narrow s) rs f
      (λ k least to. elim (cases_lt k f) [
        | inl below ↦ done-below s rs k (omega arith)
        | inr at_it ↦
            let same : f ≡ k = omega arith in
            ap (is_done (narrow s) rs) (sym same) ∙ ap (λ (o : Option Frame). is_some o || is_left 1 rs f) whole
      ])
]

-- without resets none is barred
pub no_reset_bars : NoResetBarsNothing
no_reset_bars c came below frame kind =
    ap (λ (resets : List ℕ). is_barred resets below frame kind) (no_resets c came) ∙ and_right (not (kind == 2)) false refl

-- ---- what is asked for

-- the frames above the greatest aren't complete: a range begins with its first
range-above : (s : StreamSettings) (rs : List Received) (a n last : ℕ) → greatest rs < a → a + n ≡ last + 1
    → range_or_none a last ≡ as_list (lost_to last (find (not_held (narrow s) rs) (range_with_len a n)))
range-above s rs a zero last above size =
    let none : nat_le a last ≡ false = grind (arith, nat_tests) in
    cond-false (nat_le a last) (record { first = a; last = last } ∷ []) [] none
range-above s rs a (suc n) last above size =
    let some : nat_le a last ≡ true = grind (arith, nat_tests) in
    let lost = ap (λ (o : Option Frame). not (is_some o)) (complete-none (narrow s) rs a (NoneOf-above rs a above)) in
    cond-true (nat_le a last) (record { first = a; last = last } ∷ []) [] some
    ∙ ap (λ (o : Option ℕ). as_list (lost_to last o))
    (sym (cond-true (not_held (narrow s) rs a) (Some a) (find (not_held (narrow s) rs) (range_with_len (a + 1) n)) lost))

-- the first of the frames passed by
abbrev passed : StreamSettings → List Received → ℕ → ℕ → Option ℕ
passed s rs a n = find (not_held (narrow s) rs) (range_with_len a n)

-- the first is the one that they begin with, where that isn't complete
passed-greatest : (s : StreamSettings) (rs : List Received) (before n p more : ℕ) → before + 1 ≡ p → n ≡ suc more → not_held (narrow s) rs p ≡ true
    → passed s rs (before + 1) n ≡ Some p
passed-greatest s rs before n p more first_is count_is lost =
    ap (λ (a : ℕ). passed s rs a n) first_is ∙ ap (passed s rs p) count_is
    ∙ cond-true (not_held (narrow s) rs p) (Some p) (passed s rs (p + 1) more) lost

-- where the greatest frame before isn't complete, the range begins with it
first_lost-greatest : (s : StreamSettings) (rs : List Received) → 0 < greatest rs → not_held (narrow s) rs (greatest rs) ≡ true
    → first_lost s rs ≡ greatest rs
first_lost-greatest s rs some lost =
    let p = greatest rs in
    cond-true (nat_lt 0 p && not_held (narrow s) rs p) p (p + 1) (and_from (nat_lt 0 p) (not_held (narrow s) rs p) (lt-ltb 0 p some) lost)

passed-first : (s : StreamSettings) (r : Received) (rs : List Received) → greatest rs < r.head.frame → 0 < greatest rs
    → not_held (narrow s) rs (greatest rs) ≡ true
    → passed s rs ((greatest rs - 1) + 1) ((r.head.frame - 1) - (greatest rs - 1)) ≡ Some (greatest rs)
passed-first s r rs new some lost =
    passed-greatest s rs (greatest rs - 1) ((r.head.frame - 1) - (greatest rs - 1)) (greatest rs) ((r.head.frame - 1) - greatest rs) (omega arith)
    (omega arith) lost

lost-from_greatest : (s : StreamSettings) (r : Received) (rs : List Received) → greatest rs < r.head.frame → 0 < greatest rs
    → not_held (narrow s) rs (greatest rs) ≡ true
    → range_or_none (first_lost s rs) (r.head.frame - 1) ≡ as_list (lost_by (narrow s) r rs)
lost-from_greatest s r rs new some lost =
    let within = le-leb (greatest rs) (r.head.frame - 1) (omega arith) in
    ap (λ (first : ℕ). range_or_none first (r.head.frame - 1)) (first_lost-greatest s rs some lost)
    ∙ cond-true (nat_le (greatest rs) (r.head.frame - 1)) (record { first = greatest rs; last = r.head.frame - 1 } ∷ []) [] within
    ∙ ap (λ (o : Option ℕ). as_list (lost_to (r.head.frame - 1) o)) (sym (passed-first s r rs new some lost))

-- where it is complete, with the one after it
lost-from_next : (s : StreamSettings) (r : Received) (rs : List Received) → greatest rs < r.head.frame → 0 < greatest rs
    → not_held (narrow s) rs (greatest rs) ≡ false
    → range_or_none (first_lost s rs) (r.head.frame - 1) ≡ as_list (lost_by (narrow s) r rs)
lost-from_next s r rs new some held =
    let p = greatest rs in
    let last = r.head.frame - 1 in
    let more = last - p in
    let first_is : (p - 1) + 1 ≡ p = omega arith in
    let count_is : last - (p - 1) ≡ suc more = omega arith in
    ap (λ (first : ℕ). range_or_none first last)
    (cond-false (nat_lt 0 p && not_held (narrow s) rs p) p (p + 1) (and_right (nat_lt 0 p) (not_held (narrow s) rs p) held))
    ∙ range-above s rs (p + 1) more last (omega arith) (omega arith)
    ∙ ap (λ (o : Option ℕ). as_list (lost_to last o))
    (sym (ap (λ (a : ℕ). passed s rs a (last - (p - 1))) first_is ∙ ap (passed s rs p) count_is
    ∙ cond-false (not_held (narrow s) rs p) (Some p) (passed s rs (p + 1) more) held))

-- where nothing came before, with frame 1
lost-from_one : (s : StreamSettings) (r : Received) (rs : List Received) → greatest rs < r.head.frame → greatest rs ≡ 0
    → range_or_none (first_lost s rs) (r.head.frame - 1) ≡ as_list (lost_by (narrow s) r rs)
lost-from_one s r rs new none =
    let p = greatest rs in
    let last = r.head.frame - 1 in
    let first_is : (p - 1) + 1 ≡ p + 1 = omega arith in
    let count_is : last - (p - 1) ≡ last - p = omega arith in
    ap (λ (first : ℕ). range_or_none first last)
    (cond-false (nat_lt 0 p && not_held (narrow s) rs p) p (p + 1) (and_left (nat_lt 0 p) (not_held (narrow s) rs p) (le-ltb 0 p (omega arith))))
    ∙ range-above s rs (p + 1) (last - p) last (omega arith) (omega arith)
    ∙ ap (λ (o : Option ℕ). as_list (lost_to last o))
    (sym (ap (λ (a : ℕ). passed s rs a (last - (p - 1))) first_is ∙ ap (passed s rs (p + 1)) count_is))

-- one that isn't above the greatest leaves none
lost-none : (s : StreamSettings) (r : Received) (rs : List Received) → r.head.frame ≤ greatest rs → [] ≡ as_list (lost_by (narrow s) r rs)
lost-none s r rs old =
    let none : (r.head.frame - 1) - (greatest rs - 1) ≡ 0 = omega arith in
    ap (λ (n : ℕ). as_list (lost_to (r.head.frame - 1) (passed s rs ((greatest rs - 1) + 1) n))) (sym none)

lost-same : (s : StreamSettings) (r : Received) (rs : List Received) → narrow_lost_by s r rs ≡ as_list (lost_by (narrow s) r rs)
lost-same s r rs = elim (cases_lt (greatest rs) r.head.frame) [
  | inr old ↦
      cond-false (nat_lt (greatest rs) r.head.frame) (range_or_none (first_lost s rs) (r.head.frame - 1)) [] (le-ltb (greatest rs) r.head.frame old)
      ∙ lost-none s r rs old
  | inl new ↦
      cond-true (nat_lt (greatest rs) r.head.frame) (range_or_none (first_lost s rs) (r.head.frame - 1)) [] (lt-ltb (greatest rs) r.head.frame new)
      ∙ elim (cases_lt 0 (greatest rs)) [
        | inr none ↦ lost-from_one s r rs new (omega arith)
        | inl some ↦
            elim (cases_Bool (not_held (narrow s) rs (greatest rs))) [
              | inl lost ↦ lost-from_greatest s r rs new some lost
              | inr held ↦ lost-from_next s r rs new some held
            ]
      ]
]

asks-same : (s : StreamSettings) (rs : List Received) → asks_of (narrow s) rs ≡ narrow_asks_of s rs
unfolding narrow_asks_of
asks-same s [] = asks_of-empty (narrow s)
asks-same s (r ∷ rs) =
    asks_of-more (narrow s) r rs
    ∙ ap (λ (l : List Range). l ++ as_list (lost_by (narrow s) r rs)) (asks-same s rs)
    ∙ ap (λ (l : List Range). narrow_asks_of s rs ++ l) (sym (lost-same s r rs))

-- the law
pub narrow_is_client : NarrowClientIsClient
narrow_is_client s came =
    let rs = narrow_taken s came in (
      handed-is (narrow s) (datagrams came)
          ∙ ap (λ (resets : List ℕ). handed_through (narrow s) rs resets (settled (narrow s) rs)) (no_resets (narrow s) came)
          ∙ sym (settled-all s rs (complete (narrow s) rs (greatest rs)) refl) ∙ sym (narrow_handed-is s came),
      asks-is (narrow s) (datagrams came) ∙ asks-same s rs ∙ sym (narrow_asks-is s came),
    )
