-- The present shards of lowest number.
use Rattle.std.proofs.Common.{◌≡◌, ◌≢◌, ℕ, zero, suc, ◌+◌, ◌<◌, ◌≤◌, List, [], ◌∷◌, Bool, true, false, cond, length, get_or, take, set, min, sym, ap, ◌∙◌}
use Rattle.std.proofs.Common.{subst, arith, inl, inr}
use Rattle.std.proofs.lemmas.Bool.{false≢true, cases_eq, cases_lt}
use Rattle.std.proofs.lemmas.List.{get_or-set_same, get_or-set_other, get_or_past, length-set, length-take}
use Rattle.std.proofs.lemmas.List.Sums.{count_by-le-length, count_by_more_yes, count_by_more_no}
use Rattle.gs_rs.specs.Restore.{IsPresent, count_present}
use Rattle.gs_rs.proofs.Flags.{count-cons}

-- a present shard counts below each later one
rank_rises : (present : List Bool) (a b : ℕ) → a < b → IsPresent present a → count_present (take a present) + 1 ≤ count_present (take b present)
rank_rises [] a b less here = absurd (false≢true here)
rank_rises (p ∷ ps) a zero less here = absurd (omega arith)
rank_rises (p ∷ ps) zero (suc b) less here =
    let is_true : p ≡ true = here in
    let e : count_present (take (suc b) (p ∷ ps)) ≡ 1 + count_present (take b ps) =
    count-cons p (take b ps) ∙ ap (λ q. cond q 1 0 + count_present (take b ps)) is_true in
    omega (arith, e)
rank_rises (p ∷ ps) (suc a) (suc b) less here =
    let h = rank_rises ps a b (omega arith) here in
    let ea : count_present (take (suc a) (p ∷ ps)) ≡ cond p 1 0 + count_present (take a ps) = count-cons p (take a ps) in
    let eb : count_present (take (suc b) (p ∷ ps)) ≡ cond p 1 0 + count_present (take b ps) = count-cons p (take b ps) in
    omega arith

pub rank_le : (present : List Bool) (n : ℕ) → count_present (take n present) ≤ n
rank_le present n = omega (arith, count_by-le-length (λ (b : Bool). b) (take n present), length-take n present)

pub present_in_range : (present : List Bool) (n : ℕ) → IsPresent present n → n < length present
present_in_range present n here = elim (cases_lt n (length present)) [
  | inl low ↦ low
  | inr high ↦ absurd (false≢true (sym (get_or_past present n false high) ∙ here))
]

-- the numbers found among the first shards
pub record FoundBelow (present : List Bool) (limit count : ℕ) (numbers : List ℕ) (bound : ℕ) : Type 0 where
  pub room : length numbers ≡ 255
  pub counted : count ≡ min limit (count_present (take bound present))
  pub are_present : (i : ℕ) → i < count → IsPresent present (get_or numbers i 0)
  pub in_order : (i : ℕ) → i < count → count_present (take (get_or numbers i 0) present) ≡ i
  pub whole : (n : ℕ) → n < bound → IsPresent present n → count_present (take n present) < limit → get_or numbers (count_present (take n present)) 0 ≡ n

found_less : (present : List Bool) (limit count : ℕ) (numbers : List ℕ) (bound : ℕ) → FoundBelow present limit count numbers bound → count ≤ bound
found_less present limit count numbers bound found = omega (arith, rank_le present bound, found.counted)

pub found_one : (present : List Bool) (limit count : ℕ) (numbers : List ℕ) (bound : ℕ) → FoundBelow present limit count numbers bound
    → bound < length present → length present ≤ 255 → get_or present bound false ≡ true → count < limit
    → FoundBelow present limit (count + 1) (set numbers count bound) (bound + 1)
found_one present limit count numbers bound found within few here less =
    let p = λ (b : Bool). b in
    let more = count_by_more_yes p present bound false within here in
    let rank : count_present (take bound present) ≡ count = omega (arith, found.counted) in
    let fits : count < length numbers = omega (arith, found_less present limit count numbers bound found, found.room) in
    record {
      room = length-set numbers count bound ∙ found.room;
      counted = omega (arith, found.counted);
      are_present = λ i h. elim (cases_eq i count) [
        | inl this ↦ subst (IsPresent present) (sym (ap (λ j. get_or (set numbers count bound) j 0) this ∙ get_or-set_same numbers count bound 0 fits)) here
        | inr other ↦ subst (IsPresent present) (sym (get_or-set_other numbers count i bound 0 other)) (found.are_present i (omega arith))
      ];
      in_order = λ i h. elim (cases_eq i count) [
        | inl this ↦
            ap (λ n. count_present (take n present)) (ap (λ j. get_or (set numbers count bound) j 0) this ∙ get_or-set_same numbers count bound 0 fits)
            ∙ rank ∙ sym this
        | inr other ↦ ap (λ n. count_present (take n present)) (get_or-set_other numbers count i bound 0 other) ∙ found.in_order i (omega arith)
      ];
      whole = λ n below n_here small. elim (cases_eq n bound) [
        | inl this ↦
            ap (λ m. get_or (set numbers count bound) (count_present (take m present)) 0) this
            ∙ ap (λ j. get_or (set numbers count bound) j 0) rank
            ∙ get_or-set_same numbers count bound 0 fits
            ∙ sym this
        | inr other ↦
            let earlier = rank_rises present n bound (omega arith) n_here in
            let apart : count_present (take n present) ≢ count = λ same. omega arith in
            get_or-set_other numbers count (count_present (take n present)) bound 0 apart ∙ found.whole n (omega arith) n_here small
      ];
    }

pub found_absent : (present : List Bool) (limit count : ℕ) (numbers : List ℕ) (bound : ℕ) → FoundBelow present limit count numbers bound
    → bound < length present → get_or present bound false ≡ false
    → FoundBelow present limit count numbers (bound + 1)
found_absent present limit count numbers bound found within gone =
    let same = count_by_more_no (λ (b : Bool). b) present bound false within gone in
    record {
      room = found.room;
      counted = found.counted ∙ ap (min limit) (sym same);
      are_present = found.are_present;
      in_order = found.in_order;
      whole = λ n below here small. elim (cases_eq n bound) [
        | inl this ↦ absurd (false≢true (sym gone ∙ ap (λ m. get_or present m false) (sym this) ∙ here))
        | inr other ↦ found.whole n (omega arith) here small
      ];
    }

pub found_full : (present : List Bool) (limit count : ℕ) (numbers : List ℕ) (bound : ℕ) → FoundBelow present limit count numbers bound
    → bound < length present → get_or present bound false ≡ true → limit ≤ count
    → FoundBelow present limit count numbers (bound + 1)
found_full present limit count numbers bound found within here full =
    let more = count_by_more_yes (λ (b : Bool). b) present bound false within here in
    record {
      room = found.room;
      counted = omega (arith, found.counted);
      are_present = found.are_present;
      in_order = found.in_order;
      whole = λ n below n_here small. elim (cases_eq n bound) [
        | inl this ↦ let e = ap (λ m. count_present (take m present)) this in absurd (omega (arith, found.counted))
        | inr other ↦ found.whole n (omega arith) n_here small
      ];
    }
