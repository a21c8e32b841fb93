-- The numbers of the absent data shards, and those of them that are restored.
use Rattle.std.proofs.Common.{◌≡◌, ℕ, ◌+◌, ◌<◌, ◌≤◌, List, Bool, true, false, length, get_or, set, take, sym, ap, ◌∙◌, subst, arith, inl, inr}
use Rattle.std.proofs.lemmas.Bool.{cases_eq, false≢true}
use Rattle.std.proofs.lemmas.List.{get_or-set_same, get_or-set_other, get_or-take, length-take-le}
use Rattle.gs_rs.specs.Restore.{IsPresent}
use Rattle.gs_rs.specs.AbsentRows.{AreAllAbsent}

pub none_absent : (present : List Bool) (numbers : List ℕ) → AreAllAbsent present 0 0 numbers
none_absent present numbers = record {
  absent = λ r h. absurd (omega arith);
  in_order = λ r s less h. absurd (omega arith);
  whole = λ n h gone. absurd (omega arith);
}

-- one more is absent
pub absent_one : (present : List Bool) (bound count : ℕ) (numbers : List ℕ) → AreAllAbsent present bound count numbers
    → count < length numbers → get_or present bound false ≡ false → AreAllAbsent present (bound + 1) (count + 1) (set numbers count bound)
absent_one present bound count numbers found fits gone =
    let new = set numbers count bound in
    let last : get_or new count 0 ≡ bound = get_or-set_same numbers count bound 0 fits in
    let kept : (r : ℕ) → r < count → get_or new r 0 ≡ get_or numbers r 0 = λ r h. get_or-set_other numbers count r bound 0 (λ same. omega arith) in
    record {
      absent = λ r h. elim (cases_eq r count) [
        | inl this ↦
            subst (λ m. (m < bound + 1) × ¬ IsPresent present m) (sym (ap (λ q. get_or new q 0) this ∙ last))
            (omega arith, λ here. false≢true (sym gone ∙ here))
        | inr other ↦
            let old = found.absent r (omega arith) in
            subst (λ m. (m < bound + 1) × ¬ IsPresent present m) (sym (kept r (omega arith))) (omega (arith, old.0), old.1)
      ];
      in_order = λ r s less h. elim (cases_eq s count) [
        | inl this ↦
            let below = (found.absent r (omega arith)).0 in
            omega (arith, below, kept r (omega arith), ap (λ q. get_or new q 0) this ∙ last)
        | inr other ↦ omega (arith, found.in_order r s less (omega arith), kept r (omega arith), kept s (omega arith))
      ];
      whole = λ n h away. elim (cases_eq n bound) [
        | inl this ↦ (count, omega arith, last ∙ sym this)
        | inr other ↦
            let old = found.whole n (omega arith) away in
            (old.0, omega (arith, old.1), kept old.0 old.1 ∙ old.2)
      ];
    }

-- one more is present
pub absent_none : (present : List Bool) (bound count : ℕ) (numbers : List ℕ) → AreAllAbsent present bound count numbers
    → get_or present bound false ≡ true → AreAllAbsent present (bound + 1) count numbers
absent_none present bound count numbers found here = record {
  absent = λ r h. let old = found.absent r h in (omega (arith, old.0), old.1);
  in_order = found.in_order;
  whole = λ n h away. elim (cases_eq n bound) [
    | inl this ↦ absurd (away (ap (λ m. get_or present m false) this ∙ here))
    | inr other ↦ found.whole n (omega arith) away
  ];
}

-- the counted ones alone
pub absent_front : (present : List Bool) (limit count : ℕ) (numbers : List ℕ) → count ≤ length numbers → AreAllAbsent present limit count numbers
    → AreAllAbsent present limit (length (take count numbers)) (take count numbers)
absent_front present limit count numbers fits found =
    let size : length (take count numbers) ≡ count = length-take-le count numbers fits in
    let at : (r : ℕ) → r < count → get_or (take count numbers) r 0 ≡ get_or numbers r 0 = λ r h. get_or-take count numbers r 0 h in
    record {
      absent = λ r h. subst (λ n. (n < limit) × ¬ IsPresent present n) (sym (at r (omega (arith, size)))) (found.absent r (omega (arith, size)));
      in_order = λ r s less h.
          omega (arith, size, found.in_order r s less (omega (arith, size)), at r (omega (arith, size)), at s (omega (arith, size)));
      whole = λ n h gone.
          let old = found.whole n h gone in
          (old.0, omega (arith, size, old.1), at old.0 old.1 ∙ old.2);
    }
