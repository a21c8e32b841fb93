-- Lemmas on what is read and written in several calls.
use Rattle.std.proofs.Common.{◌≡◌, ◌≢◌, ℕ, zero, suc, ◌+◌, ◌-◌, ◌≤◌, Bool, Option, None, Some, Ok, List, ◌++◌, length, take, drop}
use Rattle.std.proofs.Common.{length-drop, length-take-le, take-append-drop, refl, sym, ap, ◌∙◌, arith}
use Rattle.std.proofs.lemmas.List.{drop-drop, take_all, take_at}
use lib.Seq.{take-add}
use Rattle.gs_bytes.specs.Outside.{IsCountedWrite, KeepsFlag}

-- the bytes at a place that were copied to the front of a buffer
copied_front : (at n : ℕ) (xs copied rest : List ℕ) → copied ≡ take (at + n - at) (drop at xs) → n ≤ length (drop at xs)
    → take n (copied ++ rest) ≡ take n (drop at xs)
copied_front at n xs copied rest is fits =
    let same : at + n - at ≡ n = omega arith in
    let part : copied ≡ take n (drop at xs) = is ∙ ap (λ k. take k (drop at xs)) same in
    let long : length copied ≡ n = ap length part ∙ length-take-le n (drop at xs) fits in
    take_at copied rest n long ∙ part

-- what is left begins with the bytes that were copied
pub left_after : (at n : ℕ) (xs copied rest : List ℕ) → copied ≡ take (at + n - at) (drop at xs) → n ≤ length (drop at xs)
    → drop at xs ≡ take n (copied ++ rest) ++ drop (at + n) xs
left_after at n xs copied rest is fits =
    sym (take-append-drop n (drop at xs))
    ∙ ap (λ ys. ys ++ drop n (drop at xs)) (sym (copied_front at n xs copied rest is fits))
    ∙ ap (λ ys. take n (copied ++ rest) ++ ys) (drop-drop n at xs)

-- what was read ends with the bytes that were copied
pub taken_after : (at n : ℕ) (xs copied rest : List ℕ) → copied ≡ take (at + n - at) (drop at xs) → n ≤ length (drop at xs)
    → take (at + n) xs ≡ take at xs ++ take n (copied ++ rest)
taken_after at n xs copied rest is fits =
    take-add at n xs ∙ ap (λ ys. take at xs ++ ys) (sym (copied_front at n xs copied rest is fits))

-- a part behind a front makes a longer front
pub take_more : (at n : ℕ) (xs : List ℕ) → take at xs ++ take n (take (length xs - at) (drop at xs)) ≡ take (at + n) xs
take_more at n xs =
    let short : length (drop at xs) ≤ length xs - at = omega (arith, length-drop {A = ℕ} at xs) in
    ap (λ ys. take at xs ++ take n ys) (take_all _ _ short) ∙ sym (take-add at n xs)

-- a write that takes something counts nothing
pub counts_none : (before now n : ℕ) → IsCountedWrite before now (Ok n) → n ≢ 0 → now ≡ before
counts_none before now zero h some = absurd (some refl)
counts_none before now (suc n) h some = h

pub KeepsFlag-refl : (a : Option Bool) → KeepsFlag a a
KeepsFlag-refl None = tt
KeepsFlag-refl (Some b) = refl

pub KeepsFlag-trans : (a b c : Option Bool) → KeepsFlag a b → KeepsFlag b c → KeepsFlag a c
KeepsFlag-trans None b c p q = tt
KeepsFlag-trans (Some x) None c p q = absurd p
KeepsFlag-trans (Some x) (Some y) None p q = absurd q
KeepsFlag-trans (Some x) (Some y) (Some z) p q = q ∙ p
