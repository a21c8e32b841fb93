-- Messages of one channel with their numbers, in the order of writing.
use Rattle.std.proofs.Common.{◌≡◌, ◌<◌, ◌≤◌, ◌+◌, ◌-◌, ◌%◌, ℕ, Bool, true, false, not, cond, List, [], ◌∷◌, ◌++◌, length, refl, ap, subst, arith}
use Rattle.std.specs.Prelude.{◌==◌}
use Rattle.std.specs.List.{filter}
use Rattle.std.proofs.lemmas.Bool.{eqb-true}
use Rattle.std.proofs.lemmas.List.{length-append}
use Rattle.gs_enet.proofs.Lists.{Each}
use Rattle.gs_enet.proofs.Kept.{IsAt}
use Rattle.gs_enet.proofs.Giving.{at_more}

pub record Numbered : Type 0 where
  pub number : ℕ
  pub bytes : List ℕ

abbrev pub numbered : ℕ → List ℕ → List Numbered
numbered n bytes = (record { number = n; bytes = bytes }) ∷ []

-- The numbers rise from above that one, and each message is the one that the list has in the place of its number.
abbrev pub Rising : List (List ℕ) → ℕ → List Numbered → Type 0
Rising ms low [] = Unit {0}
Rising ms low (x ∷ xs) = (low < x.number) × IsAt ms x.number x.bytes × Rising ms x.number xs

pub at_below : (ms : List (List ℕ)) (n : ℕ) (bytes : List ℕ) → IsAt ms n bytes → n ≤ length ms
at_below ms n bytes h = omega (arith, h.at, ap length h.parts, length-append h.front (bytes ∷ h.rest))

pub rising_lower : (ms : List (List ℕ)) (low low' : ℕ) (xs : List Numbered) → low' ≤ low → Rising ms low xs → Rising ms low' xs
rising_lower ms low low' [] le h = tt
rising_lower ms low low' (x ∷ xs) le h = (omega (arith, le, h.0), h.1, h.2)

pub rising_length : (ms : List (List ℕ)) (low : ℕ) (xs : List Numbered) → low ≤ length ms → Rising ms low xs → low + length xs ≤ length ms
rising_length ms low [] le h = omega (arith, le)
rising_length ms low (x ∷ xs) le h = omega (arith, h.0, rising_length ms x.number xs (at_below ms x.number x.bytes h.1) h.2)

pub rising_front : (ms : List (List ℕ)) (low : ℕ) (xs ys : List Numbered) → Rising ms low (xs ++ ys) → Rising ms low xs
rising_front ms low [] ys h = tt
rising_front ms low (x ∷ xs) ys h = (h.0, h.1, rising_front ms x.number xs ys h.2)

pub rising_back : (ms : List (List ℕ)) (low : ℕ) (xs ys : List Numbered) → Rising ms low (xs ++ ys) → Rising ms low ys
rising_back ms low [] ys h = h
rising_back ms low (x ∷ xs) ys h = rising_lower ms x.number low ys (omega (arith, h.0)) (rising_back ms x.number xs ys h.2)

-- what stands behind a front may be exchanged for what rises from wherever it did
pub rising_after : (ms : List (List ℕ)) (low : ℕ) (xs ys zs : List Numbered)
    → ((l : ℕ) → Rising ms l ys → Rising ms l zs) → Rising ms low (xs ++ ys) → Rising ms low (xs ++ zs)
rising_after ms low [] ys zs f h = f low h
rising_after ms low (x ∷ xs) ys zs f h = (h.0, h.1, rising_after ms x.number xs ys zs f h.2)

pub rising_given : (ms : List (List ℕ)) (low : ℕ) (xs : List Numbered) (bytes : List ℕ) → Rising ms low xs → Rising (ms ++ bytes ∷ []) low xs
rising_given ms low [] bytes h = tt
rising_given ms low (x ∷ xs) bytes h = (h.0, at_more ms x.number x.bytes bytes h.1, rising_given ms x.number xs bytes h.2)

pub rising_push : (ms : List (List ℕ)) (low : ℕ) (xs : List Numbered) (bytes : List ℕ) → low ≤ length ms → Rising ms low xs
    → Rising (ms ++ bytes ∷ []) low (xs ++ numbered (length ms + 1) bytes)
rising_push ms low [] bytes le h = (omega (arith, le), record { front = ms; rest = []; parts = refl; at = refl }, tt)
rising_push ms low (x ∷ xs) bytes le h =
    (h.0, at_more ms x.number x.bytes bytes h.1, rising_push ms x.number xs bytes (at_below ms x.number x.bytes h.1) h.2)

pub none_of_none : (low : ℕ) (xs : List Numbered) → Rising [] low xs → xs ≡ []
none_of_none low [] h = refl
none_of_none low (x ∷ xs) h = absurd (omega (arith, h.0, at_below [] x.number x.bytes h.1))

-- ---- a window of 256 numbers

abbrev pub IsRecent : ℕ → Numbered → Type 0
IsRecent size x = size < x.number + 256

rising_from : (ms : List (List ℕ)) (low : ℕ) (xs : List Numbered) → Each (IsRecent (length ms)) xs → Rising ms low xs → Rising ms (length ms - 256) xs
rising_from ms low [] near h = tt
rising_from ms low (x ∷ xs) near h = (omega (arith, near.0, h.0), h.1, h.2)

pub few_recent : (ms : List (List ℕ)) (xs : List Numbered) → Each (IsRecent (length ms)) xs → Rising ms 0 xs → length xs ≤ 256
few_recent ms xs near h = omega (arith, rising_length ms (length ms - 256) xs (omega arith) (rising_from ms 0 xs near h))

-- the message has other low bits than that number
abbrev pub is_other : ℕ → Numbered → Bool
is_other number x = not (x.number % 65536 == number)

apart_low : (n m size : ℕ) → n < m → m ≤ size → size < n + 256 → m % 65536 ≡ n % 65536 → ⊥
apart_low n m size lt le near same = omega arith

none_dropped : (ms : List (List ℕ)) (n low : ℕ) (xs : List Numbered) → n ≤ low → length ms < n + 256 → Rising ms low xs
    → length xs ≤ length (filter (is_other (n % 65536)) xs)
none_dropped ms n low [] le near h = omega arith
none_dropped ms n low (x ∷ xs) le near h =
    here (x.number % 65536 == n % 65536) refl (none_dropped ms n x.number xs (omega (arith, le, h.0)) near h.2) where
      here : (b : Bool) → (x.number % 65536 == n % 65536) ≡ b → length xs ≤ length (filter (is_other (n % 65536)) xs)
          → length (x ∷ xs) ≤ length (cond (not b) (x ∷ filter (is_other (n % 65536)) xs) (filter (is_other (n % 65536)) xs))
      here true e rest = absurd (apart_low n x.number (length ms) (omega (arith, le, h.0)) (at_below ms x.number x.bytes h.1) near (eqb-true _ _ e))
      here false e rest = omega (arith, rest)

-- no two of the last 256 have the same low bits
pub one_dropped : (ms : List (List ℕ)) (number low : ℕ) (xs : List Numbered) → Each (IsRecent (length ms)) xs → Rising ms low xs
    → length xs ≤ length (filter (is_other number) xs) + 1
one_dropped ms number low [] near h = omega arith
one_dropped ms number low (x ∷ xs) near h =
    here (x.number % 65536 == number) refl (one_dropped ms number x.number xs near.1 h.2) where
      here : (b : Bool) → (x.number % 65536 == number) ≡ b → length xs ≤ length (filter (is_other number) xs) + 1
          → length (x ∷ xs) ≤ length (cond (not b) (x ∷ filter (is_other number) xs) (filter (is_other number) xs)) + 1
      here true e rest =
          subst (λ (k : ℕ). length (x ∷ xs) ≤ length (filter (is_other k) xs) + 1) (eqb-true _ _ e)
          (omega (arith, none_dropped ms x.number x.number xs (omega arith) near.0 h.2))
      here false e rest = omega (arith, rest)
