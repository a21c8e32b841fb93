-- Vectors of bytes, lane by lane.
use Rattle.std.proofs.Common.{◌≡◌, ℕ, ◌+◌, ◌/◌, ◌%◌, ◌<◌, List, length, get_or, replicate, bit_and, bit_xor, ap, ap₂, ◌∙◌, arith}
use Rattle.std.proofs.lemmas.Simd.{get_or-zip2, get_or-replicate, length-replicate}
use Rattle.std.proofs.lemmas.Nat.{and_mask}
use lib.Lanes.{zip2}
use Rattle.gs_gf256.specs.Table.{times}

-- an operator on two vectors
pub zip2_at : (n : ℕ) (f : ℕ → ℕ → ℕ) (xs ys : List ℕ) → length xs ≡ n → length ys ≡ n → (j : ℕ) → j < n
    → get_or (zip2 f xs ys) j 0 ≡ f (get_or xs j 0) (get_or ys j 0)
zip2_at n f xs ys p q j h = get_or-zip2 f xs ys j 0 0 0 (omega arith) (omega arith)

-- and on a vector and a number
pub splat_at : (n : ℕ) (f : ℕ → ℕ → ℕ) (xs : List ℕ) (y : ℕ) → length xs ≡ n → (j : ℕ) → j < n
    → get_or (zip2 f xs (replicate n y)) j 0 ≡ f (get_or xs j 0) y
splat_at n f xs y p j h =
    get_or-zip2 f xs (replicate n y) j 0 0 0 (omega arith) (omega (arith, length-replicate n y))
    ∙ ap (f (get_or xs j 0)) (get_or-replicate n j y 0 h)

pub low_half : (x : ℕ) → bit_and x 15 ≡ x % 16
low_half x = and_mask x 4

-- what sixteen products for each half give together
pub times_of_halves : (tables : List ℕ) (place at low high x : ℕ) → place ≡ at → low ≡ x % 16 → high ≡ x / 16
    → bit_xor (get_or tables (place + low) 0) (get_or tables (place + 16 + high) 0) ≡ times tables at x
times_of_halves tables place at low high x p l h = ap₂ bit_xor (ap₂ (λ a b. get_or tables (a + b) 0) p l) (ap₂ (λ a b. get_or tables (a + 16 + b) 0) p h)
