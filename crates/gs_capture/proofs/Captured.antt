-- Ticks in order, with audio units of one length.
use Rattle.std.proofs.Common.{◌≡◌, ℕ, ◌+◌, ◌≤◌, List, [], ◌∷◌, ◌++◌, length, refl, subst}
use Rattle.std.proofs.Common.{arith}
use mathlib.Core.List.{IsPrefix}
use Rattle.gs_tape.specs.Tick.{Tick}
use Rattle.gs_capture.specs.Captures.{AreCapturedFrom}

-- one list behind another, whose numbers go on
pub captured_append : (audio number : ℕ) (xs ys : List Tick) → AreCapturedFrom audio number xs → AreCapturedFrom audio (number + length xs) ys
    → AreCapturedFrom audio number (xs ++ ys)
captured_append audio number [] ys x y = subst (λ (n : ℕ). AreCapturedFrom audio n ys) (omega arith) y
captured_append audio number (t ∷ ts) ys x y = (
  x.0,
  x.1,
  captured_append audio (number + 1) ts ys x.2
      (subst (λ (n : ℕ). AreCapturedFrom audio n ys) (omega arith) y),
)

-- a front as long as the whole is the whole
pub prefix_whole : {A : Type 0} (xs ys : List A) → IsPrefix xs ys → length ys ≤ length xs → xs ≡ ys
prefix_whole [] [] p le = refl
prefix_whole [] (y ∷ ys) p le = absurd (omega arith)
prefix_whole (x ∷ xs) [] p le = absurd (cc (p.1))
prefix_whole (x ∷ xs) (y ∷ ys) p le = let rest = prefix_whole xs ys (p.0, cc (p.1)) (omega arith) in cc (p.1, rest)
