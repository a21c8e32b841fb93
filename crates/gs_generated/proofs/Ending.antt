-- The end of a generated file.
use Rattle.std.proofs.Common.{inl, inr, ◌≡◌, ◌<◌, ◌⊎◌, ◌++◌, ℕ, Bool, true, List, [], length, take, ap, ◌∙◌, arith}
use Rattle.gs_generated.specs.Parting.{parts_left}
use Rattle.gs_generated.specs.Remaining.{bytes_left, pieces_left}
use Rattle.gs_generated.specs.declared.pieces.Pieces.{Pieces}

-- where no byte was moved of pieces that are filled, nothing is left
pub nothing_left : (p q : Pieces) (into : List ℕ) (n : ℕ) → n ≡ 0 → parts_left q.parts ≡ [] → parts_left p.parts ≡ take n into ++ parts_left q.parts
    → q.ended ≡ p.ended → (0 < length (parts_left p.parts)) ⊎ (p.ended ≡ true) → pieces_left q ≡ []
nothing_left p q into n zero none moved same (inl more) =
    let empty : parts_left p.parts ≡ [] = moved ∙ ap (λ (k : ℕ). take k into ++ parts_left q.parts) zero ∙ none in
    absurd (omega (arith, more, ap (λ (l : List ℕ). length l) empty))
nothing_left p q into n zero none moved same (inr ended) =
    ap (λ (l : List ℕ). l ++ bytes_left q.ended q.unspelled) none ∙ ap (λ (b : Bool). bytes_left b q.unspelled) (same ∙ ended)
