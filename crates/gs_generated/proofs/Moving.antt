-- Bytes are moved out of a part.
use Rattle.std.proofs.Common.{◌≡◌, ◌+◌, ℕ, List, ◌++◌, take, drop, sym, ap, ◌∙◌, append_assoc, take-append-drop}
use Rattle.std.proofs.lemmas.List.{drop-drop}

-- behind a front some of what is left of a part is moved
pub moved : (front part rest : List ℕ) (at n : ℕ)
    → front ++ (drop at part ++ rest) ≡ (front ++ take n (drop at part)) ++ (drop (at + n) part ++ rest)
moved front part rest at n =
    let left : List ℕ = drop at part in
    let parts : left ≡ take n left ++ drop (at + n) part =
    sym (take-append-drop n left) ∙ ap (λ (l : List ℕ). take n left ++ l) (drop-drop n at part) in
    ap (λ (l : List ℕ). front ++ (l ++ rest)) parts
    ∙ ap (λ (l : List ℕ). front ++ l) (append_assoc (take n left) (drop (at + n) part) rest)
    ∙ sym (append_assoc front (take n left) (drop (at + n) part ++ rest))
