-- What is held ahead, and what a read puts behind it.
use Rattle.std.proofs.Common.{◌≡◌, ℕ, ◌+◌, ◌≤◌, List, ◌++◌, length, take, take-take, Option, None, Some, sym, ap, ◌∙◌, append_assoc, arith}
use Rattle.std.proofs.Math.Seq.{take-append-add, take-append_seam}
use Rattle.std.proofs.lemmas.List.{take-append-le, take_all}
use Rattle.std.specs.Io.KnownBytes.{Consumes, Keeps, prepend_known}

-- bytes that are read behind others were to come
pub moved : (a b : Option (List ℕ)) (old piece new : List ℕ) → Consumes a b piece → new ≡ old ++ piece → Keeps (prepend_known old a) (prepend_known new b)
moved None b old piece new h e = tt
moved (Some xs) None old piece new h e = absurd h
moved (Some xs) (Some ys) old piece new h e = ap (λ zs. zs ++ ys) e ∙ append_assoc old piece ys ∙ ap (λ zs. old ++ zs) (sym h)

-- zeros behind the bytes, in whose front a read put some
pub behind : (held xs zeros into post tail : List ℕ) (start room count all : ℕ) → start ≡ length held → xs ≡ take (start + room) held ++ zeros
    → count ≤ length into → start + count ≤ all
    → take (start + count) (take all ((take start xs ++ (into ++ post)) ++ tail)) ≡ held ++ take count into
behind held xs zeros into post tail start room count all is shape few fits =
    let whole : take (start + room) held ≡ held = take_all _ _ (omega arith) in
    let front : take start xs ≡ held = ap (take start) (shape ∙ ap (λ ys. ys ++ zeros) whole) ∙ ap (λ (n : ℕ). take n (held ++ zeros)) is
    ∙ take-append_seam held zeros in
    let joined : (take start xs ++ (into ++ post)) ++ tail ≡ held ++ (into ++ (post ++ tail)) =
    ap (λ ys. (ys ++ (into ++ post)) ++ tail) front ∙ append_assoc held (into ++ post) tail ∙ ap (λ ys. held ++ ys) (append_assoc into post tail) in
    take-take (start + count) all _ fits ∙ ap (take (start + count)) joined
    ∙ ap (λ (n : ℕ). take (n + count) (held ++ (into ++ (post ++ tail)))) is
    ∙ take-append-add held (into ++ (post ++ tail)) count ∙ ap (λ zs. held ++ zs) (take-append-le count into (post ++ tail) few)
