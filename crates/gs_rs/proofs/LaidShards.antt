-- Shards of one size, laid end to end.
use Rattle.std.proofs.Common.{◌≡◌, ◌<◌, ◌≤◌, ◌+◌, ◌*◌, ℕ, zero, suc, List, [], ◌∷◌, ◌++◌, length, get_or, take, drop, refl, sym, ap, ◌∙◌, arith, inl}
use Rattle.std.specs.List.{All, concat, range_with_len}
use Rattle.std.proofs.Math.Seq.{take-suc, take-append_seam, drop-append-add}
use Rattle.std.proofs.lemmas.List.{length-append, length-drop, append-nil, take_all, take-append-le, drop-append-le, take-take}
use Rattle.std.proofs.lemmas.List.Elements.{All-head, All-tail}
use Rattle.std.proofs.lemmas.List.Folds.{concat-append}
use Rattle.std.proofs.lemmas.List.FromFn.{length-range_with_len, get_or-range_with_len}
use Rattle.std.proofs.lemmas.Nat.{mul-le}
use Rattle.std.proofs.lemmas.Slice.{take-put_mid}
use Rattle.gs_rs.specs.declared.shape.CodeShape.{CodeShape}
use Rattle.gs_rs.specs.Shape.{IsCode}
use Rattle.gs_rs.specs.Codeword.{IsBlock, shard_of}
use Rattle.gs_rs.specs.Shards.{with_parity_shards}
use Rattle.gs_rs.specs.ShardLaws.{AreDataShards}
use Rattle.gs_rs.proofs.Blocks.{enough_determine}
use Rattle.gs_rs.proofs.HeldShards.{parity_shards, shards_form}
use Rattle.gs_rs.proofs.Points.{data_enough}
use borrow.Rule.Slice.PartMut.{put_mid}

-- ---- what is dropped twice

-- a part of a front is a part of the whole
pub take-inside : {X : Type 0} (at size n : ℕ) (xs : List X) → at + size ≤ n → take size (drop at (take n xs)) ≡ take size (drop at xs)
take-inside zero size n xs within = take-take size n xs (omega arith)
take-inside (suc at) size zero xs within = absurd (omega arith)
take-inside (suc at) size (suc n) [] within = refl
take-inside (suc at) size (suc n) (x ∷ xs) within = take-inside at size n xs (omega arith)

-- ---- lists of one length

abbrev pub HaveSize : ℕ → List (List ℕ) → Type 0
HaveSize size lists = All (λ list. length list ≡ size) lists

pub length-laid : (size : ℕ) (lists : List (List ℕ)) → HaveSize size lists → length (concat lists) ≡ length lists * size
length-laid size [] sizes = omega arith
length-laid size (list ∷ lists) sizes =
    let first : length list ≡ size = All-head (λ l. length l ≡ size) list lists sizes in
    let rest = length-laid size lists (All-tail (λ l. length l ≡ size) list lists sizes) in
    omega (arith, length-append list (concat lists), rest)

-- each of them stands at its number
pub laid-at : (size : ℕ) (lists : List (List ℕ)) (i : ℕ) → HaveSize size lists → i < length lists
    → take size (drop (i * size) (concat lists)) ≡ get_or lists i []
laid-at size [] i sizes h = absurd (omega arith)
laid-at size (list ∷ lists) zero sizes h =
    let first : length list ≡ size = All-head (λ l. length l ≡ size) list lists sizes in
    let none : 0 * size ≡ 0 = omega arith in
    ap (λ (n : ℕ). take size (drop n (list ++ concat lists))) none
    ∙ ap (λ (n : ℕ). take n (list ++ concat lists)) (sym first)
    ∙ take-append_seam list (concat lists)
laid-at size (list ∷ lists) (suc i) sizes h =
    let first : length list ≡ size = All-head (λ l. length l ≡ size) list lists sizes in
    let more : suc i * size ≡ length list + i * size = omega arith in
    ap (λ (n : ℕ). take size (drop n (list ++ concat lists))) more
    ∙ ap (take size) (drop-append-add list (concat lists) (i * size))
    ∙ laid-at size lists i (All-tail (λ l. length l ≡ size) list lists sizes) (omega arith)

-- one more of them
pub laid-more : (lists : List (List ℕ)) (i : ℕ) → i < length lists → concat (take (suc i) lists) ≡ concat (take i lists) ++ get_or lists i []
laid-more lists i within =
    ap concat (take-suc lists i [] within)
    ∙ concat-append (take i lists) (get_or lists i [] ∷ [])
    ∙ ap (λ (l : List ℕ). concat (take i lists) ++ l) (append-nil (get_or lists i []))

-- where the front of some bytes is laid, and the next list is written behind it
pub laid-written : (size : ℕ) (lists : List (List ℕ)) (i next at more k : ℕ) (out new : List ℕ) → i < length lists → next ≡ i + 1
    → at ≡ i * size → more ≡ next * size → more ≤ length out → HaveSize size lists → take (i * size) out ≡ concat (take i lists)
    → new ≡ get_or lists i [] → take more (put_mid at k out new) ≡ concat (take next lists)
laid-written size lists i next at more k out new within next_is at_is more_is room sizes before new_is =
    let long : length new ≡ size = ap (λ (l : List ℕ). length l) new_is ∙ sizes i [] within in
    let turned : next * size ≡ i * size + size = ap (λ (n : ℕ). n * size) next_is ∙ omega arith in
    let after : suc i ≡ next = omega arith in
    take-put_mid at k out new more (omega (arith, turned)) (omega (arith, turned))
    ∙ ap (λ (n : ℕ). take n out ++ new) at_is
    ∙ ap (λ (l : List ℕ). l ++ new) before
    ∙ ap (λ (l : List ℕ). concat (take i lists) ++ l) new_is
    ∙ sym (laid-more lists i within)
    ∙ ap (λ (n : ℕ). concat (take n lists)) after

-- where all are written
pub laid-whole : (size : ℕ) (lists : List (List ℕ)) (n at : ℕ) (out : List ℕ) → length lists ≡ n → at ≡ n * size → length out ≡ n * size
    → take at out ≡ concat (take n lists) → out ≡ concat lists
laid-whole size lists n at out count at_is whole written =
    sym (take_all at out (omega arith)) ∙ written ∙ ap concat (take_all n lists (omega arith))

-- ---- a block is fixed by its data shards

-- a shard in front
shard_of-front : (size n i : ℕ) (front rest : List ℕ) → length front ≡ n * size → i < n
    → shard_of size (front ++ rest) i ≡ shard_of size front i
shard_of-front size n i front rest whole within =
    let room : (i + 1) * size ≤ n * size = mul-le (i + 1) size n size (omega arith) (omega arith) in
    let turned : (i + 1) * size ≡ i * size + size = omega arith in
    ap (take size) (drop-append-le (i * size) front rest (omega (arith, room, turned)))
    ∙ take-append-le size (drop (i * size) front) rest (omega (arith, room, turned, length-drop (i * size) front))

-- the shards with this parity are those with the code's parity shards
pub block-is : (code : CodeShape) (size : ℕ) (shards : List (List ℕ)) (parity : List ℕ) → IsCode code → AreDataShards code size shards
    → IsBlock code size (concat shards ++ parity) → concat shards ++ parity ≡ concat (with_parity_shards code size shards)
block-is code size shards parity is are block =
    let made = shards_form code size shards (inl is) are in
    let count : length shards ≡ code.data = are.count in
    let whole : length (concat shards) ≡ code.data * size = length-laid size shards are.sizes ∙ ap (λ (n : ℕ). n * size) count in
    let split = concat-append shards (parity_shards code size shards) in
    let numbers = range_with_len 0 code.data in
    enough_determine code size numbers (concat shards ++ parity) (concat (with_parity_shards code size shards)) is (data_enough code) block made
    (λ i d h.
    let n = get_or numbers i d in
    let within : n < code.data =
    omega (arith, get_or-range_with_len 0 code.data i d (omega (arith, length-range_with_len 0 code.data)), length-range_with_len 0 code.data) in
    shard_of-front size code.data n (concat shards) parity whole within
    ∙ sym (shard_of-front size code.data n (concat shards) (concat (parity_shards code size shards)) whole within)
    ∙ ap (λ (l : List ℕ). shard_of size l n) (sym split))
