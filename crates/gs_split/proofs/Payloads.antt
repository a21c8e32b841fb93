-- Payloads of an image, cut from its unit.
use Rattle.std.proofs.Common.{◌≡◌, ◌≤◌, ◌+◌, ◌-◌, ◌*◌, ℕ, List, ◌++◌, length, take, drop, replicate, sym, ap, ◌∙◌, arith, inl, inr}
use Rattle.std.proofs.Math.Seq.{take-append-add, drop-append-add}
use Rattle.std.proofs.lemmas.Bool.{cases_lt}
use Rattle.std.proofs.lemmas.List.{take-append-le, drop-append-le, take_all, drop_all, take-replicate, length-append, length-drop, length-take-le, append-nil}
use Rattle.std.proofs.lemmas.Nat.{mul-le}
use borrow.Rule.Slice.PartMut.{put_mid}
use Rattle.gs_frames.specs.Image.{frame_image, image_header, last_length, packets}
use Rattle.gs_frames.proofs.Images.{parted_image, packets-is}

-- bytes with zeros behind them, cut at m
pub take-padded : (m z : ℕ) (xs : List ℕ) → m ≤ length xs + z
    → take m (xs ++ replicate z 0) ≡ take m xs ++ replicate (m - length xs) 0
take-padded m z xs room = elim (cases_lt (length xs) m) [
  | inl more ↦
      let r = m - length xs in
      let m_is : m ≡ length xs + r = omega arith in
      ap (λ (n : ℕ). take n (xs ++ replicate z 0)) m_is
      ∙ take-append-add xs (replicate z 0) r
      ∙ ap (λ (ys : List ℕ). xs ++ ys) (take-replicate r z 0 (omega arith))
      ∙ ap (λ (ys : List ℕ). ys ++ replicate r 0) (sym (take_all m xs (omega arith)))
  | inr all ↦
      let none : m - length xs ≡ 0 = omega arith in
      take-append-le m xs (replicate z 0) all
      ∙ sym (append-nil (take m xs))
      ∙ ap (λ (n : ℕ). take m xs ++ replicate n 0) (sym none)
]

-- what is written behind place a up to the end
pub put_rest : (a : ℕ) (xs ys : List ℕ) → a ≤ length xs → put_mid a (length xs - a) xs ys ≡ take a xs ++ ys
put_rest a xs ys room =
    ap (λ (post : List ℕ). take a xs ++ (ys ++ post)) (drop_all (length xs - a) (drop a xs) (omega (arith, length-drop a xs)))
    ∙ ap (λ (l : List ℕ). take a xs ++ l) (append-nil ys)

-- the zeros behind the unit
abbrev zeros_at : List ℕ → ℕ → ℕ
zeros_at unit size = packets (length unit) size * size - (8 + length unit)

-- the payload that has the header
pub first-payload : (kind last number size : ℕ) (unit out filled new : List ℕ) → number ≡ 0 → 8 ≤ size
    → number + 1 ≤ packets (length unit) size → length out ≡ size → last ≡ last_length (length unit) size
    → filled ≡ image_header kind last ++ drop 8 out
    → new ≡ take (length (take (length filled - 8) (drop 8 filled))) unit
    ++ replicate (length (take (length filled - 8) (drop 8 filled)) - length unit) 0
    → put_mid 8 (length filled - 8) filled new ≡ take size (drop (number * size) (frame_image kind unit size))
unfolding frame_image
first-payload kind last number size unit out filled new none least within whole last_is filled_is new_is =
    let m = length (take (length filled - 8) (drop 8 filled)) in
    let header = image_header kind last in
    let rest = unit ++ replicate (zeros_at unit size) 0 in
    let long : length filled ≡ size =
    omega (arith, ap (λ (l : List ℕ). length l) filled_is, length-append header (drop 8 out), length-drop 8 out) in
    let behind : length (drop 8 filled) ≡ size - 8 = omega (arith, length-drop 8 filled) in
    let size_is : size ≡ 8 + m = omega (arith, length-take-le (length filled - 8) (drop 8 filled) (omega arith)) in
    let front : take 8 filled ≡ header = ap (take 8) filled_is in
    let one : 1 * size ≤ packets (length unit) size * size = mul-le 1 size (packets (length unit) size) size (omega arith) (omega arith) in
    let start : number * size ≡ 0 = ap (λ (n : ℕ). n * size) none ∙ omega arith in
    put_rest 8 filled new (omega arith)
    ∙ ap (λ (l : List ℕ). l ++ new) front
    ∙ ap (λ (l : List ℕ). header ++ l) (new_is ∙ sym (take-padded m (zeros_at unit size) unit (omega (arith, one))))
    ∙ sym (take-append-add header rest m)
    ∙ ap (λ (n : ℕ). take n (header ++ rest)) (sym size_is)
    ∙ ap (λ (n : ℕ). take size (drop n (header ++ rest))) (sym start)
    ∙ ap (λ (l : ℕ). take size (drop (number * size) (image_header kind l ++ rest))) last_is

-- a payload begins within the header and the unit
pub payload-begins : (length number size : ℕ) → 1 ≤ size → number + 1 ≤ packets length size → number * size ≤ 8 + length
payload-begins length number size some within =
    let p = parted_image length size some in
    let n : packets length size ≡ p.whole + 1 = packets-is length size p in
    let whole : number * size ≤ p.whole * size = mul-le number size p.whole size (omega (arith, n)) (omega arith) in
    omega (arith, whole, p.sum)

-- one behind it
pub later-payload : (kind number size : ℕ) (unit cut new : List ℕ) → 1 ≤ number → 8 ≤ size → number + 1 ≤ packets (length unit) size
    → cut ≡ drop (number * size - 8) unit → new ≡ take size cut ++ replicate (size - length cut) 0
    → new ≡ take size (drop (number * size) (frame_image kind unit size))
unfolding frame_image
later-payload kind number size unit cut new some least within cut_is new_is =
    let header = image_header kind (last_length (length unit) size) in
    let z = zeros_at unit size in
    let k = number * size - 8 in
    let first : 1 * size ≤ number * size = mul-le 1 size number size some (omega arith) in
    let room : (number + 1) * size ≤ packets (length unit) size * size =
    mul-le (number + 1) size (packets (length unit) size) size within (omega arith) in
    let turned : (number + 1) * size ≡ number * size + size = omega arith in
    let start : number * size ≡ 8 + k = omega (arith, first) in
    let inside : k ≤ length unit = omega (arith, payload-begins (length unit) number size (omega arith) within) in
    let left : length (drop k unit) ≡ length unit - k = length-drop k unit in
    new_is
    ∙ ap (λ (l : List ℕ). take size l ++ replicate (size - length l) 0) cut_is
    ∙ sym (take-padded size z (drop k unit) (omega (arith, left, room, turned, start, inside)))
    ∙ ap (take size) (sym (drop-append-le k unit (replicate z 0) inside))
    ∙ ap (take size) (sym (drop-append-add header (unit ++ replicate z 0) k))
    ∙ ap (λ (n : ℕ). take size (drop n (header ++ (unit ++ replicate z 0)))) (sym start)
