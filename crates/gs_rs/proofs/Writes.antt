-- What a write to one shard leaves, and one more term of a sum.
use Rattle.std.proofs.Common.{◌≡◌, ◌≢◌, ℕ, ◌+◌, ◌-◌, ◌*◌, ◌<◌, ◌≤◌, ◌⊎◌, List, length, get_or, replicate, take, drop, ◌++◌, sym, ap, ◌∙◌, bit_xor, arith, inl}
use Rattle.std.proofs.Common.{inr}
use Rattle.std.proofs.lemmas.Bool.{cases_order}
use Rattle.std.proofs.lemmas.List.{get_or-take, get_or-drop, length-take-le, get_or_append_left, get_or-append_right, get_or-replicate, take-append-le}
use Rattle.std.proofs.lemmas.List.{drop-append-le, length-drop, append_assoc}
use Rattle.std.proofs.lemmas.Nat.{row_fits}
use borrow.Rule.Slice.PartMut.{put_mid, post_of}
use Rattle.gs_gf256.specs.Field.{product, field_sum}
use Rattle.gs_gf256.proofs.FieldSums.{field_sum-zero, field_sum-more}

pub none_yet : (f : ℕ → ℕ) (n k : ℕ) (xs : List ℕ) → xs ≡ replicate n 0 → k < n → get_or xs k 0 ≡ field_sum f 0
none_yet f n k xs e h = ap (λ ys. get_or ys k 0) e ∙ get_or-replicate n k 0 0 h ∙ sym (field_sum-zero f)

pub one_more : (f : ℕ → ℕ) (i old new term : ℕ) → new ≡ bit_xor old term → old ≡ field_sum f i → term ≡ f i → new ≡ field_sum f (i + 1)
one_more f i old new term step so_far this = step ∙ ap (λ x. bit_xor x term) so_far ∙ ap (bit_xor (field_sum f i)) this ∙ sym (field_sum-more f i)

put_before : (a k : ℕ) (xs ys : List ℕ) (m : ℕ) → a ≤ length xs → m < a → get_or (put_mid a k xs ys) m 0 ≡ get_or xs m 0
put_before a k xs ys m room below =
    get_or_append_left (take a xs) (ys ++ post_of a k xs) 0 m (omega (arith, length-take-le a xs room)) ∙ get_or-take a xs m 0 below

put_within : (a k : ℕ) (xs ys : List ℕ) (m : ℕ) → a ≤ length xs → m < length ys → get_or (put_mid a k xs ys) (a + m) 0 ≡ get_or ys m 0
put_within a k xs ys m room below =
    get_or-append_right (take a xs) (ys ++ post_of a k xs) a (a + m) 0 (length-take-le a xs room) (omega arith)
    ∙ ap (λ j. get_or (ys ++ post_of a k xs) j 0) (omega arith)
    ∙ get_or_append_left ys (post_of a k xs) 0 m below

put_after : (a k : ℕ) (xs ys : List ℕ) (m : ℕ) → a ≤ length xs → length ys ≡ k → a + k ≤ m → get_or (put_mid a k xs ys) m 0 ≡ get_or xs m 0
put_after a k xs ys m room size above =
    get_or-append_right (take a xs) (ys ++ post_of a k xs) a m 0 (length-take-le a xs room) (omega arith)
    ∙ get_or-append_right ys (post_of a k xs) k (m - a) 0 size (omega arith)
    ∙ get_or-drop k (drop a xs) ((m - a) - k) 0
    ∙ get_or-drop a xs (k + ((m - a) - k)) 0
    ∙ ap (λ j. get_or xs j 0) (omega arith)

-- a part that begins at a
pub cut_length : (a len : ℕ) (xs : List ℕ) → a + len ≤ length xs → length (take ((a + len) - a) (drop a xs)) ≡ len
cut_length a len xs room = length-take-le ((a + len) - a) (drop a xs) (omega (arith, length-drop a xs)) ∙ omega arith

-- shards of which shard i was written
pub put_shard_same : (len i k size : ℕ) (xs ys : List ℕ) → i * len + len ≤ length xs → length ys ≡ len → k < len
    → get_or (put_mid (i * len) size xs ys) (i * len + k) 0 ≡ get_or ys k 0
put_shard_same len i k size xs ys room size_y hk = put_within (i * len) size xs ys k (omega arith) (omega arith)

-- a shard other than i lies before it or after it
apart : (len i j k : ℕ) → j ≢ i → k < len → (j * len + k < i * len) ⊎ (i * len + len ≤ j * len + k)
apart len i j k other hk = elim (cases_order i j) [
  | inl same ↦ absurd (other (sym same))
  | inr (inl less) ↦ let h = row_fits i len j len less (omega arith) in inr (omega arith)
  | inr (inr more) ↦ let h = row_fits j len i len more (omega arith) in inl (omega arith)
]

pub put_shard_other : (len i j k size : ℕ) (xs ys : List ℕ) → size ≡ len → i * len + len ≤ length xs → length ys ≡ len → j ≢ i → k < len
    → get_or (put_mid (i * len) size xs ys) (j * len + k) 0 ≡ get_or xs (j * len + k) 0
put_shard_other len i j k size xs ys whole room size_y other hk =
    elim (apart len i j k other hk) [
      | inl before ↦ put_before (i * len) size xs ys (j * len + k) (omega arith) before
      | inr after ↦ put_after (i * len) size xs ys (j * len + k) (omega arith) (omega arith) (omega arith)
    ]

-- a write to a front part
put_front : (a size : ℕ) (front back ys : List ℕ) → a + size ≤ length front
    → put_mid a size front ys ++ back ≡ put_mid a size (front ++ back) ys
put_front a size front back ys room =
    let e1 : take a (front ++ back) ≡ take a front = take-append-le a front back (omega arith) in
    let e2 : drop a (front ++ back) ≡ drop a front ++ back = drop-append-le a front back (omega arith) in
    let e3 : drop size (drop a front ++ back) ≡ drop size (drop a front) ++ back =
    drop-append-le size (drop a front) back (omega (arith, length-drop a front)) in
    append_assoc (take a front) (ys ++ drop size (drop a front)) back
    ∙ ap (λ z. take a front ++ z) (append_assoc ys (drop size (drop a front)) back)
    ∙ sym (ap (λ z. z ++ (ys ++ drop size (drop a (front ++ back)))) e1
    ∙ ap (λ z. take a front ++ (ys ++ drop size z)) e2
    ∙ ap (λ z. take a front ++ (ys ++ z)) e3)

-- shard `to` before shard `from`, where the shards are cut at `from`
pub front_is : (len from to : ℕ) (xs front back ys : List ℕ) → to * len + len ≤ from * len → from * len ≤ length xs
    → xs ≡ front ++ back → length front ≡ from * len
    → put_mid (to * len) ((to * len + len) - to * len) front ys ++ back ≡ put_mid (to * len) ((to * len + len) - to * len) xs ys
front_is len from to xs front back ys before room whole size =
    put_front (to * len) ((to * len + len) - to * len) front back ys (omega arith)
    ∙ ap (λ z. put_mid (to * len) ((to * len + len) - to * len) z ys) (sym whole)

pub front_written : (len from to k w : ℕ) (xs front back ys : List ℕ) → to * len + len ≤ from * len → from * len + len ≤ length xs
    → xs ≡ front ++ back → front ≡ take (from * len) xs → back ≡ drop (from * len) xs → length ys ≡ len → k < len
    → get_or ys k 0 ≡ bit_xor (get_or (take ((to * len + len) - to * len) (drop (to * len) front)) k 0) (product w (get_or (take len back) k 0))
    → get_or (put_mid (to * len) ((to * len + len) - to * len) front ys ++ back) (to * len + k) 0
    ≡ bit_xor (get_or xs (to * len + k) 0) (product w (get_or xs (from * len + k) 0))
front_written len from to k w xs front back ys before room whole front_part back_part size_y hk step =
    let a = to * len in
    let b = from * len in
    let size : length front ≡ b = ap length front_part ∙ length-take-le b xs (omega arith) in
    let here : get_or (take ((a + len) - a) (drop a front)) k 0 ≡ get_or xs (a + k) 0 =
    get_or-take ((a + len) - a) (drop a front) k 0 (omega arith)
    ∙ get_or-drop a front k 0
    ∙ ap (λ z. get_or z (a + k) 0) front_part
    ∙ get_or-take b xs (a + k) 0 (omega arith) in
    let there : get_or (take len back) k 0 ≡ get_or xs (b + k) 0 =
    get_or-take len back k 0 hk ∙ ap (λ z. get_or z k 0) back_part ∙ get_or-drop b xs k 0 in
    ap (λ z. get_or z (a + k) 0) (front_is len from to xs front back ys before (omega arith) whole size)
    ∙ put_shard_same len to k ((a + len) - a) xs ys (omega arith) size_y hk
    ∙ step
    ∙ ap (λ z. bit_xor z (product w (get_or (take len back) k 0))) here
    ∙ ap (λ z. bit_xor (get_or xs (a + k) 0) (product w z)) there
