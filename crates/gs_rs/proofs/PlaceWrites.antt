-- What a write to one place of a room leaves at the others.
use Rattle.std.proofs.Common.{◌≡◌, ◌≢◌, ◌<◌, ◌≤◌, ◌+◌, ◌*◌, ℕ, List, ◌++◌, length, get_or, take, drop, sym, ◌∙◌, arith}
use Rattle.std.proofs.lemmas.List.{length-take, length-take-le, length-drop, length-append, get_or-take, same_lists, get_or_default}
use Rattle.std.proofs.lemmas.Nat.{row_fits}
use borrow.Rule.Slice.PartMut.{put_mid}
use Rattle.gs_rs.specs.Codeword.{shard_of}
use Rattle.gs_rs.proofs.Blocks.{shard_at}
use Rattle.gs_rs.proofs.Writes.{put_shard_other}

-- what stands at a place, by the room's length
length-place : (size : ℕ) (xs ys : List ℕ) (i : ℕ) → length xs ≡ length ys → length (shard_of size xs i) ≡ length (shard_of size ys i)
length-place size xs ys i same =
    omega (arith, length-take size (drop (i * size) xs), length-take size (drop (i * size) ys), length-drop (i * size) xs, length-drop (i * size) ys)

-- rooms of one length with the same bytes at a place
pub same_place : (size : ℕ) (xs ys : List ℕ) (i : ℕ) → length xs ≡ length ys
    → ((k : ℕ) → k < size → get_or xs (i * size + k) 0 ≡ get_or ys (i * size + k) 0) → shard_of size xs i ≡ shard_of size ys i
same_place size xs ys i whole same =
    same_lists (shard_of size xs i) (shard_of size ys i) (length-place size xs ys i whole) (λ k d h.
    let below : k < size = omega (arith, length-take size (drop (i * size) xs)) in
    let h' : k < length (shard_of size ys i) = omega (arith, length-place size xs ys i whole) in
    get_or_default (shard_of size xs i) k d 0 h
    ∙ shard_at size xs i k 0 below ∙ same k below ∙ sym (shard_at size ys i k 0 below)
    ∙ sym (get_or_default (shard_of size ys i) k d 0 h'))

-- a room in which one place was written has its length
length-put : (a k : ℕ) (xs ys : List ℕ) → a + k ≤ length xs → length ys ≡ k → length (put_mid a k xs ys) ≡ length xs
length-put a k xs ys room whole =
    let front = length-take a xs in
    let rest = length-drop k (drop a xs) in
    let back = length-drop a xs in
    let all = length-append (take a xs) (ys ++ drop k (drop a xs)) in
    let behind = length-append ys (drop k (drop a xs)) in
    omega arith

-- the other places stay
pub put-others : (len i j size : ℕ) (xs ys : List ℕ) → size ≡ len → i * len + len ≤ length xs → length ys ≡ len → j ≢ i
    → shard_of len (put_mid (i * len) size xs ys) j ≡ shard_of len xs j
put-others len i j size xs ys whole room ys_size other =
    same_place len (put_mid (i * len) size xs ys) xs j (length-put (i * len) size xs ys (omega arith) (omega arith))
    (λ k below. put_shard_other len i j k size xs ys whole room ys_size other below)

-- a place within the front
pub front-place : (n size : ℕ) (xs : List ℕ) (i : ℕ) → n * size ≤ length xs → i < n → shard_of size (take (n * size) xs) i ≡ shard_of size xs i
front-place n size xs i room h =
    let fits : i * size + size ≤ n * size = row_fits i size n size h (omega arith) in
    let front = take (n * size) xs in
    let whole : length front ≡ n * size = length-take-le (n * size) xs room in
    let l1 = length-take size (drop (i * size) front) in
    let l2 = length-take size (drop (i * size) xs) in
    let d1 = length-drop (i * size) front in
    let d2 = length-drop (i * size) xs in
    same_lists (shard_of size front i) (shard_of size xs i) (omega arith) (λ k d h'.
    let below : k < size = omega arith in
    let there : k < length (shard_of size xs i) = omega arith in
    get_or_default (shard_of size front i) k d 0 h'
    ∙ shard_at size front i k 0 below
    ∙ get_or-take (n * size) xs (i * size + k) 0 (omega arith)
    ∙ sym (shard_at size xs i k 0 below)
    ∙ sym (get_or_default (shard_of size xs i) k d 0 there))
