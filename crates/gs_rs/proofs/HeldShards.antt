-- Data shards with their parity shards are a block, and any shards of a block, as many as it has data shards, fix its data.
use Rattle.std.proofs.Common.{◌≡◌, ◌≢◌, ◌<◌, ◌≤◌, ◌+◌, ◌*◌, ℕ, zero, suc, Bool, true, false, List, [], ◌∷◌, ◌++◌, length, get_or, take, drop, map, Option, Some}
use Rattle.std.proofs.Common.{None, refl, sym, ap, ◌∙◌, subst, arith, ◌⊎◌, inl, inr, lit<}
use Rattle.std.specs.Prelude.{◌==◌, if◌then◌else◌}
use Rattle.std.specs.List.{All, AllPairs, concat, find, slice_get, range_with_len}
use Rattle.std.proofs.Math.Seq.{take-append_seam, drop-append-add}
use Rattle.std.proofs.lemmas.Bool.{cases_Bool, cond-true, cond-false, eqb-true, eqb-false}
use Rattle.std.proofs.lemmas.Bool.Decides.{Decides-eqb}
use Rattle.std.proofs.lemmas.List.{length-append, length-map, get_or_append_left, get_or-map, ext_get_or}
use Rattle.std.proofs.lemmas.List.Elements.{All-from_recursion, All-nil, All-cons, All-append, All-map, All-contains, All-head, All-tail}
use Rattle.std.proofs.lemmas.List.Folds.{concat-append}
use Rattle.std.proofs.lemmas.List.FromFn.{length-map-range_with_len, get_or-map-range_with_len}
use Rattle.std.proofs.lemmas.List.Kept.{AllPairs-cons}
use Rattle.std.proofs.lemmas.Map.Made.{IsDistinct-from_AllPairs, is_member-Decides}
use Rattle.std.proofs.lemmas.Map.Steps.{length-le_from_distinct_below}
use Rattle.std.proofs.lemmas.Option.{slice_get-get_or, slice_get_within, get_or_from_slice_get}
use Rattle.std.proofs.lemmas.Simd.{map-map}
use Rattle.gs_gf256.specs.Field.{IsByte, product, inverse, quotient, field_sum}
use Rattle.gs_gf256.proofs.FieldLemmas.{IsByte-product, product_assoc, product-one_r}
use Rattle.gs_gf256.proofs.FieldSums.{field_sum-same, IsByte-field_sum}
use Rattle.gs_gf256.proofs.Inverses.{IsByte-inverse, product-inverse}
use Rattle.gs_poly.specs.Polynomial.{value, weighted_sum, PassesThrough}
use Rattle.gs_poly.proofs.Interpolation.{interpolation_is_weighted_sum}
use Rattle.gs_rs.specs.declared.shape.Form.{Form}
use Rattle.gs_rs.specs.declared.shape.Form.TheVariants.{Video, Audio}
use Rattle.gs_rs.specs.declared.shape.CodeShape.{CodeShape}
use Rattle.gs_rs.specs.Shape.{IsCode, shard_count, point, denominator, coefficient, audio_row}
use Rattle.gs_rs.specs.Codeword.{IsCodeword, IsBlock, column, shard_of}
use Rattle.gs_rs.specs.Laws.{AreEnough}
use Rattle.gs_rs.proofs.Points.{shape_of, IsByte-point, ArePoints-map, IsByte-denominator, denominator-ne-zero}
use Rattle.gs_rs.proofs.Codewords.{word_byte}
use Rattle.gs_rs.proofs.Rows.{byte_or_zero}
use Rattle.gs_rs.proofs.Blocks.{column_at, shard_at, block_is_columns, data_alone, encoded, length-shard_of}
use Rattle.gs_rs.specs.Shards.{shard_byte, parity_shard, with_parity_shards, HeldShard, restored_byte, held_or_restored}
use Rattle.gs_rs.specs.ShardLaws.{AreDataShards, AreOfBlock, HeldShardsHoldBlock, ShardsFormBlock, HeldShardsFixBlock}

-- ---- parity shards

-- a shard's byte, by its shard
shard_byte-is : (shards : List (List ℕ)) (i k : ℕ) → shard_byte shards i k ≡ get_or (get_or shards i []) k 0
shard_byte-is [] i k = refl
shard_byte-is (shard ∷ shards) zero k = refl
shard_byte-is (shard ∷ shards) (suc i) k = shard_byte-is shards i k

-- it is a byte
IsByte-shard_byte : (shards : List (List ℕ)) (i k : ℕ) → All (All IsByte) shards → IsByte (shard_byte shards i k)
IsByte-shard_byte [] i k bytes = lit< tt
IsByte-shard_byte (shard ∷ shards) zero k bytes = byte_or_zero shard (All-head (All IsByte) shard shards bytes) k
IsByte-shard_byte (shard ∷ shards) (suc i) k bytes = IsByte-shard_byte shards i k (All-tail (All IsByte) shard shards bytes)

-- either of two lists of bytes
cond_bytes : (first : Bool) (xs ys : List ℕ) → All IsByte xs → All IsByte ys → All IsByte (if first then xs else ys)
cond_bytes true xs ys hx hy = hx
cond_bytes false xs ys hx hy = hy

-- the coefficients are bytes
IsByte-audio_row : (row : ℕ) → All IsByte (audio_row row)
IsByte-audio_row row =
    let first = 0x77 ∷ 0x40 ∷ 0x38 ∷ 0x0E ∷ [] in
    let second = 0xC7 ∷ 0xA7 ∷ 0x0D ∷ 0x6C ∷ [] in
    cond_bytes (row == 0) first second
    (All-from_recursion IsByte first (lit< tt, (lit< tt, (lit< tt, (lit< tt, tt)))))
    (All-from_recursion IsByte second (lit< tt, (lit< tt, (lit< tt, (lit< tt, tt)))))

-- for each form of code
coefficient_byte_of : (d p : ℕ) (form : Form) (row i : ℕ) → IsByte (coefficient (shape_of d p form) row i)
coefficient_byte_of d p Video row i = IsByte-inverse _
coefficient_byte_of d p Audio row i = byte_or_zero (audio_row row) (IsByte-audio_row row) i

-- and for any code
IsByte-coefficient : (code : CodeShape) (row i : ℕ) → IsByte (coefficient code row i)
IsByte-coefficient code row i = coefficient_byte_of code.data code.parity code.form row i

abbrev pub parity_shards : CodeShape → ℕ → List (List ℕ) → List (List ℕ)
parity_shards code size shards = map (parity_shard code size shards) (range_with_len 0 code.parity)

-- a parity shard's byte
abbrev pub parity_byte : CodeShape → List (List ℕ) → ℕ → ℕ → ℕ
parity_byte code shards row k = field_sum (λ i. product (coefficient code row i) (shard_byte shards i k)) code.data

-- it is a byte
pub IsByte-parity_byte : (code : CodeShape) (shards : List (List ℕ)) (row k : ℕ) → All (All IsByte) shards → IsByte (parity_byte code shards row k)
IsByte-parity_byte code shards row k bytes =
    IsByte-field_sum (λ i. product (coefficient code row i) (shard_byte shards i k)) code.data (λ i in_i.
    IsByte-product (coefficient code row i) (shard_byte shards i k) (IsByte-coefficient code row i) (IsByte-shard_byte shards i k bytes))

-- as many shards as the code has
pub length-with_parity : (code : CodeShape) (size : ℕ) (shards : List (List ℕ)) → length shards ≡ code.data
    → length (with_parity_shards code size shards) ≡ shard_count code
length-with_parity code size shards count =
    omega (arith, length-append shards (parity_shards code size shards), length-map-range_with_len (parity_shard code size shards) 0 code.parity)

-- parity shards of one size
parity-sizes : (code : CodeShape) (size : ℕ) (shards : List (List ℕ)) → All (λ shard. length shard ≡ size) (parity_shards code size shards)
parity-sizes code size shards =
    All-map (λ shard. length shard ≡ size) (parity_shard code size shards) (range_with_len 0 code.parity)
    (λ j d h. length-map-range_with_len (parity_byte code shards _) 0 size)

-- of bytes
parity-bytes : (code : CodeShape) (size : ℕ) (shards : List (List ℕ)) → All (All IsByte) shards → All (All IsByte) (parity_shards code size shards)
parity-bytes code size shards bytes =
    All-map (All IsByte) (parity_shard code size shards) (range_with_len 0 code.parity)
    (λ j d h. All-map IsByte (parity_byte code shards (get_or (range_with_len 0 code.parity) j d)) (range_with_len 0 size)
    (λ k e in_k. IsByte-parity_byte code shards (get_or (range_with_len 0 code.parity) j d) (get_or (range_with_len 0 size) k e) bytes))

-- all shards of a block are of that size
with_parity-sizes : (code : CodeShape) (size : ℕ) (shards : List (List ℕ)) → AreDataShards code size shards
    → All (λ shard. length shard ≡ size) (with_parity_shards code size shards)
with_parity-sizes code size shards are =
    All-append (λ shard. length shard ≡ size) shards (parity_shards code size shards) are.sizes (parity-sizes code size shards)

-- ---- lists laid end to end

-- what all of them have
All-concat : (P : ℕ → Type 0) (lists : List (List ℕ)) → All (All P) lists → All P (concat lists)
All-concat P [] all = All-nil P
All-concat P (list ∷ lists) all =
    All-append P list (concat lists) (All-head (All P) list lists all) (All-concat P lists (All-tail (All P) list lists all))

-- lists of one length
length-concat : (size : ℕ) (lists : List (List ℕ)) → All (λ list. length list ≡ size) lists → length (concat lists) ≡ length lists * size
length-concat size [] sizes = omega arith
length-concat size (list ∷ lists) sizes =
    omega (
      arith,
      length-append list (concat lists),
      All-head (λ l. length l ≡ size) list lists sizes,
      length-concat size lists (All-tail (λ l. length l ≡ size) list lists sizes),
    )

-- each of them is the shard of its number
shard_of-concat : (size : ℕ) (lists : List (List ℕ)) (i : ℕ) → All (λ list. length list ≡ size) lists → i < length lists
    → shard_of size (concat lists) i ≡ get_or lists i []
shard_of-concat size [] i sizes h = absurd (omega arith)
shard_of-concat size (list ∷ lists) zero sizes h =
    let first : length list ≡ size = All-head (λ l. length l ≡ size) list lists sizes in
    let none : 0 * size ≡ 0 = omega arith in
    ap (λ (n : ℕ). take size (drop n (list ++ concat lists))) none
    ∙ ap (λ (n : ℕ). take n (list ++ concat lists)) (sym first)
    ∙ take-append_seam list (concat lists)
shard_of-concat size (list ∷ lists) (suc i) sizes h =
    let first : length list ≡ size = All-head (λ l. length l ≡ size) list lists sizes in
    let more : suc i * size ≡ length list + i * size = omega arith in
    ap (λ (n : ℕ). take size (drop n (list ++ concat lists))) more
    ∙ ap (take size) (drop-append-add list (concat lists) (i * size))
    ∙ shard_of-concat size lists i (All-tail (λ l. length l ≡ size) list lists sizes) (omega arith)

-- byte by byte
byte-concat : (size : ℕ) (lists : List (List ℕ)) (i k : ℕ) → All (λ list. length list ≡ size) lists → i < length lists → k < size
    → get_or (concat lists) (i * size + k) 0 ≡ get_or (get_or lists i []) k 0
byte-concat size lists i k sizes h below =
    sym (shard_at size (concat lists) i k 0 below) ∙ ap (λ (list : List ℕ). get_or list k 0) (shard_of-concat size lists i sizes h)

-- ---- they are a block

-- with parity shards
coded_shards_form : (code : CodeShape) (size : ℕ) (shards : List (List ℕ)) → IsCode code → AreDataShards code size shards
    → IsBlock code size (concat (with_parity_shards code size shards))
coded_shards_form code size shards is are =
    let parity = parity_shards code size shards in
    let parity_count : length parity ≡ code.parity = length-map-range_with_len (parity_shard code size shards) 0 code.parity in
    let count : length shards ≡ code.data = are.count in
    subst (IsBlock code size) (sym (concat-append shards parity))
    (encoded code size (concat shards) (concat parity) is
    (length-concat size shards are.sizes ∙ ap (λ (n : ℕ). n * size) count)
    (length-concat size parity (parity-sizes code size shards) ∙ ap (λ (n : ℕ). n * size) parity_count)
    (All-concat IsByte shards are.bytes) (All-concat IsByte parity (parity-bytes code size shards are.bytes))
    (λ row k row_in k_in.
    byte-concat size parity row k (parity-sizes code size shards) (omega arith) k_in
    ∙ ap (λ (shard : List ℕ). get_or shard k 0) (get_or-map-range_with_len (parity_shard code size shards) 0 code.parity row row [] row_in (omega arith))
    ∙ get_or-map-range_with_len (parity_byte code shards row) 0 size k k 0 k_in (omega arith)
    ∙ field_sum-same _ _ code.data (λ i in_i. ap (product (coefficient code row i))
    (shard_byte-is shards i k ∙ sym (byte-concat size shards i k are.sizes (omega arith) k_in)))))

-- with parity shards or without
pub shards_form : ShardsFormBlock
shards_form code size shards which are =
    elim which [
      | inl is ↦ coded_shards_form code size shards is are
      | inr bare ↦
          let block = with_parity_shards code size shards in
          let count : length block ≡ code.data = length-with_parity code size shards are.count ∙ omega arith in
          data_alone code size (concat block) bare
          (length-concat size block (with_parity-sizes code size shards are) ∙ ap (λ (n : ℕ). n * size) count)
          (All-concat IsByte block
          (All-append (All IsByte) shards (parity_shards code size shards) are.bytes (parity-bytes code size shards are.bytes)))
    ]

-- ---- a byte of a codeword by others

-- the value of a codeword's polynomial at a shard's point
abbrev value_of : CodeShape → List ℕ → ℕ → ℕ
value_of code bytes number = product (get_or bytes number 0) (denominator code (point code number))

-- the polynomial of a codeword goes through any of its values
passes_through : (code : CodeShape) (numbers bytes : List ℕ) → AreEnough code numbers → (word : IsCodeword code bytes)
    → PassesThrough (map (point code) numbers) (map (value_of code bytes) numbers) word.polynomial
passes_through code numbers bytes enough word =
    let size : length (map (point code) numbers) ≡ length numbers = length-map numbers (point code) in
    record {
      polynomial = record {
        degree_below = word.degree.degree_below ∙ sym enough.count ∙ sym size;
        bytes = word.degree.bytes;
      };
      at_points = λ i within.
          let in_i : i < length numbers = omega arith in
          let n = get_or numbers i 0 in
          ap (value word.polynomial) (get_or-map (point code) numbers i 0 0 in_i)
          ∙ sym (word.values n (enough.in_range i 0 in_i))
          ∙ sym (get_or-map (value_of code bytes) numbers i 0 0 in_i);
    }

-- the interpolated value over the denominator
byte_by_others : (code : CodeShape) (numbers bytes : List ℕ) (index : ℕ) → IsCode code → AreEnough code numbers → IsCodeword code bytes
    → index < shard_count code
    → quotient (weighted_sum (map (point code) numbers) (map (value_of code bytes) numbers) (point code index)) (denominator code (point code index))
    ≡ get_or bytes index 0
byte_by_others code numbers bytes index is enough word within =
    let points = map (point code) numbers in
    let values = map (value_of code bytes) numbers in
    let x = point code index in
    let hx : IsByte x = IsByte-point code is index within in
    let w = denominator code x in
    let hw : IsByte w = IsByte-denominator code is x hx in
    let b = get_or bytes index 0 in
    let hb : IsByte b = word_byte code bytes word index within in
    ap (λ (v : ℕ). quotient v w)
    (sym (interpolation_is_weighted_sum points values word.polynomial (ArePoints-map code numbers is enough)
    (passes_through code numbers bytes enough word) x hx)
    ∙ sym (word.values index within))
    ∙ product_assoc b w (inverse w) hb hw (IsByte-inverse w)
    ∙ ap (product b) (product-inverse w hw (denominator-ne-zero code is x hx))
    ∙ product-one_r b hb

-- ---- the shards held

abbrev number_of : HeldShard → ℕ
number_of r = r.index

-- where no two have the same number, no two of the numbers are the same
pub numbers_apart : {X : Type 0} (number : X → ℕ) (xs : List X) → AllPairs (λ x y. number x ≢ number y) xs → AllPairs (λ m n. m ≢ n) (map number xs)
numbers_apart number [] apart i j d less h = absurd (omega arith)
numbers_apart number (x ∷ xs) apart i j d less h =
    let size = length-map (x ∷ xs) number in
    let in_j : j < length (x ∷ xs) = omega arith in
    let in_i : i < length (x ∷ xs) = omega arith in
    λ e. apart i j x less in_j (sym (get_or-map number (x ∷ xs) i x d in_i) ∙ e ∙ get_or-map number (x ∷ xs) j x d in_j)

-- two functions that agree on a list
map-same : {A B : Type 0} (f g : A → B) (xs : List A) → All (λ x. f x ≡ g x) xs → map f xs ≡ map g xs
map-same f g [] same = refl
map-same f g (x ∷ xs) same =
    let first = All-head (λ y. f y ≡ g y) x xs same in
    let rest = map-same f g xs (All-tail (λ y. f y ≡ g y) x xs same) in
    cc

-- what is found passes the test, and has what all have
pub find-some : {X : Type 0} (test : X → Bool) (P : X → Type 0) (xs : List X) (x : X) → All P xs → find test xs ≡ Some x → (test x ≡ true) × P x
find-some test P [] x all e = cc
find-some test P (y ∷ ys) x all e = elim (cases_Bool (test y)) [
  | inl passes ↦
      let found : Some y ≡ Some x = sym (cond-true (test y) (Some y) (find test ys) passes) ∙ e in
      let same : y ≡ x = cc in
      subst (λ z. (test z ≡ true) × P z) same (passes, All-head P y ys all)
  | inr fails ↦ find-some test P ys x (All-tail P y ys all) (sym (cond-false (test y) (Some y) (find test ys) fails) ∙ e)
]

-- where none is found, all fail the test
find-none : {X : Type 0} (test : X → Bool) (xs : List X) → find test xs ≡ None → All (λ x. test x ≡ false) xs
find-none test [] e = All-nil (λ x. test x ≡ false)
find-none test (x ∷ xs) e = elim (cases_Bool (test x)) [
  | inl passes ↦ let found : Some x ≡ None = sym (cond-true (test x) (Some x) (find test xs) passes) ∙ e in cc
  | inr fails ↦
      All-cons (λ y. test y ≡ false) x xs fails
      (find-none test xs (sym (cond-false (test x) (Some x) (find test xs) fails) ∙ e))
]

-- numbers below d, no two the same, are no more than d
distinct_below-few : (d : ℕ) (numbers : List ℕ) → AllPairs (λ m n. m ≢ n) numbers → All (λ n. n < d) numbers → length numbers ≤ d
distinct_below-few d numbers apart below =
    length-le_from_distinct_below numbers d (IsDistinct-from_AllPairs Decides-eqb numbers apart)
    (λ q among. All-contains (λ n. n < d) numbers q below ((is_member-Decides Decides-eqb numbers q).0 among))

-- so d of them have each number below d
none_missing : (d i : ℕ) (numbers : List ℕ) → AllPairs (λ m n. m ≢ n) numbers → All (λ n. n < d) numbers → length numbers ≡ d → i < d → All (λ n. i ≢ n) numbers
    → ⊥
none_missing d i numbers apart below count within missing =
    let few = distinct_below-few d (i ∷ numbers) (AllPairs-cons (λ m n. m ≢ n) i numbers missing apart) (All-cons (λ n. n < d) i numbers within below) in
    absurd (omega arith)

-- an element of the first of two lists
pub slice_get-append_left : {X : Type 0} (xs ys : List X) (i : ℕ) → i < length xs → slice_get (xs ++ ys) i ≡ slice_get xs i
slice_get-append_left [] ys i h = absurd (omega arith)
slice_get-append_left (x ∷ xs) ys zero h = refl
slice_get-append_left (x ∷ xs) ys (suc i) h = slice_get-append_left xs ys i (omega arith)

-- their numbers are enough
held_enough : (code : CodeShape) (size : ℕ) (block : List ℕ) (held : List HeldShard) → AreOfBlock code size block held → AreEnough code (map number_of held)
held_enough code size block held of_block =
    record {
      count = length-map held number_of ∙ of_block.count;
      in_range = All-map (λ n. n < shard_count code) number_of held of_block.in_range;
      distinct = numbers_apart number_of held of_block.distinct;
    }

-- a byte of a block's shard, in the codeword at its place
byte_in_column : (code : CodeShape) (size : ℕ) (block : List ℕ) (k i : ℕ) → k < size → i < shard_count code
    → get_or (shard_of size block i) k 0 ≡ get_or (column (shard_count code) size block k) i 0
byte_in_column code size block k i in_k in_i = shard_at size block i k 0 in_k ∙ sym (column_at (shard_count code) size block k i 0 in_i)

-- a byte that is restored is that of the block's shard
restored_byte-is : (code : CodeShape) (size : ℕ) (block : List ℕ) (held : List HeldShard) → IsCode code → IsBlock code size block
    → AreOfBlock code size block held → (i k : ℕ) → i < code.data → k < size
    → restored_byte code held i k ≡ get_or (shard_of size block i) k 0
restored_byte-is code size block held is block_is of_block i k in_i in_k =
    let bytes = column (shard_count code) size block k in
    let words = (block_is_columns code size block is).0 block_is in
    let held_value : HeldShard → ℕ = λ r. product (get_or r.bytes k 0) (denominator code (point code r.index)) in
    let points_are : map (λ (r : HeldShard). point code r.index) held ≡ map (point code) (map number_of held) =
    sym (map-map (point code) number_of held) in
    let values_are : map held_value held ≡ map (value_of code bytes) (map number_of held) =
    map-same held_value (λ r. value_of code bytes r.index) held
    (λ j d h.
    let r = get_or held j d in
    ap (λ (b : ℕ). product b (denominator code (point code r.index)))
    (ap (λ (shard : List ℕ). get_or shard k 0) (of_block.are j d h) ∙ byte_in_column code size block k r.index in_k (of_block.in_range j d h)))
    ∙ sym (map-map (value_of code bytes) number_of held) in
    let x = point code i in
    ap (λ (points : List ℕ). quotient (weighted_sum points (map held_value held) x) (denominator code x)) points_are
    ∙ ap (λ (values : List ℕ). quotient (weighted_sum (map (point code) (map number_of held)) values x) (denominator code x)) values_are
    ∙ byte_by_others code (map number_of held) bytes i is (held_enough code size block held of_block) (words.columns k in_k) (omega arith)
    ∙ sym (byte_in_column code size block k i in_k (omega arith))

-- where there is no parity, each data shard is held
data_held : (code : CodeShape) (size : ℕ) (block : List ℕ) (held : List HeldShard) → code.parity ≡ 0 → AreOfBlock code size block held
    → (i : ℕ) → i < code.data → find (λ (r : HeldShard). r.index == i) held ≢ None
data_held code size block held bare of_block i in_i e =
    let missing = find-none (λ (r : HeldShard). r.index == i) held e in
    let enough = held_enough code size block held of_block in
    none_missing code.data i (map number_of held) enough.distinct (λ j d h. omega (arith, enough.in_range j d h)) enough.count in_i
    (All-map (λ n. i ≢ n) number_of held (λ j d h. λ same. eqb-false (get_or held j d).index i (missing j d h) (sym same)))

-- a data shard is the one held, where it is held, and else what is restored
held_or_restored-is : (code : CodeShape) (size : ℕ) (block : List ℕ) (held : List HeldShard) → IsCode code ⊎ (code.parity ≡ 0) → IsBlock code size block
    → AreOfBlock code size block held → (i : ℕ) → i < code.data
    → (o : Option HeldShard) → find (λ (r : HeldShard). r.index == i) held ≡ o
    → held_or_restored code size held i o ≡ shard_of size block i
held_or_restored-is code size block held which block_is of_block i in_i (Some r) e =
    let found = find-some (λ (s : HeldShard). s.index == i) (λ s. s.bytes ≡ shard_of size block s.index) held r of_block.are e in
    found.1 ∙ ap (shard_of size block) (eqb-true r.index i found.0)
held_or_restored-is code size block held (inl is) block_is of_block i in_i None e =
    let restored = restored_byte code held i in
    let restored_size : length (map restored (range_with_len 0 size)) ≡ size = length-map-range_with_len restored 0 size in
    ext_get_or 0 (map restored (range_with_len 0 size)) (shard_of size block i)
    (restored_size ∙ sym (length-shard_of (shard_count code) size block i block_is.size (omega arith)))
    (λ k h.
    let in_k : k < size = omega arith in
    get_or-map-range_with_len restored 0 size k k 0 in_k (omega arith)
    ∙ restored_byte-is code size block held is block_is of_block i k in_i in_k)
held_or_restored-is code size block held (inr bare) block_is of_block i in_i None e = absurd (data_held code size block held bare of_block i in_i e)

-- whatever the block
pub held_shards_fix : HeldShardsFixBlock
held_shards_fix code size block held which block_is of_block i in_i =
    held_or_restored-is code size block held which block_is of_block i in_i (find (λ (r : HeldShard). r.index == i) held) refl

-- so of data shards with their parity shards: they are one
pub held_shards_hold : HeldShardsHoldBlock
held_shards_hold code size shards held which are held_shards i in_i =
    let block = with_parity_shards code size shards in
    let sizes = with_parity-sizes code size shards are in
    let count : length shards ≡ code.data = are.count in
    let whole : length block ≡ shard_count code = length-with_parity code size shards count in
    let in_block : (r : HeldShard) → slice_get block r.index ≡ Some r.bytes → r.index < length block =
    λ r e. slice_get_within block r.index r.bytes e in
    let of_block : AreOfBlock code size (concat block) held = record {
      count = held_shards.count;
      distinct = held_shards.distinct;
      in_range = λ j d h. omega (arith, in_block (get_or held j d) (held_shards.are j d h), whole);
      are = λ j d h.
          let r = get_or held j d in
          let e = held_shards.are j d h in
          sym (get_or_from_slice_get block r.index r.bytes [] e) ∙ sym (shard_of-concat size block r.index sizes (in_block r e));
    } in
    let fixed = held_shards_fix code size (concat block) held which (shards_form code size shards which are) of_block i in_i in
    slice_get-get_or shards i [] (omega arith)
    ∙ ap (λ (shard : List ℕ). Some shard)
    (sym (get_or_append_left shards (parity_shards code size shards) [] i (omega arith))
    ∙ sym (shard_of-concat size block i sizes (omega (arith, whole))) ∙ sym fixed)
