-- Shards laid end to end, and their columns.
use Rattle.std.proofs.Common.{◌≡◌, ℕ, ◌+◌, ◌-◌, ◌*◌, ◌/◌, ◌%◌, ◌<◌, ◌≤◌, List, length, get_or, map, drop, ◌++◌, ◌↔◌, sym, ap, ◌∙◌, subst, arith, inl, inr}
use Rattle.std.specs.List.{All, range_with_len}
use Rattle.std.proofs.lemmas.Bool.{cases_lt}
use Rattle.std.proofs.lemmas.Nat.{row_fits, div-mul-add, mod-mul-add, div_below, mod_below, div-add-mod'}
use Rattle.std.proofs.lemmas.List.{get_or_default, get_or-take, get_or-drop, length-take-le, length-drop, length-append, get_or_append_left}
use Rattle.std.proofs.lemmas.List.{get_or-append_right, ext_get_or}
use Rattle.std.proofs.lemmas.List.Elements.{All-append}
use Rattle.std.proofs.lemmas.List.FromFn.{length-map-range_with_len, get_or-map-range_with_len}
use Rattle.gs_gf256.specs.Field.{IsByte, product, field_sum}
use Rattle.gs_gf256.proofs.FieldSums.{field_sum-same}
use Rattle.gs_rs.specs.declared.shape.CodeShape.{CodeShape}
use Rattle.gs_rs.specs.Shape.{IsCode, shard_count, coefficient}
use Rattle.gs_rs.specs.Codeword.{IsCodeword, HasParityRows, IsBlock, column, shard_of}
use Rattle.gs_rs.specs.Laws.{EnoughShardsDetermineBlock, EnoughShardsHaveBlock, DataAloneIsBlock, DataAloneHasCodewords}
use Rattle.gs_rs.proofs.Codewords.{same_words, word_through}
use Rattle.gs_rs.proofs.Rows.{point_form_is_row_form, byte_or_zero}

-- byte k of shard number i
abbrev pub byte_at : ℕ → List ℕ → ℕ → ℕ → ℕ
byte_at len shards k i = get_or shards (i * len + k) 0

row_le : (n len i : ℕ) → i < n → i * len + len ≤ n * len
row_le n len i h = row_fits i len n len h (omega arith)

pub in_shards : (n len i k : ℕ) → i < n → k < len → i * len + k < n * len
in_shards n len i k hi hk = let h = row_le n len i hi in omega arith

column_length : (n len : ℕ) (shards : List ℕ) (k : ℕ) → length (column n len shards k) ≡ n
column_length n len shards k = length-map-range_with_len (byte_at len shards k) 0 n

pub column_at : (n len : ℕ) (shards : List ℕ) (k i d : ℕ) → i < n → get_or (column n len shards k) i d ≡ byte_at len shards k i
column_at n len shards k i d h = get_or-map-range_with_len (byte_at len shards k) 0 n i i d h (omega arith)

column_bytes : (n len : ℕ) (shards : List ℕ) (k : ℕ) → All IsByte shards → All IsByte (column n len shards k)
column_bytes n len shards k all i d h =
    subst IsByte (sym (column_at n len shards k i d (omega (arith, column_length n len shards k)))) (byte_or_zero shards all (i * len + k))

-- a place of n shards by its shard and its place there
place : (n len j : ℕ) → j < n * len → (j / len < n) × (j % len < len) × (j / len * len + j % len ≡ j)
place n len j h =
    let pos : 0 < len = elim (cases_lt 0 len) [
      | inl p ↦ p
      | inr z ↦ let zero_len : len ≡ 0 = omega arith in let none : n * len ≡ 0 = ap (λ m. n * m) zero_len ∙ omega arith in absurd (omega arith)
    ] in
    (div_below j len n pos h, mod_below j len pos, div-add-mod' j len)

-- two lists of shards with the same bytes in each shard are the same
pub same_shards : (n len : ℕ) (a b : List ℕ) → length a ≡ n * len → length b ≡ n * len
    → ((i k : ℕ) → i < n → k < len → byte_at len a k i ≡ byte_at len b k i) → a ≡ b
same_shards n len a b size_a size_b same =
    ext_get_or 0 a b (size_a ∙ sym size_b) (λ j h.
    let at = place n len j (omega arith) in
    subst (λ m. get_or a m 0 ≡ get_or b m 0) at.2 (same (j / len) (j % len) at.0 at.1))

-- one shard, byte by byte
pub length-shard_of : (n len : ℕ) (shards : List ℕ) (i : ℕ) → length shards ≡ n * len → i < n → length (shard_of len shards i) ≡ len
length-shard_of n len shards i size h =
    let room : i * len + len ≤ n * len = row_le n len i h in
    let rest : length (drop (i * len) shards) ≡ n * len - i * len = length-drop (i * len) shards ∙ ap (λ m. m - i * len) size in
    length-take-le len (drop (i * len) shards) (omega arith)

pub shard_at : (len : ℕ) (shards : List ℕ) (i k d : ℕ) → k < len → get_or (shard_of len shards i) k d ≡ get_or shards (i * len + k) d
shard_at len shards i k d h = get_or-take len (drop (i * len) shards) k d h ∙ get_or-drop (i * len) shards k d

pub same_shard : (n len : ℕ) (a b : List ℕ) (i : ℕ) → length a ≡ n * len → length b ≡ n * len → i < n
    → ((k : ℕ) → k < len → byte_at len a k i ≡ byte_at len b k i) → shard_of len a i ≡ shard_of len b i
same_shard n len a b i size_a size_b h same =
    ext_get_or 0 (shard_of len a i) (shard_of len b i) (length-shard_of n len a i size_a h ∙ sym (length-shard_of n len b i size_b h)) (λ k hk.
    let below : k < len = omega (arith, length-shard_of n len a i size_a h) in
    shard_at len a i k 0 below ∙ same k below ∙ sym (shard_at len b i k 0 below))

pub bytes_of_same_shard : (len : ℕ) (a b : List ℕ) (i k : ℕ) → shard_of len a i ≡ shard_of len b i → k < len → byte_at len a k i ≡ byte_at len b k i
bytes_of_same_shard len a b i k e h = sym (shard_at len a i k 0 h) ∙ ap (λ s. get_or s k 0) e ∙ shard_at len b i k 0 h

-- every column of the shards is a codeword, also without parity
pub record HasColumns (code : CodeShape) (len : ℕ) (shards : List ℕ) : Type 0 where
  pub size : length shards ≡ shard_count code * len
  pub columns : (k : ℕ) → k < len → IsCodeword code (column (shard_count code) len shards k)

-- data alone of a code: there are no rows to hold
pub data_alone_columns : DataAloneHasCodewords
data_alone_columns code len shards is no_parity size bytes k h =
    let n = shard_count code in
    (point_form_is_row_form code (column n len shards k) is).1 (record {
      counted = column_length n len shards k;
      are_bytes = column_bytes n len shards k bytes;
      rows = λ row below. absurd (omega arith);
    })

-- each byte of the shards is in a column
bytes_of_columns : (n len : ℕ) (shards : List ℕ) → length shards ≡ n * len
    → ((k : ℕ) → k < len → All IsByte (column n len shards k)) → All IsByte shards
bytes_of_columns n len shards size bytes = λ j d h.
    let at = place n len j (omega arith) in
    let i = j / len in
    let k = j % len in
    let here : get_or (column n len shards k) i 0 ≡ get_or shards j d =
    column_at n len shards k i 0 at.0 ∙ ap (λ m. get_or shards m 0) at.2 ∙ sym (get_or_default shards j d 0 h) in
    subst IsByte here (bytes k at.1 i 0 (omega (arith, at.0, column_length n len shards k)))

-- the blocks of a code are the shards whose columns are its codewords
pub block_is_columns : (code : CodeShape) (len : ℕ) (shards : List ℕ) → IsCode code → IsBlock code len shards ↔ HasColumns code len shards
block_is_columns code len shards is = (
  λ block. record {
    size = block.size;
    columns = elim (cases_lt 0 code.parity) [
      | inl some ↦ block.columns some
      | inr none ↦
          let no_parity : code.parity ≡ 0 = omega arith in
          let count : shard_count code ≡ code.data = omega arith in
          data_alone_columns code len shards is no_parity (block.size ∙ ap (λ m. m * len) count) block.bytes
    ];
  },
  λ words. record {
    size = words.size;
    bytes = bytes_of_columns (shard_count code) len shards words.size (λ k h. (words.columns k h).are_bytes);
    columns = λ some. words.columns;
  },
)

pub enough_determine : EnoughShardsDetermineBlock
enough_determine code len numbers a b is enough block_a block_b same =
    let n = shard_count code in
    let words_a = (block_is_columns code len a is).0 block_a in
    let words_b = (block_is_columns code len b is).0 block_b in
    same_shards n len a b block_a.size block_b.size (λ i k hi hk.
    let columns : column n len a k ≡ column n len b k =
    same_words code numbers (column n len a k) (column n len b k) is enough (words_a.columns k hk) (words_b.columns k hk) (λ j d h.
    let number = get_or numbers j d in
    let within = enough.in_range j d h in
    column_at n len a k number 0 within ∙ bytes_of_same_shard len a b number k (same j d h) hk ∙ sym (column_at n len b k number 0 within)) in
    sym (column_at n len a k i 0 hi) ∙ ap (λ c. get_or c i 0) columns ∙ column_at n len b k i 0 hi)

-- the block whose columns are the codewords through the given shards
pub enough_have : EnoughShardsHaveBlock
enough_have code len numbers shards is enough size bytes =
    let n = shard_count code in
    let word = λ (k : ℕ). word_through code numbers (byte_at len shards k) is enough (λ i. byte_or_zero shards bytes (i * len + k)) in
    let place_byte = λ (j : ℕ). get_or (word (j % len)).0 (j / len) 0 in
    let block = map place_byte (range_with_len 0 (n * len)) in
    let block_size : length block ≡ n * len = length-map-range_with_len place_byte 0 (n * len) in
    let at : (i k : ℕ) → i < n → k < len → byte_at len block k i ≡ get_or (word k).0 i 0 = λ i k hi hk.
    get_or-map-range_with_len place_byte 0 (n * len) (i * len + k) (i * len + k) 0 (in_shards n len i k hi hk) (omega arith)
    ∙ ap (λ m. get_or (word m).0 ((i * len + k) / len) 0) (mod-mul-add i len k hk)
    ∙ ap (λ m. get_or (word k).0 m 0) (div-mul-add i len k hk) in
    let columns : (k : ℕ) → k < len → IsCodeword code (column n len block k) = λ k hk.
    let same : (word k).0 ≡ column n len block k =
    ext_get_or 0 (word k).0 (column n len block k) ((word k).1.word_is.counted ∙ sym (column_length n len block k)) (λ i h.
    let hi : i < n = omega (arith, (word k).1.word_is.counted) in
    sym (at i k hi hk) ∙ sym (column_at n len block k i 0 hi)) in
    subst (IsCodeword code) same (word k).1.word_is in (
      block,
      (block_is_columns code len block is).1 (record { size = block_size; columns = columns }),
      λ j d h.
          let number = get_or numbers j d in
          let within = enough.in_range j d h in
          same_shard n len block shards number block_size size within (λ k hk.
          at number k within hk ∙ (word k).1.agrees j d h),
    )

-- a block by its parity rows
block_from_rows : (code : CodeShape) (len : ℕ) (block : List ℕ) → IsCode code → length block ≡ shard_count code * len → All IsByte block
    → ((k : ℕ) → k < len → HasParityRows code (column (shard_count code) len block k)) → IsBlock code len block
block_from_rows code len block is size bytes rows =
    record {
      size = size;
      bytes = bytes;
      columns = λ some k h. (point_form_is_row_form code (column (shard_count code) len block k) is).1 (rows k h);
    }

-- without parity no column has to be a codeword
pub data_alone : DataAloneIsBlock
data_alone code len shards no_parity size bytes =
    let count : shard_count code ≡ code.data = omega arith in
    record {
      size = size ∙ ap (λ m. m * len) (sym count);
      bytes = bytes;
      columns = λ some. absurd (omega arith);
    }

-- data shards, and parity shards after them that are the rows' sums
pub encoded : (code : CodeShape) (len : ℕ) (source parity : List ℕ) → IsCode code
    → length source ≡ code.data * len → length parity ≡ code.parity * len → All IsByte source → All IsByte parity
    → ((row k : ℕ) → row < code.parity → k < len
    → get_or parity (row * len + k) 0 ≡ field_sum (λ i. product (coefficient code row i) (get_or source (i * len + k) 0)) code.data)
    → IsBlock code len (source ++ parity)
encoded code len source parity is source_size parity_size source_bytes parity_bytes rows =
    let n = shard_count code in
    let d = code.data in
    let block = source ++ parity in
    let size : length block ≡ n * len = length-append source parity ∙ omega arith in
    let bytes : All IsByte block = All-append IsByte source parity source_bytes parity_bytes in
    let on_data : (i k : ℕ) → i < d → k < len → byte_at len block k i ≡ get_or source (i * len + k) 0 = λ i k hi hk.
    get_or_append_left source parity 0 (i * len + k) (omega (arith, in_shards d len i k hi hk)) in
    let on_parity : (row k : ℕ) → byte_at len block k (d + row) ≡ get_or parity (row * len + k) 0 = λ row k.
    get_or-append_right source parity (d * len) ((d + row) * len + k) 0 source_size (omega arith)
    ∙ ap (λ j. get_or parity j 0) (omega arith) in
    block_from_rows code len block is size bytes (λ k hk.
    record {
      counted = column_length n len block k;
      are_bytes = column_bytes n len block k bytes;
      rows = λ row below.
          column_at n len block k (d + row) 0 (omega arith)
          ∙ on_parity row k
          ∙ rows row k below hk
          ∙ field_sum-same _ _ d (λ i hi. ap (product (coefficient code row i))
          (sym (column_at n len block k i 0 (omega arith) ∙ on_data i k hi hk)));
    })
