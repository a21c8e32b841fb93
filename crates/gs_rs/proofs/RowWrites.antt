-- Blocks written to the shards of several rows: the sums at their places, and what stays.
use Rattle.std.proofs.Common.{◌≡◌, ◌≢◌, ℕ, ◌+◌, ◌-◌, ◌*◌, ◌/◌, ◌%◌, ◌<◌, ◌≤◌, ◌⊎◌, List, length, get_or, refl, sym, ap, ap₂, ◌∙◌, bit_xor, arith, inl, inr}
use Rattle.std.proofs.lemmas.Bool.{cases_lt, cases_eq}
use Rattle.std.proofs.Math.Nat.{add-mul, mul-le-mul_right}
use Rattle.std.proofs.lemmas.Nat.{row_fits}
use Rattle.gs_gf256.specs.Field.{product, field_sum}
use Rattle.gs_gf256.specs.Table.{times, table_at}
use Rattle.gs_rs.specs.GroupRows.{RowsMade, row_value, HasRows}
use Rattle.gs_rs.specs.declared.shape.CodeShape.{CodeShape}
use Rattle.gs_rs.specs.Shape.{coefficient}
use Rattle.gs_gf256.proofs.FieldSums.{field_sum-same}

-- a block stands at a place, and nothing else has changed
pub record Written (old new block : List ℕ) (at : ℕ) : Type 0 where
  pub written : (j : ℕ) → j < 32 → get_or new (at + j) 0 ≡ get_or block j 0
  pub before : (i : ℕ) → i < at → get_or new i 0 ≡ get_or old i 0
  pub after : (i : ℕ) → at + 32 ≤ i → get_or new i 0 ≡ get_or old i 0

-- rows apart from each other
abbrev pub AreApart : ℕ → ℕ → (ℕ → ℕ) → Type 0
AreApart rows len begin = (r s : ℕ) → r < rows → s < rows → r ≢ s → (begin r + len ≤ begin s) ⊎ (begin s + len ≤ begin r)

kept_by : {old new block : List ℕ} {at : ℕ} → Written old new block at → (i : ℕ) → (i < at) ⊎ (at + 32 ≤ i) → get_or new i 0 ≡ get_or old i 0
kept_by w i h = elim h [ inl l ↦ w.before i l | inr r ↦ w.after i r ]

-- The block of one more row. It may begin before the end of what is made, and is then written twice.
pub row_written : (rows len : ℕ) (begin : ℕ → ℕ) (value : ℕ → ℕ → ℕ) (s at sooner place : ℕ) (old now new block : List ℕ) → AreApart rows len begin
    → s < rows → at ≤ sooner → sooner ≤ len → at + 32 ≤ len → ((j : ℕ) → j < 32 → get_or block j 0 ≡ value s (at + j))
    → place ≡ begin s + at → RowsMade rows len begin value s (at + 32) sooner old now → Written now new block place
    → RowsMade rows len begin value (s + 1) (at + 32) sooner old new
row_written rows len begin value s at sooner place old now new block apart within from some to sums place_is so_far w =
    let away : (r k : ℕ) → r < rows → r ≢ s → k < len → get_or new (begin r + k) 0 ≡ get_or now (begin r + k) 0 = λ r k hr other hk.
    kept_by w (begin r + k) (elim (apart r s hr within other) [ inl l ↦ inl (omega arith) | inr g ↦ inr (omega arith) ]) in
    let here : (k : ℕ) → at ≤ k → k < at + 32 → get_or new (begin s + k) 0 ≡ value s k = λ k low high.
    let j = k - at in
    let there : place + j ≡ begin s + k = omega arith in
    sym (ap (λ m. get_or new m 0) there) ∙ w.written j (omega arith) ∙ sums j (omega arith) ∙ ap (value s) (omega arith) in
    record {
      ahead = λ r k hr hk. elim (cases_eq r s) [
        | inl this ↦
            ap (λ q. get_or new (begin q + k) 0) this
            ∙ elim (cases_lt k at) [
              | inl early ↦ w.before (begin s + k) (omega arith) ∙ so_far.behind s k within (omega arith)
              | inr late ↦ here k late hk
            ]
            ∙ ap (λ q. value q k) (sym this)
        | inr other ↦ away r k (omega arith) other (omega arith) ∙ so_far.ahead r k (omega arith) hk
      ];
      behind = λ r k hr hk. elim (cases_eq r s) [
        | inl this ↦
            ap (λ q. get_or new (begin q + k) 0) this
            ∙ elim (cases_lt k at) [
              | inl early ↦ w.before (begin s + k) (omega arith) ∙ so_far.behind s k within hk
              | inr late ↦ elim (cases_lt k (at + 32)) [
                | inl inside ↦ here k late inside
                | inr past ↦ w.after (begin s + k) (omega arith) ∙ so_far.behind s k within hk
              ]
            ]
            ∙ ap (λ q. value q k) (sym this)
        | inr other ↦ away r k hr other (omega arith) ∙ so_far.behind r k hr hk
      ];
      elsewhere = λ i out.
          kept_by w i (elim (out s within) [ inl l ↦ inl (omega arith) | inr g ↦ inr (omega arith) ]) ∙ so_far.elsewhere i out;
    }

-- a block's rows begin
pub rows_begin : (rows len : ℕ) (begin : ℕ → ℕ) (value : ℕ → ℕ → ℕ) (later sooner : ℕ) (old now : List ℕ)
    → RowsMade rows len begin value 0 0 sooner old now → RowsMade rows len begin value 0 later sooner old now
rows_begin rows len begin value later sooner old now made = record {
  ahead = λ r k hr hk. absurd (omega arith);
  behind = made.behind;
  elsewhere = made.elsewhere;
}

-- and end
pub rows_end : (rows len : ℕ) (begin : ℕ → ℕ) (value : ℕ → ℕ → ℕ) (later sooner made : ℕ) (old now : List ℕ) → made ≤ later
    → RowsMade rows len begin value rows later sooner old now → RowsMade rows len begin value 0 0 made old now
rows_end rows len begin value later sooner made old now le all = record {
  ahead = λ r k hr hk. absurd (omega arith);
  behind = λ r k hr hk. all.ahead r k hr (omega arith);
  elsewhere = all.elsewhere;
}

pub no_rows : (rows len : ℕ) (begin : ℕ → ℕ) (value : ℕ → ℕ → ℕ) (made : ℕ) (old : List ℕ) → made ≡ 0 → RowsMade rows len begin value 0 0 made old old
no_rows rows len begin value made old none = record {
  ahead = λ r k hr hk. absurd (omega arith);
  behind = λ r k hr hk. absurd (omega arith);
  elsewhere = λ i out. refl;
}

-- a block's sums are those of a row, at the block's places
abbrev pub AreSums : (ℕ → ℕ → ℕ) → ℕ → ℕ → List ℕ → Type 0
AreSums value r at block = (j : ℕ) → j < 32 → get_or block j 0 ≡ value r (at + j)

-- the blocks of two rows
pub two_written : (len : ℕ) (begin : ℕ → ℕ) (value : ℕ → ℕ → ℕ) (at sooner made p0 p1 : ℕ) (old n0 n1 n2 b0 b1 : List ℕ)
    → AreApart 2 len begin → at ≤ sooner → sooner ≤ len → at + 32 ≤ len → made ≤ at + 32
    → p0 ≡ begin 0 + at → p1 ≡ begin 1 + at → AreSums value 0 at b0 → AreSums value 1 at b1
    → RowsMade 2 len begin value 0 0 sooner old n0 → Written n0 n1 b0 p0 → Written n1 n2 b1 p1
    → RowsMade 2 len begin value 0 0 made old n2
two_written len begin value at sooner made p0 p1 old n0 n1 n2 b0 b1 apart from some to le e0 e1 s0 s1 so_far w0 w1 =
    let m0 = rows_begin 2 len begin value (at + 32) sooner old n0 so_far in
    let m1 = row_written 2 len begin value 0 at sooner p0 old n0 n1 b0 apart (omega arith) from some to s0 e0 m0 w0 in
    let m2 = row_written 2 len begin value 1 at sooner p1 old n1 n2 b1 apart (omega arith) from some to s1 e1 m1 w1 in
    rows_end 2 len begin value (at + 32) sooner made old n2 le m2

-- the blocks of four rows
pub four_written : (len : ℕ) (begin : ℕ → ℕ) (value : ℕ → ℕ → ℕ) (at sooner made p0 p1 p2 p3 : ℕ)
    (old n0 n1 n2 n3 n4 b0 b1 b2 b3 : List ℕ)
    → AreApart 4 len begin → at ≤ sooner → sooner ≤ len → at + 32 ≤ len → made ≤ at + 32
    → p0 ≡ begin 0 + at → p1 ≡ begin 1 + at → p2 ≡ begin 2 + at → p3 ≡ begin 3 + at
    → AreSums value 0 at b0 → AreSums value 1 at b1 → AreSums value 2 at b2 → AreSums value 3 at b3
    → RowsMade 4 len begin value 0 0 sooner old n0
    → Written n0 n1 b0 p0 → Written n1 n2 b1 p1 → Written n2 n3 b2 p2 → Written n3 n4 b3 p3
    → RowsMade 4 len begin value 0 0 made old n4
four_written len begin value at sooner made p0 p1 p2 p3 old n0 n1 n2 n3 n4 b0 b1 b2 b3
    apart from some to le e0 e1 e2 e3 s0 s1 s2 s3 so_far w0 w1 w2 w3 =
    let m0 = rows_begin 4 len begin value (at + 32) sooner old n0 so_far in
    let m1 = row_written 4 len begin value 0 at sooner p0 old n0 n1 b0 apart (omega arith) from some to s0 e0 m0 w0 in
    let m2 = row_written 4 len begin value 1 at sooner p1 old n1 n2 b1 apart (omega arith) from some to s1 e1 m1 w1 in
    let m3 = row_written 4 len begin value 2 at sooner p2 old n2 n3 b2 apart (omega arith) from some to s2 e2 m2 w2 in
    let m4 = row_written 4 len begin value 3 at sooner p3 old n3 n4 b3 apart (omega arith) from some to s3 e3 m3 w3 in
    rows_end 4 len begin value (at + 32) sooner made old n4 le m4

-- ---- tables

-- a table that the write of another leaves
pub times_kept : (old new : List ℕ) (at place x : ℕ) → (at + 32 ≤ place) ⊎ (place + 32 ≤ at) → x < 256
    → ((i : ℕ) → i < place → get_or new i 0 ≡ get_or old i 0) → ((i : ℕ) → place + 32 ≤ i → get_or new i 0 ≡ get_or old i 0)
    → times new at x ≡ times old at x
times_kept old new at place x apart h before after = elim apart [
  | inl l ↦ ap₂ bit_xor (before (at + x % 16) (omega arith)) (before (at + 16 + x / 16) (omega arith))
  | inr g ↦ ap₂ bit_xor (after (at + x % 16) (omega arith)) (after (at + 16 + x / 16) (omega arith))
]

-- the sum that tables give is that of the products
pub row_sum : (d len k rows r : ℕ) (tables source numbers : List ℕ) (from factor : ℕ → ℕ) → length numbers ≡ d
    → ((i : ℕ) → i < d → get_or numbers i 0 ≡ from i)
    → ((i x : ℕ) → i < d → x < 256 → times tables (table_at rows i r) x ≡ product (factor i) x) → ((j : ℕ) → get_or source j 0 < 256)
    → row_value source len numbers tables rows r k ≡ field_sum (λ i. product (factor i) (get_or source (from i * len + k) 0)) d
row_sum d len k rows r tables source numbers from factor size at gives bytes =
    ap (field_sum (λ i. times tables (table_at rows i r) (get_or source (get_or numbers i 0 * len + k) 0))) size
    ∙ field_sum-same _ _ d (λ i h.
    gives i (get_or source (get_or numbers i 0 * len + k) 0) h (bytes (get_or numbers i 0 * len + k))
    ∙ ap (λ n. product (factor i) (get_or source (n * len + k) 0)) (at i h))

-- neighbouring shards are apart
pub rows_apart : (rows len row : ℕ) → AreApart rows len (λ r. (row + r) * len)
rows_apart rows len row r s hr hs other = elim (cases_lt r s) [
  | inl less ↦ let fits = row_fits (row + r) len (row + s) len (omega arith) (omega arith) in inl (omega arith)
  | inr more ↦ let fits = row_fits (row + s) len (row + r) len (omega arith) (omega arith) in inr (omega arith)
]

-- more parity shards
pub has_more : (code : CodeShape) (len rows row : ℕ) (source numbers tables old new : List ℕ) → length numbers ≡ code.data
    → ((i : ℕ) → i < code.data → get_or numbers i 0 ≡ i)
    → ((r i x : ℕ) → r < rows → i < code.data → x < 256 → times tables (table_at rows i r) x ≡ product (coefficient code (row + r) i) x)
    → ((j : ℕ) → get_or source j 0 < 256) → HasRows code len source old row
    → RowsMade rows len (λ r. (row + r) * len) (row_value source len numbers tables rows) 0 0 len old new
    → HasRows code len source new (row + rows)
has_more code len rows row source numbers tables old new size at gives bytes so_far made = λ q k below hk.
    elim (cases_lt q row) [
      | inl early ↦
          made.elsewhere (q * len + k) (λ r h. let fits = row_fits q len (row + r) len (omega arith) (omega arith) in inl (omega arith))
          ∙ so_far q k early hk
      | inr late ↦
          let r = q - row in
          let this : row + r ≡ q = omega arith in
          ap (λ m. get_or new (m * len + k) 0) (sym this)
          ∙ made.behind r k (omega arith) hk
          ∙ row_sum code.data len k rows r tables source numbers (λ i. i) (coefficient code (row + r)) size at
          (λ i x hi h. gives r i x (omega arith) hi h) bytes
          ∙ ap (λ m. field_sum (λ i. product (coefficient code m i) (get_or source (i * len + k) 0)) code.data) this
    ]

pub rows_fit : (row rows most len : ℕ) → row + rows ≤ most → row * len + rows * len ≤ most * len
rows_fit row rows most len h = let fits : (row + rows) * len ≤ most * len = mul-le-mul_right len h in omega (arith, add-mul row rows len)
