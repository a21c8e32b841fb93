-- Rows of sums written among the shards that they are sums of.
use Rattle.std.proofs.Common.{◌≡◌, ◌≢◌, ℕ, ◌+◌, ◌-◌, ◌*◌, ◌<◌, ◌≤◌, ◌⊎◌, List, length, get_or, take, drop, refl, sym, ap, ◌∙◌, subst, arith, inl, inr}
use Rattle.std.proofs.lemmas.Bool.{cases_order}
use Rattle.std.proofs.lemmas.Nat.{row_fits}
use Rattle.std.specs.List.{All}
use Rattle.std.proofs.lemmas.List.{get_or_default, get_or-take, get_or-drop}
use Rattle.gs_gf256.specs.Field.{product}
use Rattle.gs_gf256.specs.Table.{times, table_at}
use Rattle.gs_gf256.proofs.FieldSums.{field_sum-same}
use Rattle.gs_rs.specs.GroupRows.{RowsMade, row_value}
use Rattle.gs_rs.specs.AbsentRows.{shard_weight, AreOthers, AreRestored}
use Rattle.gs_rs.specs.declared.shape.CodeShape.{CodeShape}
use Rattle.gs_rs.specs.Laws.{AreEnough}
use Rattle.gs_rs.proofs.RowWrites.{AreApart, row_sum}
use Rattle.gs_rs.proofs.Restoring.{restored_more}
use Rattle.gs_rs.proofs.Writes.{cut_length}

-- two shards that are not one
shards_apart : (a b len : ℕ) → a ≢ b → (a * len + len ≤ b * len) ⊎ (b * len + len ≤ a * len)
shards_apart a b len other = elim (cases_order a b) [
  | inl same ↦ absurd (other same)
  | inr (inl less) ↦ inl (row_fits a len b len less (omega arith))
  | inr (inr more) ↦ inr (row_fits b len a len more (omega arith))
]

-- the target rows are apart
pub targets_apart : (rows len : ℕ) (chosen targets : List ℕ) → length targets ≡ rows → AreOthers chosen targets
    → AreApart rows len (λ r. get_or targets r 0 * len)
targets_apart rows len chosen targets size are r s hr hs other =
    shards_apart (get_or targets r 0) (get_or targets s 0) len (are.distinct r s (omega (arith, size)) (omega (arith, size)) other)

-- another shard's byte is as before
pub other_stays : (rows len : ℕ) (targets : List ℕ) (value : ℕ → ℕ → ℕ) (made n k : ℕ) (old now : List ℕ)
    → RowsMade rows len (λ r. get_or targets r 0 * len) value 0 0 made old now
    → ((r : ℕ) → r < rows → n ≢ get_or targets r 0) → k < len → get_or now (n * len + k) 0 ≡ get_or old (n * len + k) 0
other_stays rows len targets value made n k old now so_far other hk =
    so_far.elsewhere (n * len + k) (λ r hr.
    elim (shards_apart n (get_or targets r 0) len (other r hr)) [ inl l ↦ inl (omega arith) | inr g ↦ inr (omega arith) ])

-- the sums are the same over shards that are
pub value_same : (len : ℕ) (numbers tables : List ℕ) (rows r k : ℕ) (old now : List ℕ)
    → ((i : ℕ) → i < length numbers → get_or now (get_or numbers i 0 * len + k) 0 ≡ get_or old (get_or numbers i 0 * len + k) 0)
    → row_value now len numbers tables rows r k ≡ row_value old len numbers tables rows r k
value_same len numbers tables rows r k old now same =
    field_sum-same _ _ (length numbers) (λ i h. ap (times tables (table_at rows i r)) (same i h))

-- A block of sums over the shards as they are is one over the shards as they were: no chosen shard has changed.
pub sums_before : (rows len : ℕ) (chosen targets tables : List ℕ) (value : ℕ → ℕ → ℕ) (made r at : ℕ) (old now block : List ℕ)
    → length targets ≡ rows → AreOthers chosen targets → at + 32 ≤ len
    → RowsMade rows len (λ r. get_or targets r 0 * len) value 0 0 made old now
    → ((j : ℕ) → j < 32 → get_or block j 0 ≡ row_value now len chosen tables rows r (at + j))
    → (j : ℕ) → j < 32 → get_or block j 0 ≡ row_value old len chosen tables rows r (at + j)
sums_before rows len chosen targets tables value made r at old now block size are within so_far sums j h =
    sums j h
    ∙ value_same len chosen tables rows r (at + j) old now (λ i hi.
    other_stays rows len targets value made (get_or chosen i 0) (at + j) old now so_far
    (λ s hs. are.not_chosen s i (omega (arith, size)) hi) (omega arith))

-- ---- a group of the numbers

-- so many of them, from one on
abbrev pub part : List ℕ → ℕ → ℕ → List ℕ
part numbers row rows = take ((row + rows) - row) (drop row numbers)

part_at : (numbers : List ℕ) (row rows r : ℕ) → r < rows → get_or (part numbers row rows) r 0 ≡ get_or numbers (row + r) 0
part_at numbers row rows r h = get_or-take ((row + rows) - row) (drop row numbers) r 0 (omega arith) ∙ get_or-drop row numbers r 0

pub part_apart : (chosen numbers : List ℕ) (row rows : ℕ) → row + rows ≤ length numbers → AreOthers chosen numbers
    → All (λ target. All (λ n. n ≢ target) chosen) (part numbers row rows)
part_apart chosen numbers row rows within are = λ k d hk i e hi same.
    let size : length (part numbers row rows) ≡ rows = cut_length row rows numbers within in
    are.not_chosen (row + k) i (omega (arith, size)) hi
    (get_or_default chosen i 0 e hi ∙ same ∙ get_or_default (part numbers row rows) k d 0 hk ∙ part_at numbers row rows k (omega (arith, size)))

-- a group of them is restored
pub group_restored : (code : CodeShape) (len row rows : ℕ) (chosen numbers tables before now after : List ℕ) → AreEnough code chosen
    → AreOthers chosen numbers → row + rows ≤ length numbers
    → ((r i x : ℕ) → r < length (part numbers row rows) → i < code.data → x < 256
    → times tables (table_at (length (part numbers row rows)) i r) x
    ≡ product (shard_weight code chosen (get_or (part numbers row rows) r 0) i) x)
    → ((j : ℕ) → get_or after j 0 < 256) → AreRestored code len chosen numbers row before now
    → RowsMade rows len (λ r. get_or (part numbers row rows) r 0 * len) (row_value now len chosen tables rows) 0 0 len now after
    → AreRestored code len chosen numbers (row + rows) before after
group_restored code len row rows chosen numbers tables before now after enough are within given bytes so_far made =
    let targets = part numbers row rows in
    let size : length targets ≡ rows = cut_length row rows numbers within in
    let at = λ (r : ℕ) (h : r < rows). part_at numbers row rows r h in
    let value = row_value now len chosen tables rows in
    let stays : (n k : ℕ) → ((r : ℕ) → r < rows → n ≢ get_or numbers (row + r) 0) → k < len → get_or after (n * len + k) 0 ≡ get_or now (n * len + k) 0
    = λ n k other hk. other_stays rows len targets value len n k now after made (λ r hr same. other r hr (same ∙ at r hr)) hk in
    let source : (i k : ℕ) → i < length chosen → k < len → get_or after (get_or chosen i 0 * len + k) 0 ≡ get_or now (get_or chosen i 0 * len + k) 0
    = λ i k hi hk. stays (get_or chosen i 0) k (λ r hr. are.not_chosen (row + r) i (omega arith) hi) hk in
    restored_more code len chosen numbers before now after row rows enough are within so_far
    (λ r k hr hk.
    let weights = shard_weight code chosen (get_or numbers (row + r) 0) in
    ap (λ n. get_or after (n * len + k) 0) (sym (at r hr))
    ∙ made.behind r k hr hk
    ∙ sym (value_same len chosen tables rows r k now after (λ i hi. source i k hi hk))
    ∙ row_sum code.data len k rows r tables after chosen (λ i. get_or chosen i 0) weights enough.count (λ i hi. refl)
    (λ i x hi hx.
    subst (λ n. times tables (table_at n i r) x ≡ product (weights i) x) size
    (given r i x (omega (arith, size)) hi hx ∙ ap (λ to. product (shard_weight code chosen to i) x) (at r hr))) bytes
    ∙ field_sum-same _ _ code.data (λ i hi. ap (product (weights i)) (source i k (omega (arith, enough.count)) hk)))
    stays
