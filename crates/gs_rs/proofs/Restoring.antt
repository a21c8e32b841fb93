-- Absent data shards by weighted sums of the chosen ones.
use Rattle.std.proofs.Common.{◌≡◌, ◌≢◌, ℕ, ◌+◌, ◌-◌, ◌*◌, ◌<◌, ◌≤◌, List, Bool, length, get_or, map, sym, ap, ◌∙◌, subst, refl, bit_xor, arith, inl, inr}
use Rattle.std.specs.List.{All}
use Rattle.std.proofs.lemmas.Bool.{cases_lt}
use Rattle.std.proofs.lemmas.List.{length-map, get_or_default}
use Rattle.std.proofs.lemmas.Nat.{row_fits}
use Rattle.gs_gf256.specs.Field.{IsByte, product, quotient, field_sum}
use Rattle.gs_gf256.proofs.FieldLemmas.{IsByte-xor, IsByte-product, xor-ne-zero}
use Rattle.gs_gf256.proofs.FieldSums.{field_sum-same}
use Rattle.gs_poly.specs.Polynomial.{weight, ArePoints}
use Rattle.gs_poly.proofs.Differences.{IsByte-weight}
use Rattle.gs_rs.specs.declared.shape.CodeShape.{CodeShape}
use Rattle.gs_rs.specs.Shape.{IsCode, shard_count, point, denominator, differences}
use Rattle.gs_rs.specs.Codeword.{IsBlock, column, shard_of}
use Rattle.gs_rs.specs.Restore.{IsPresent, RestoresAbsent, KeepsOthers}
use Rattle.gs_rs.specs.Laws.{AreEnough}
use Rattle.gs_rs.specs.AbsentRows.{shard_weight, AreAllAbsent, AreOthers, AreRestored}
use Rattle.gs_rs.proofs.Algebra.{weight_from_factors, IsByte-quotient}
use Rattle.gs_rs.proofs.Differences.{IsByte-differences, differences-ne-zero, weight_is}
use Rattle.gs_rs.proofs.Points.{IsByte-point, ArePoints-map, IsByte-denominator, denominator-ne-zero}
use Rattle.gs_rs.proofs.Codewords.{IsWeight, weighted}
use Rattle.gs_rs.proofs.Rows.{not_among}
use Rattle.gs_rs.proofs.Blocks.{byte_at, column_at, bytes_of_same_shard, same_shard, block_is_columns}

-- the chosen shards' points are bytes
pub point_bytes : (code : CodeShape) (chosen points : List ℕ) → points ≡ map (point code) chosen → IsCode code → AreEnough code chosen → All IsByte points
point_bytes code chosen points same is enough = subst (All IsByte) (sym same) (ArePoints-map code chosen is enough).bytes

-- the weights of the definition are weights
shard_weight_is : (code : CodeShape) (chosen : List ℕ) (to i : ℕ) → IsCode code → AreEnough code chosen → to < shard_count code
    → All (λ n. n ≢ to) chosen → i < code.data → IsWeight code (map (point code) chosen) i (point code to) (shard_weight code chosen to i)
shard_weight_is code chosen to i is enough within others i_in =
    let points = map (point code) chosen in
    let apart = not_among code chosen to is enough within others in
    let x = point code to in
    let p = get_or points i 0 in
    let points_are : ArePoints points = ArePoints-map code chosen is enough in
    let in_points : i < length points = omega (arith, length-map chosen (point code), enough.count) in
    let hx : IsByte x = IsByte-point code is to within in
    let hp : IsByte p = points_are.bytes i 0 in_points in
    let f = differences points x in
    let w = denominator code x in
    let k = denominator code p in
    let b = differences points p in
    let e = bit_xor x p in
    let hf : IsByte f = IsByte-differences points x points_are.bytes hx in
    let hk : IsByte k = IsByte-denominator code is p hp in
    record {
      byte = IsByte-quotient (product (quotient f w) (quotient k b)) e
          (IsByte-product (quotient f w) (quotient k b) (IsByte-quotient f w hf) (IsByte-quotient k b hk));
      scaled = weight_from_factors f w k b e (weight points i x) hf (IsByte-denominator code is x hx) hk
          (IsByte-differences points p points_are.bytes hp) (IsByte-xor x p hx hp) (IsByte-weight points i points_are in_points x hx)
          (denominator-ne-zero code is x hx) (differences-ne-zero points p points_are.bytes hp)
          (xor-ne-zero x p (λ same. apart i 0 in_points (sym same)))
          (weight_is points i x points_are hx apart in_points);
    }

pub numbers_fit : (code : CodeShape) (len : ℕ) (numbers shards : List ℕ) → AreEnough code numbers → length shards ≡ shard_count code * len
    → All (λ n. n * len + len ≤ length shards) numbers
numbers_fit code len numbers shards enough size = λ i d h.
    let fits = row_fits (get_or numbers i d) len (shard_count code) len (enough.in_range i d h) (omega arith) in
    omega arith

-- the weighted sum of the chosen shards of a block is its byte
sum_is_byte : (code : CodeShape) (len : ℕ) (chosen before block : List ℕ) (to k : ℕ) → IsCode code → AreEnough code chosen
    → to < shard_count code → All (λ n. n ≢ to) chosen → IsBlock code len block
    → All (λ n. shard_of len before n ≡ shard_of len block n) chosen → k < len
    → field_sum (λ i. product (shard_weight code chosen to i) (byte_at len before k (get_or chosen i 0))) code.data ≡ byte_at len block k to
sum_is_byte code len chosen before block to k is enough within others block_is same hk =
    let n = shard_count code in
    let words = (block_is_columns code len block is).0 block_is in
    let source : (i : ℕ) → i < code.data → byte_at len before k (get_or chosen i 0) ≡ get_or (column n len block k) (get_or chosen i 0) 0 = λ i hi.
    let in_i : i < length chosen = omega (arith, enough.count) in
    bytes_of_same_shard len before block (get_or chosen i 0) k (same i 0 in_i) hk
    ∙ sym (column_at n len block k (get_or chosen i 0) 0 (enough.in_range i 0 in_i)) in
    field_sum-same _ _ code.data (λ i hi. ap (product (shard_weight code chosen to i)) (source i hi))
    ∙ sym (weighted code chosen (column n len block k) (shard_weight code chosen to) to is enough (words.columns k hk) within
    (λ i hi. shard_weight_is code chosen to i is enough within others hi))
    ∙ column_at n len block k to 0 within

-- ---- the absent shards' numbers

pub absent_are_data : (code : CodeShape) (present : List Bool) (numbers : List ℕ) → AreAllAbsent present code.data (length numbers) numbers
    → All (λ n. n < code.data) numbers
absent_are_data code present numbers found = λ r d h.
    subst (λ n. n < code.data) (get_or_default numbers r 0 d h) (found.absent r h).0

pub absent_are_others : (limit : ℕ) (present : List Bool) (chosen numbers : List ℕ) → AreAllAbsent present limit (length numbers) numbers
    → All (IsPresent present) chosen → AreOthers chosen numbers
absent_are_others limit present chosen numbers found here = record {
  distinct = λ r s hr hs other same. elim (cases_lt r s) [
    | inl less ↦ let rises = found.in_order r s less hs in omega arith
    | inr more ↦ let rises = found.in_order s r (omega arith) hr in omega arith
  ];
  not_chosen = λ r i hr hi same. (found.absent r hr).1 (subst (IsPresent present) same (here i 0 hi));
}

pub others_than : (chosen numbers : List ℕ) (r : ℕ) → AreOthers chosen numbers → r < length numbers → All (λ n. n ≢ get_or numbers r 0) chosen
others_than chosen numbers r are hr = λ i d hi same. are.not_chosen r i hr hi (get_or_default chosen i 0 d hi ∙ same)

-- ---- the restored shards

pub restored_none : (code : CodeShape) (len : ℕ) (chosen numbers before : List ℕ) → AreRestored code len chosen numbers 0 before before
restored_none code len chosen numbers before = record {
  sums = λ r k below hk. absurd (omega arith);
  others = λ n k which hk. refl;
}

-- more of them, from those that are restored
pub restored_more : (code : CodeShape) (len : ℕ) (chosen numbers before now after : List ℕ) (row rows : ℕ) → AreEnough code chosen
    → AreOthers chosen numbers → row + rows ≤ length numbers → AreRestored code len chosen numbers row before now
    → ((r k : ℕ) → r < rows → k < len → byte_at len after k (get_or numbers (row + r) 0)
    ≡ field_sum (λ i. product (shard_weight code chosen (get_or numbers (row + r) 0) i) (byte_at len now k (get_or chosen i 0))) code.data)
    → ((n k : ℕ) → ((r : ℕ) → r < rows → n ≢ get_or numbers (row + r) 0) → k < len → byte_at len after k n ≡ byte_at len now k n)
    → AreRestored code len chosen numbers (row + rows) before after
restored_more code len chosen numbers before now after row rows enough are within so_far sums kept =
    let source : (i k : ℕ) → i < code.data → k < len → byte_at len now k (get_or chosen i 0) ≡ byte_at len before k (get_or chosen i 0) = λ i k hi hk.
    so_far.others (get_or chosen i 0) k (λ r hr. are.not_chosen r i (omega arith) (omega (arith, enough.count))) hk in
    record {
      sums = λ r k below hk. elim (cases_lt r row) [
        | inl early ↦ kept (get_or numbers r 0) k (λ s hs. are.distinct r (row + s) (omega arith) (omega arith) (omega arith)) hk ∙ so_far.sums r k early hk
        | inr late ↦
            let s = r - row in
            let this : row + s ≡ r = omega arith in
            subst (λ q. byte_at len after k (get_or numbers q 0)
            ≡ field_sum (λ i. product (shard_weight code chosen (get_or numbers q 0) i) (byte_at len before k (get_or chosen i 0))) code.data) this
            (sums s k (omega arith) hk
            ∙ field_sum-same _ _ code.data (λ i hi. ap (product (shard_weight code chosen (get_or numbers (row + s) 0) i)) (source i k hi hk)))
      ];
      others = λ n k which hk.
          kept n k (λ r hr. which (row + r) (omega arith)) hk ∙ so_far.others n k (λ r hr. which r (omega arith)) hk;
    }

-- one more, by a row of weights
pub restored_one : (code : CodeShape) (len : ℕ) (chosen numbers weights before now after : List ℕ) (row : ℕ) → AreEnough code chosen
    → AreOthers chosen numbers → row < length numbers → AreRestored code len chosen numbers row before now
    → ((i : ℕ) → i < code.data → get_or weights i 0 ≡ shard_weight code chosen (get_or numbers row 0) i)
    → ((k : ℕ) → k < len → byte_at len after k (get_or numbers row 0)
    ≡ field_sum (λ i. product (get_or weights i 0) (byte_at len now k (get_or chosen i 0))) (length chosen))
    → ((n k : ℕ) → n ≢ get_or numbers row 0 → k < len → byte_at len after k n ≡ byte_at len now k n)
    → AreRestored code len chosen numbers (row + 1) before after
restored_one code len chosen numbers weights before now after row enough are within so_far given sums kept =
    restored_more code len chosen numbers before now after row 1 enough are (omega arith) so_far
    (λ r k hr hk.
    subst (λ q. byte_at len after k (get_or numbers q 0)
    ≡ field_sum (λ i. product (shard_weight code chosen (get_or numbers q 0) i) (byte_at len now k (get_or chosen i 0))) code.data)
    (let e : row ≡ row + r = omega arith in e)
    (sums k hk
    ∙ ap (field_sum (λ i. product (get_or weights i 0) (byte_at len now k (get_or chosen i 0)))) enough.count
    ∙ field_sum-same _ _ code.data (λ i hi. ap (λ w. product w (byte_at len now k (get_or chosen i 0))) (given i hi))))
    (λ n k which hk. kept n k (λ same. which 0 (omega arith) (same ∙ ap (λ q. get_or numbers q 0) (let e : row ≡ row + 0 = omega arith in e))) hk)

pub restores_absent : (code : CodeShape) (len : ℕ) (present : List Bool) (chosen numbers before after : List ℕ) → IsCode code → AreEnough code chosen
    → All (IsPresent present) chosen → AreAllAbsent present code.data (length numbers) numbers → length after ≡ shard_count code * len
    → AreRestored code len chosen numbers (length numbers) before after → RestoresAbsent code len present chosen before after
restores_absent code len present chosen numbers before after is enough here found size all = λ block block_is same to within gone.
    let at = found.whole to within gone in
    let r = at.0 in
    let this : get_or numbers r 0 ≡ to = at.2 in
    let others = others_than chosen numbers r (absent_are_others code.data present chosen numbers found here) at.1 in
    same_shard (shard_count code) len after block to size block_is.size (omega arith) (λ k hk.
    subst (λ n. byte_at len after k n ≡ byte_at len block k n) this
    (all.sums r k at.1 hk
    ∙ sum_is_byte code len chosen before block (get_or numbers r 0) k is enough (omega (arith, this)) others block_is same hk))

pub keeps_others : (code : CodeShape) (len : ℕ) (present : List Bool) (chosen numbers before after : List ℕ)
    → AreAllAbsent present code.data (length numbers) numbers
    → length before ≡ shard_count code * len → length after ≡ shard_count code * len
    → AreRestored code len chosen numbers (length numbers) before after → KeepsOthers code len present before after
keeps_others code len present chosen numbers before after found size_before size_after all = λ n within which.
    same_shard (shard_count code) len after before n size_after size_before within (λ k hk.
    all.others n k (λ r hr same. elim which [
      | inl p ↦ (found.absent r hr).1 (subst (IsPresent present) same p)
      | inr above ↦ let below = (found.absent r hr).0 in omega arith
    ]) hk)
