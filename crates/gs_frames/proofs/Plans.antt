-- The blocks of a plan have all packets, and no more.
use Rattle.std.proofs.Common.{◌≡◌, ◌<◌, ◌≤◌, ◌+◌, ◌-◌, ◌*◌, ℕ, zero, suc, List, [], ◌∷◌, map, sum, refl, ap, ◌∙◌, arith, inl, inr}
use Rattle.std.specs.Prelude.{nat_lt, nat_le}
use Rattle.std.proofs.lemmas.Bool.{cases_Bool, cond-true, cond-false, and_parts, leb-true}
use Rattle.std.proofs.lemmas.Nat.{le-div}
use Rattle.gs_rtp.specs.Video.{parity_count}
use Rattle.gs_frames.specs.Image.{ceil_div, most_packets}
use Rattle.gs_frames.specs.Plan.{most_shards, most_blocks, most_bare, has_parity, block_count, parts, with_parity, without_parity, fec_plan}
use Rattle.gs_frames.proofs.Images.{parted, ceil_div-parted}

-- ---- the data shards of the blocks are the parts

data_of-with_parity : (percentage minimum : ℕ) (ds : List ℕ) → map (λ b. b.data_shards) (map (with_parity percentage minimum) ds) ≡ ds
data_of-with_parity percentage minimum [] = refl
data_of-with_parity percentage minimum (d ∷ ds) = elim (cases_Bool (nat_lt (parity_count d percentage) minimum)) [
  | inl few ↦ rw (few, data_of-with_parity percentage minimum ds) refl
  | inr many ↦ rw (many, data_of-with_parity percentage minimum ds) refl
]

data_of-without_parity : (ds : List ℕ) → map (λ b. b.data_shards) (map without_parity ds) ≡ ds
data_of-without_parity [] = refl
data_of-without_parity (d ∷ ds) = ap (λ (l : List ℕ). d ∷ l) (data_of-without_parity ds)

pub data_shards-are : (n percentage minimum : ℕ) → map (λ b. b.data_shards) (fec_plan n percentage minimum) ≡ parts n (block_count n percentage)
unfolding fec_plan
data_shards-are n percentage minimum = elim (cases_Bool (has_parity n percentage)) [
  | inl parity ↦
      ap (map (λ b. b.data_shards))
      (cond-true (has_parity n percentage) (map (with_parity percentage minimum) (parts n (block_count n percentage)))
      (map without_parity (parts n (block_count n percentage))) parity)
      ∙ data_of-with_parity percentage minimum (parts n (block_count n percentage))
  | inr bare ↦
      ap (map (λ b. b.data_shards))
      (cond-false (has_parity n percentage) (map (with_parity percentage minimum) (parts n (block_count n percentage)))
      (map without_parity (parts n (block_count n percentage))) bare)
      ∙ data_of-without_parity (parts n (block_count n percentage))
]

-- ---- the parts of a number into one to four

-- enough packets for each block to have some
parts-sum : (n b m : ℕ) → 4 ≤ m → (b - 1) * m < n → 1 ≤ b → b ≤ 4 → sum (parts n b) ≡ n
parts-sum n zero m some enough least most = absurd (omega arith)
parts-sum n (suc zero) m some enough least most = omega arith
parts-sum n (suc (suc zero)) m some enough least most = omega arith
parts-sum n (suc (suc (suc zero))) m some enough least most = omega arith
parts-sum n (suc (suc (suc (suc zero)))) m some enough least most = omega arith
parts-sum n (suc (suc (suc (suc (suc b))))) m some enough least most = absurd (omega arith)

-- blocks of at most m packets each
parts_of-sum : (n m : ℕ) → 1 ≤ n → 4 ≤ m → ceil_div n m ≤ 4 → sum (parts n (ceil_div n m)) ≡ n
parts_of-sum n m some large few =
    let p = parted n m some (omega arith) in
    let blocks : ceil_div n m ≡ p.whole + 1 = ceil_div-parted n m p in
    let last : 1 ≤ p.last = p.last_least in
    let full : (ceil_div n m - 1) * m ≡ p.whole * m =
    let same : ceil_div n m - 1 ≡ p.whole = omega (arith, blocks) in ap (λ (k : ℕ). k * m) same in
    parts-sum n (ceil_div n m) m large (omega (arith, full, p.sum)) (omega (arith, blocks)) few

-- blocks without parity are at most four
pub few_bare : (n : ℕ) → 1 ≤ n → n ≤ most_packets → ceil_div n most_bare ≤ 4
few_bare n some few = omega arith

pub plan_covers : (n percentage minimum : ℕ) → 1 ≤ n → n ≤ most_packets → percentage ≤ 100
    → sum (map (λ b. b.data_shards) (fec_plan n percentage minimum)) ≡ n
plan_covers n percentage minimum some few within =
    let large : 4 ≤ most_shards percentage = le-div 4 25500 (100 + percentage) (omega arith) (omega arith) in
    ap (λ (l : List ℕ). sum l) (data_shards-are n percentage minimum)
    ∙ elim (cases_Bool (has_parity n percentage)) [
      | inl parity ↦
          ap (λ (b : ℕ). sum (parts n b)) (cond-true (has_parity n percentage) (ceil_div n (most_shards percentage)) (ceil_div n most_bare) parity)
          ∙ parts_of-sum n (most_shards percentage) some large
          (leb-true _ _ (and_parts (nat_lt 0 percentage) (nat_le (ceil_div n (most_shards percentage)) most_blocks) parity).1)
      | inr bare ↦
          ap (λ (b : ℕ). sum (parts n b)) (cond-false (has_parity n percentage) (ceil_div n (most_shards percentage)) (ceil_div n most_bare) bare)
          ∙ parts_of-sum n most_bare some (omega arith) (few_bare n some few)
    ]
