-- The blocks of a plan are within the limits of a datagram's head.
use Rattle.std.proofs.Common.{◌≡◌, ◌<◌, ◌≤◌, ◌+◌, ◌-◌, ◌*◌, ◌/◌, ◌%◌, ℕ, zero, suc, List, length, map, refl, sym, ap, subst, ◌∙◌, arith, inl, inr}
use Rattle.std.specs.Prelude.{nat_lt, nat_le}
use Rattle.std.specs.List.{All}
use Rattle.std.proofs.lemmas.Bool.{cases_lt, cond-true, cond-false, cond_both, and_parts, ltb-true, leb-true}
use Rattle.std.proofs.lemmas.List.{length-map}
use Rattle.std.proofs.lemmas.List.Elements.{All-from_recursion, All-map, All-weaker}
use Rattle.std.proofs.lemmas.Nat.{le-div, div-add-mod', mod_below, mul-le}
use Rattle.gs_rtp.specs.Video.{parity_count}
use Rattle.gs_rtp.proofs.VideoHeads.{parity_count-zero}
use Rattle.gs_frames.specs.Image.{ceil_div, most_packets}
use Rattle.gs_frames.specs.Plan.{BlockPlan, most_shards, most_blocks, most_bare, has_parity, block_count, parts, with_parity, without_parity, fec_plan}
use Rattle.gs_frames.proofs.Images.{parted, ceil_div-parted}
use Rattle.gs_frames.proofs.Plans.{few_bare}

-- a block that a head can say: its percentage gives its number of parity shards
pub record IsWithinGrammar (plan : BlockPlan) : Type 0 where
  pub shards_least : 1 ≤ plan.data_shards
  pub shards_greatest : plan.data_shards ≤ 1023
  pub parity : plan.parity_shards ≡ parity_count plan.data_shards plan.percentage
  pub codable : 0 < plan.percentage → plan.data_shards + plan.parity_shards ≤ 255
  pub percentage_greatest : plan.percentage < 256

-- a block has fewer than 1,024 shards
pub shards-lt : (plan : BlockPlan) → IsWithinGrammar plan → plan.data_shards + plan.parity_shards < 1024
shards-lt plan h = elim (cases_lt 0 plan.percentage) [
  | inl coded ↦ let few : plan.data_shards + plan.parity_shards ≤ 255 = h.codable coded in omega arith
  | inr bare ↦
      let zero_is : plan.percentage ≡ 0 = omega arith in
      let none : plan.parity_shards ≡ 0 = h.parity ∙ ap (parity_count plan.data_shards) zero_is ∙ parity_count-zero plan.data_shards in
      let few : plan.data_shards ≤ 1023 = h.shards_greatest in
      omega arith
]

-- ---- with parity

-- two parity shards of at most 100 data shards, by their percentage
two_of : (d : ℕ) → 1 ≤ d → d ≤ 100 → (200 / d ≤ 200) × (2 ≡ parity_count d (200 / d))
two_of d some few =
    let q = 200 / d in
    let sum : q * d + 200 % d ≡ 200 = div-add-mod' 200 d in
    let rest : 200 % d < d = mod_below 200 d (omega arith) in
    let least : q * 1 ≤ q * d = mul-le q 1 q d (omega arith) some in
    let turned : d * q ≡ q * d = omega arith in
    (omega arith, let n : (d * q + 99) / 100 ≡ 2 = omega arith in sym n)

-- where the percentage gives fewer than the minimum
least_parity-within : (percentage minimum d : ℕ) → 1 ≤ percentage → minimum ≤ 2 → 1 ≤ d → parity_count d percentage < minimum
    → IsWithinGrammar (record { data_shards = d; parity_shards = minimum; percentage = 100 * minimum / d })
least_parity-within percentage minimum d least most some few =
    let more : d * 1 ≤ d * percentage = mul-le d 1 d percentage (omega arith) least in
    let two : 2 ≡ minimum = omega arith in
    let small : d ≤ 100 = omega arith in
    let parts = two_of d some small in
    let q : 200 / d ≡ 100 * minimum / d = ap (λ (m : ℕ). 100 * m / d) two in
    record {
      shards_least = some;
      shards_greatest = omega arith;
      parity = sym two ∙ parts.1 ∙ ap (parity_count d) q;
      codable = λ coded. omega arith;
      percentage_greatest = omega (arith, parts.0, q);
    }

-- as many as the percentage gives
percentage-within : (percentage d : ℕ) → percentage ≤ 100 → 1 ≤ d → d ≤ most_shards percentage
    → IsWithinGrammar (record { data_shards = d; parity_shards = parity_count d percentage; percentage = percentage })
percentage-within percentage d within some few =
    let sum : most_shards percentage * (100 + percentage) + 25500 % (100 + percentage) ≡ 25500 = div-add-mod' 25500 (100 + percentage) in
    let room : d * (100 + percentage) ≤ most_shards percentage * (100 + percentage) =
    mul-le d (100 + percentage) (most_shards percentage) (100 + percentage) few (omega arith) in
    let turned : d * (100 + percentage) ≡ 100 * d + d * percentage = omega arith in
    record {
      shards_least = some;
      shards_greatest = omega arith;
      parity = refl;
      codable = λ coded. omega arith;
      percentage_greatest = omega arith;
    }

-- a block with parity, either way
with_parity-within : (percentage minimum d : ℕ) → 1 ≤ percentage → percentage ≤ 100 → minimum ≤ 2 → 1 ≤ d → d ≤ most_shards percentage
    → IsWithinGrammar (with_parity percentage minimum d)
with_parity-within percentage minimum d least within most some few =
    cond_both (nat_lt (parity_count d percentage) minimum)
    (record { data_shards = d; parity_shards = minimum; percentage = 100 * minimum / d })
    (record { data_shards = d; parity_shards = parity_count d percentage; percentage = percentage })
    IsWithinGrammar
    (λ below. least_parity-within percentage minimum d least most some (ltb-true (parity_count d percentage) minimum below))
    (λ enough. percentage-within percentage d within some few)

-- a block without parity
without_parity-within : (d : ℕ) → 1 ≤ d → d ≤ 1023 → IsWithinGrammar (without_parity d)
without_parity-within d some few = record {
  shards_least = some;
  shards_greatest = few;
  parity = sym (parity_count-zero d);
  codable = λ coded. absurd (omega arith);
  percentage_greatest = omega arith;
}

-- ---- the parts

-- numbers from 1 up to m, one to four of them
pub record AreParts (m : ℕ) (ds : List ℕ) : Type 0 where
  pub each : All (λ d. (1 ≤ d) × (d ≤ m)) ds
  pub some : 1 ≤ length ds
  pub few : length ds ≤ 4

-- each number of parts, where the largest may be m
parts_of : (n b m : ℕ) → 127 ≤ m → (b - 1) * m < n → n ≤ b * m → 1 ≤ b → b ≤ 4 → AreParts m (parts n b)
parts_of n zero m large above below least most = absurd (omega arith)
parts_of n (suc zero) m large above below least most = record {
  each = All-from_recursion (λ d. (1 ≤ d) × (d ≤ m)) (parts n 1) ((omega arith, omega arith), tt);
  some = omega arith;
  few = omega arith;
}
parts_of n (suc (suc zero)) m large above below least most = record {
  each = All-from_recursion (λ d. (1 ≤ d) × (d ≤ m)) (parts n 2) ((omega arith, omega arith), ((omega arith, omega arith), tt));
  some = omega arith;
  few = omega arith;
}
parts_of n (suc (suc (suc zero))) m large above below least most = record {
  each = All-from_recursion (λ d. (1 ≤ d) × (d ≤ m)) (parts n 3) ((omega arith, omega arith), ((omega arith, omega arith), ((omega arith, omega arith), tt)));
  some = omega arith;
  few = omega arith;
}
parts_of n (suc (suc (suc (suc zero)))) m large above below least most = record {
  each = All-from_recursion (λ d. (1 ≤ d) × (d ≤ m)) (parts n 4)
      ((omega arith, omega arith), ((omega arith, omega arith), ((omega arith, omega arith), ((omega arith, omega arith), tt))));
  some = omega arith;
  few = omega arith;
}
parts_of n (suc (suc (suc (suc (suc b))))) m large above below least most = absurd (omega arith)

-- the parts of n where each is at most m
parts-within : (n m : ℕ) → 1 ≤ n → 127 ≤ m → ceil_div n m ≤ 4 → AreParts m (parts n (ceil_div n m))
parts-within n m some large few =
    let p = parted n m some (omega arith) in
    let blocks : ceil_div n m ≡ p.whole + 1 = ceil_div-parted n m p in
    let last : 1 ≤ p.last = p.last_least in
    let last_greatest : p.last ≤ m = p.last_greatest in
    let Before : ℕ → Type 0 = λ b. (b - 1) * m < n in
    let Within : ℕ → Type 0 = λ b. n ≤ b * m in
    let same : p.whole + 1 - 1 ≡ p.whole = omega arith in
    let full : (p.whole + 1 - 1) * m ≡ p.whole * m = ap (λ (k : ℕ). k * m) same in
    let before : (p.whole + 1 - 1) * m < n = omega (arith, p.sum, full) in
    let within : n ≤ (p.whole + 1) * m = omega (arith, p.sum) in
    parts_of n (ceil_div n m) m large (subst Before (sym blocks) before) (subst Within (sym blocks) within) (omega (arith, blocks)) few

-- ---- the plan

-- blocks that a head can say, one to four of them
pub record ArePlans (plans : List BlockPlan) : Type 0 where
  pub each : All IsWithinGrammar plans
  pub some : 1 ≤ length plans
  pub few : length plans ≤ 4

-- a plan of each part
plans_of : (m : ℕ) (ds : List ℕ) (plan : ℕ → BlockPlan) → AreParts m ds → ((d : ℕ) → (1 ≤ d) × (d ≤ m) → IsWithinGrammar (plan d)) → ArePlans (map plan ds)
plans_of m ds plan parts_are each =
    let size = length-map ds plan in
    let some : 1 ≤ length ds = parts_are.some in
    let few : length ds ≤ 4 = parts_are.few in
    record {
      each = All-map IsWithinGrammar plan ds (All-weaker (λ d. (1 ≤ d) × (d ≤ m)) (λ d. IsWithinGrammar (plan d)) each ds parts_are.each);
      some = omega arith;
      few = omega arith;
    }

-- any plan of the packets of a frame
pub fec_plan-within : (n percentage minimum : ℕ) → 1 ≤ n → n ≤ most_packets → percentage ≤ 100 → minimum ≤ 2 → ArePlans (fec_plan n percentage minimum)
unfolding fec_plan
fec_plan-within n percentage minimum some few within most =
    cond_both (has_parity n percentage)
    (map (with_parity percentage minimum) (parts n (block_count n percentage)))
    (map without_parity (parts n (block_count n percentage)))
    ArePlans
    (λ parity.
    let tests = and_parts (nat_lt 0 percentage) (nat_le (ceil_div n (most_shards percentage)) most_blocks) parity in
    let least : 1 ≤ percentage = ltb-true 0 percentage tests.0 in
    let large : 127 ≤ most_shards percentage = le-div 127 25500 (100 + percentage) (omega arith) (omega arith) in
    let blocks : block_count n percentage ≡ ceil_div n (most_shards percentage) =
    cond-true (has_parity n percentage) (ceil_div n (most_shards percentage)) (ceil_div n most_bare) parity in
    let Planned : ℕ → Type 0 = λ b. ArePlans (map (with_parity percentage minimum) (parts n b)) in
    subst Planned (sym blocks)
    (plans_of (most_shards percentage) (parts n (ceil_div n (most_shards percentage))) (with_parity percentage minimum)
    (parts-within n (most_shards percentage) some large (leb-true (ceil_div n (most_shards percentage)) most_blocks tests.1))
    (λ d bounds. with_parity-within percentage minimum d least within most bounds.0 bounds.1)))
    (λ bare.
    let blocks : block_count n percentage ≡ ceil_div n most_bare =
    cond-false (has_parity n percentage) (ceil_div n (most_shards percentage)) (ceil_div n most_bare) bare in
    let Planned : ℕ → Type 0 = λ b. ArePlans (map without_parity (parts n b)) in
    subst Planned (sym blocks)
    (plans_of most_bare (parts n (ceil_div n most_bare)) without_parity (parts-within n most_bare some (omega arith) (few_bare n some few))
    (λ d bounds. without_parity-within d bounds.0 bounds.1)))
