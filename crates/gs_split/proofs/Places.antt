-- Where the blocks of a plan stand.
use Rattle.std.proofs.Common.{◌≡◌, ◌<◌, ◌≤◌, ◌+◌, ◌*◌, ℕ, zero, suc, List, [], ◌∷◌, length, Some, sym, ap, ◌∙◌, arith, inl, inr}
use Rattle.std.specs.List.{slice_get}
use Rattle.std.proofs.lemmas.Bool.{cases_lt}
use Rattle.std.proofs.lemmas.List.FromFn.{length-map-range_with_len, get_or-map-range_with_len}
use Rattle.std.proofs.lemmas.Option.{slice_get-get_or}
use Rattle.gs_frames.specs.Plan.{BlockPlan, without_parity}
use Rattle.gs_split.specs.declared.plan.Plan.{Plan}
use Rattle.gs_split.specs.declared.placed.PlacedBlock.{PlacedBlock}
use Rattle.gs_split.specs.Plans.{block_at, blocks_of}
use Rattle.gs_split.specs.Places.{packets_before, datagrams_before, placed_plan, block_end, IsPlaced}

-- ---- what stands before the next block

pub packets_before-next : (b : ℕ) (plans : List BlockPlan) (plan : BlockPlan) → slice_get plans b ≡ Some plan
    → packets_before (suc b) plans ≡ packets_before b plans + plan.data_shards
packets_before-next b [] plan e = cc
packets_before-next zero (first ∷ plans) plan e =
    let same : first ≡ plan = cc in
    let shards : first.data_shards ≡ plan.data_shards = ap (λ (p : BlockPlan). p.data_shards) same in
    omega (arith, shards)
packets_before-next (suc b) (first ∷ plans) plan e = omega (arith, packets_before-next b plans plan e)

pub datagrams_before-next : (b : ℕ) (plans : List BlockPlan) (plan : BlockPlan) → slice_get plans b ≡ Some plan
    → datagrams_before (suc b) plans ≡ datagrams_before b plans + plan.data_shards + plan.parity_shards
datagrams_before-next b [] plan e = cc
datagrams_before-next zero (first ∷ plans) plan e =
    let same : first ≡ plan = cc in
    let shards : first.data_shards ≡ plan.data_shards = ap (λ (p : BlockPlan). p.data_shards) same in
    let parity : first.parity_shards ≡ plan.parity_shards = ap (λ (p : BlockPlan). p.parity_shards) same in
    omega (arith, shards, parity)
datagrams_before-next (suc b) (first ∷ plans) plan e = omega (arith, datagrams_before-next b plans plan e)

-- ---- the blocks of a plan

pub length-blocks_of : (p : Plan) → length (blocks_of p) ≡ p.blocks
length-blocks_of p = length-map-range_with_len (block_at p) 0 p.blocks

pub block_of-plan : (p : Plan) (b : ℕ) → b < p.blocks → slice_get (blocks_of p) b ≡ Some (block_at p b)
block_of-plan p b within =
    slice_get-get_or (blocks_of p) b (without_parity 0) (omega (arith, length-blocks_of p))
    ∙ ap (λ (x : BlockPlan). Some x) (get_or-map-range_with_len (block_at p) 0 p.blocks b b (without_parity 0) within (omega arith))

-- the first one
pub first-placed : (p : Plan) (r : PlacedBlock) → 1 ≤ p.blocks → r.number ≡ 0 → placed_plan r ≡ block_at p 0
    → r.first_packet ≡ 0 → r.first_datagram ≡ 0 → IsPlaced (blocks_of p) r
first-placed p r some number plan packet datagram = record {
  here = ap (slice_get (blocks_of p)) number ∙ block_of-plan p 0 (omega arith) ∙ ap (λ (x : BlockPlan). Some x) (sym plan);
  packets = packet ∙ ap (λ (b : ℕ). packets_before b (blocks_of p)) (sym number);
  datagrams = datagram ∙ ap (λ (b : ℕ). datagrams_before b (blocks_of p)) (sym number);
  few_packets = omega arith;
  few_datagrams = omega arith;
}

-- the one behind a block
pub next-placed : (p : Plan) (b r : PlacedBlock) → IsPlaced (blocks_of p) b → b.number + 1 < p.blocks → r.number ≡ b.number + 1
    → placed_plan r ≡ block_at p (b.number + 1) → r.first_packet ≡ b.first_packet + b.shards → r.first_datagram ≡ block_end b
    → b.shards ≤ 65535 → b.parity ≤ 65535 → IsPlaced (blocks_of p) r
next-placed p b r placed within number plan packet datagram few few_parity =
    let plans = blocks_of p in
    let behind : r.number ≡ suc b.number = omega arith in
    let packets : b.first_packet ≡ packets_before b.number plans = placed.packets in
    let datagrams : b.first_datagram ≡ datagrams_before b.number plans = placed.datagrams in
    let few_packets : b.first_packet ≤ b.number * 65535 = placed.few_packets in
    let few_datagrams : b.first_datagram ≤ b.number * 131070 = placed.few_datagrams in
    record {
      here = ap (slice_get plans) number ∙ block_of-plan p (b.number + 1) within ∙ ap (λ (x : BlockPlan). Some x) (sym plan);
      packets =
          let sum : r.first_packet ≡ packets_before (suc b.number) plans =
          omega (arith, packets_before-next b.number plans (placed_plan b) placed.here) in
          sum ∙ ap (λ (n : ℕ). packets_before n plans) (sym behind);
      datagrams =
          let sum : r.first_datagram ≡ datagrams_before (suc b.number) plans =
          omega (arith, datagrams_before-next b.number plans (placed_plan b) placed.here) in
          sum ∙ ap (λ (n : ℕ). datagrams_before n plans) (sym behind);
      few_packets = omega arith;
      few_datagrams = omega arith;
    }

-- its end is where the next one begins
pub end-is : (plans : List BlockPlan) (b : PlacedBlock) → IsPlaced plans b → block_end b ≡ datagrams_before (suc b.number) plans
end-is plans b placed =
    let datagrams : b.first_datagram ≡ datagrams_before b.number plans = placed.datagrams in
    omega (arith, datagrams_before-next b.number plans (placed_plan b) placed.here)

-- where a datagram stands behind it, it isn't the last one
pub more-blocks : (plans : List BlockPlan) (b : PlacedBlock) (k n : ℕ) → IsPlaced plans b → b.number < n → block_end b ≤ k
    → k < datagrams_before n plans → b.number + 1 < n
more-blocks plans b k n placed within end below = elim (cases_lt (b.number + 1) n) [
  | inl more ↦ more
  | inr last ↦
      let n_is : n ≡ suc b.number = omega arith in
      let total : datagrams_before n plans ≡ block_end b = ap (λ (m : ℕ). datagrams_before m plans) n_is ∙ sym (end-is plans b placed) in
      absurd (omega (arith, total))
]
