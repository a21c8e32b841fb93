-- A frame with its plan, and what holds of each of its blocks.
use Rattle.std.proofs.Common.{◌≡◌, ◌<◌, ◌≤◌, ◌+◌, ◌*◌, ◌/◌, ℕ, zero, suc, true, false, List, [], ◌∷◌, length, map, Some, refl, sym, ap, ◌∙◌, subst, arith}
use Rattle.std.specs.Prelude.{nat_lt, nat_le}
use Rattle.std.specs.List.{All, slice_get}
use Rattle.std.proofs.lemmas.Bool.{cond-true, cond-false, cond_both, and_parts, ltb-true}
use Rattle.std.proofs.lemmas.List.Elements.{All-head, All-tail, All-map, All-weaker}
use Rattle.std.proofs.lemmas.Nat.{le-div, mul-le}
use Rattle.std.proofs.lemmas.Option.{get_or_from_slice_get, slice_get_within}
use Rattle.gs_rtp.specs.declared.settings.Settings.{Settings}
use Rattle.gs_rtp.specs.Stream.{StreamSettings, numbers_of}
use Rattle.gs_rtp.specs.Video.{parity_count}
use Rattle.gs_frames.specs.Image.{ceil_div, most_packets, packets}
use Rattle.gs_frames.specs.Plan.{BlockPlan, most_shards, most_blocks, has_parity, block_count, parts, with_parity, without_parity, fec_plan}
use Rattle.gs_frames.specs.Shards.{payload_of}
use Rattle.gs_frames.proofs.FramesReceived.{packets-within, data_total, data_total-cons}
use Rattle.gs_frames.proofs.Plans.{plan_covers}
use Rattle.gs_frames.proofs.PlanLimits.{IsWithinGrammar, ArePlans, fec_plan-within}
use Rattle.gs_split.specs.declared.frame.LoadedFrame.{LoadedFrame}
use Rattle.gs_split.specs.declared.plan.Plan.{Plan}
use Rattle.gs_split.specs.declared.placed.PlacedBlock.{PlacedBlock}
use Rattle.gs_split.specs.Plans.{blocks_of}
use Rattle.gs_split.specs.Places.{packets_before, datagrams_before, placed_plan, block_end, IsPlaced}
use Rattle.gs_split.specs.Splitting.{has_parity_at}
use Rattle.gs_split.specs.Loaded.{IsPlanned, plans_at}
use Rattle.gs_split.proofs.Blocks.{some-each}
use Rattle.gs_split.proofs.Places.{length-blocks_of, end-is}

-- ---- settings

pub record HasLimits (s : StreamSettings) : Type 0 where
  pub packet_least : 1024 ≤ s.packet
  pub packet_greatest : s.packet ≤ 1440
  pub percentage_greatest : s.percentage ≤ 100
  pub minimum_greatest : s.minimum ≤ 2

pub limits_of : (settings : Settings) → HasLimits (numbers_of settings)
limits_of settings = record {
  packet_least = settings.packet_least;
  packet_greatest = settings.packet_greatest;
  percentage_greatest = settings.percentage_greatest;
  minimum_greatest = settings.minimum_greatest;
}

-- ---- a plan's blocks

-- what holds of all blocks holds of each
pub of_all : (P : BlockPlan → Type 0) (plans : List BlockPlan) (b : ℕ) (plan : BlockPlan) → All P plans → slice_get plans b ≡ Some plan → P plan
of_all P plans b plan all e = subst P (get_or_from_slice_get plans b plan plan e) (all b plan (slice_get_within plans b plan e))

-- the packets up to the end of a block are some of all
packets_before-within : (b : ℕ) (plans : List BlockPlan) (plan : BlockPlan) → slice_get plans b ≡ Some plan
    → packets_before b plans + plan.data_shards ≤ data_total plans
packets_before-within b [] plan e = cc
packets_before-within zero (first ∷ plans) plan e =
    let same : first ≡ plan = cc in
    let shards : first.data_shards ≡ plan.data_shards = ap (λ (p : BlockPlan). p.data_shards) same in
    omega (arith, shards, data_total-cons first plans)
packets_before-within (suc b) (first ∷ plans) plan e = omega (arith, packets_before-within b plans plan e, data_total-cons first plans)

-- the datagrams before a block are no more than those before a later one
pub datagrams_before-le : (m n : ℕ) (plans : List BlockPlan) → m ≤ n → datagrams_before m plans ≤ datagrams_before n plans
datagrams_before-le zero n plans less = omega arith
datagrams_before-le (suc m) zero plans less = absurd (omega arith)
datagrams_before-le (suc m) (suc n) [] less = omega arith
datagrams_before-le (suc m) (suc n) (plan ∷ plans) less = omega (arith, datagrams_before-le m n plans (omega arith))

-- blocks of at most so many shards
pub datagrams_before-most : (most n : ℕ) (plans : List BlockPlan) → All (λ b. b.data_shards + b.parity_shards ≤ most) plans
    → datagrams_before n plans ≤ n * most
datagrams_before-most most zero plans few = omega arith
datagrams_before-most most (suc n) [] few = omega arith
datagrams_before-most most (suc n) (plan ∷ plans) few =
    let first : plan.data_shards + plan.parity_shards ≤ most = All-head (λ b. b.data_shards + b.parity_shards ≤ most) plan plans few in
    let rest = datagrams_before-most most n plans (All-tail (λ b. b.data_shards + b.parity_shards ≤ most) plan plans few) in
    omega (arith, rest)

-- without parity no block has any
bare-blocks : (n percentage minimum : ℕ) → has_parity n percentage ≡ false → All (λ b. b.parity_shards ≡ 0) (fec_plan n percentage minimum)
unfolding fec_plan
bare-blocks n percentage minimum bare =
    subst (λ l. All (λ b. b.parity_shards ≡ 0) l)
    (sym (cond-false (has_parity n percentage) (map (with_parity percentage minimum) (parts n (block_count n percentage)))
    (map without_parity (parts n (block_count n percentage))) bare))
    (All-map (λ b. b.parity_shards ≡ 0) without_parity (parts n (block_count n percentage)) (λ i d h. refl))

-- with parity each block says a percentage
positive : (percentage minimum d : ℕ) → 1 ≤ percentage → minimum ≤ 2 → 1 ≤ d → 0 < (with_parity percentage minimum d).percentage
positive percentage minimum d least most some =
    let least_plan : BlockPlan = record { data_shards = d; parity_shards = minimum; percentage = 100 * minimum / d } in
    let full_plan : BlockPlan = record { data_shards = d; parity_shards = parity_count d percentage; percentage = percentage } in
    cond_both (nat_lt (parity_count d percentage) minimum) least_plan full_plan
    (λ b. 0 < b.percentage)
    (λ below.
    let few : parity_count d percentage < minimum = ltb-true (parity_count d percentage) minimum below in
    let more : d * 1 ≤ d * percentage = mul-le d 1 d percentage (omega arith) least in
    let small : d ≤ 100 = omega arith in
    let one : 1 ≤ 100 * minimum / d = le-div 1 (100 * minimum) d (omega arith) (omega arith) in
    omega (arith, one))
    (λ enough. omega arith)

positive-blocks : (n percentage minimum : ℕ) → 1 ≤ n → n ≤ most_packets → percentage ≤ 100 → minimum ≤ 2 → has_parity n percentage ≡ true
    → All (λ b. 0 < b.percentage) (fec_plan n percentage minimum)
unfolding fec_plan
positive-blocks n percentage minimum some few within most parity =
    let ds = parts n (block_count n percentage) in
    let tests = and_parts (nat_lt 0 percentage) (nat_le (ceil_div n (most_shards percentage)) most_blocks) parity in
    subst (λ l. All (λ b. 0 < b.percentage) l)
    (sym (cond-true (has_parity n percentage) (map (with_parity percentage minimum) ds) (map without_parity ds) parity))
    (All-map (λ b. 0 < b.percentage) (with_parity percentage minimum) ds
    (All-weaker (λ d. 1 ≤ d) (λ d. 0 < (with_parity percentage minimum d).percentage)
    (λ d h. positive percentage minimum d (ltb-true 0 percentage tests.0) most h) ds (some-each n percentage minimum some few within most)))

-- ---- a frame

plan-are : (s : StreamSettings) (p : Plan) (length : ℕ) → HasLimits s → length ≤ 4000000 → blocks_of p ≡ plans_at s length → ArePlans (blocks_of p)
plan-are s p length limits few blocks =
    let least : 1024 ≤ s.packet = limits.packet_least in
    let bounds = packets-within length (payload_of s) (omega arith) few in
    subst ArePlans (sym blocks)
    (fec_plan-within (packets length (payload_of s)) s.percentage s.minimum bounds.0 bounds.1 limits.percentage_greatest limits.minimum_greatest)

pub plan-counts : (s : StreamSettings) (p : Plan) (length : ℕ) → HasLimits s → length ≤ 4000000 → blocks_of p ≡ plans_at s length
    → (1 ≤ p.blocks) × (p.blocks ≤ 4)
plan-counts s p unit_length limits within blocks =
    let are = plan-are s p unit_length limits within blocks in
    let some : 1 ≤ length (blocks_of p) = are.some in
    let few : length (blocks_of p) ≤ 4 = are.few in
    (omega (arith, length-blocks_of p), omega (arith, length-blocks_of p))

pub planned-are : (s : StreamSettings) (f : LoadedFrame) → HasLimits s → IsPlanned s f → ArePlans (blocks_of f.plan)
planned-are s f limits planned = plan-are s f.plan f.unit_length limits planned.limit planned.blocks

pub planned-blocks : (s : StreamSettings) (f : LoadedFrame) → HasLimits s → IsPlanned s f → (1 ≤ f.plan.blocks) × (f.plan.blocks ≤ 4)
planned-blocks s f limits planned = plan-counts s f.plan f.unit_length limits planned.limit planned.blocks

-- its blocks have all packets
pub planned-total : (s : StreamSettings) (f : LoadedFrame) → HasLimits s → IsPlanned s f
    → data_total (blocks_of f.plan) ≡ packets f.unit_length (payload_of s)
planned-total s f limits planned =
    let least : 1024 ≤ s.packet = limits.packet_least in
    let bounds = packets-within f.unit_length (payload_of s) (omega arith) planned.limit in
    ap data_total planned.blocks
    ∙ plan_covers (packets f.unit_length (payload_of s)) s.percentage s.minimum bounds.0 bounds.1 limits.percentage_greatest

-- with parity its blocks have at most 255 shards
pub planned-coded : (s : StreamSettings) (f : LoadedFrame) → HasLimits s → IsPlanned s f → has_parity_at s f.unit_length ≡ true
    → All (λ b. b.data_shards + b.parity_shards ≤ 255) (blocks_of f.plan)
planned-coded s f limits planned parity =
    let least : 1024 ≤ s.packet = limits.packet_least in
    let n = packets f.unit_length (payload_of s) in
    let bounds = packets-within f.unit_length (payload_of s) (omega arith) planned.limit in
    let are = planned-are s f limits planned in
    let says = subst (λ l. All (λ b. 0 < b.percentage) l) (sym planned.blocks)
    (positive-blocks n s.percentage s.minimum bounds.0 bounds.1
    limits.percentage_greatest limits.minimum_greatest parity) in
    λ i d h. (are.each i d h).codable (says i d h)

-- so a frame with parity has at most 1,020 datagrams
pub planned-most : (s : StreamSettings) (f : LoadedFrame) → HasLimits s → IsPlanned s f → has_parity_at s f.unit_length ≡ true → f.datagrams ≤ 1020
planned-most s f limits planned parity =
    let few = datagrams_before-most 255 f.plan.blocks (blocks_of f.plan) (planned-coded s f limits planned parity) in
    let counts = planned-blocks s f limits planned in
    omega (arith, few, counts.1, planned.datagrams)

-- a block of it
pub record IsBlockOfFrame (s : StreamSettings) (f : LoadedFrame) (b : PlacedBlock) : Type 0 where
  pub some : 1 ≤ b.shards
  pub packets : b.first_packet + b.shards ≤ packets f.unit_length (payload_of s)
  pub few : b.first_datagram ≤ 400000
  pub number : b.number < f.plan.blocks
  pub blocks : f.plan.blocks ≤ 4
  pub grammar : IsWithinGrammar (placed_plan b)
  pub bare : has_parity_at s f.unit_length ≡ false → b.parity ≡ 0
  pub coded : has_parity_at s f.unit_length ≡ true → b.shards + b.parity ≤ 255
  pub end : block_end b ≤ f.datagrams

pub is_block_of_frame : (s : StreamSettings) (f : LoadedFrame) (b : PlacedBlock) → HasLimits s → IsPlanned s f → IsPlaced (blocks_of f.plan) b
    → IsBlockOfFrame s f b
is_block_of_frame s f b limits planned placed =
    let plans = blocks_of f.plan in
    let plan = placed_plan b in
    let n = packets f.unit_length (payload_of s) in
    let counts = planned-blocks s f limits planned in
    let grammar : IsWithinGrammar plan = of_all IsWithinGrammar plans b.number plan (planned-are s f limits planned).each placed.here in
    let number : b.number < f.plan.blocks = omega (arith, slice_get_within plans b.number plan placed.here, length-blocks_of f.plan) in
    let total : data_total plans ≡ n = planned-total s f limits planned in
    let few_datagrams : b.first_datagram ≤ b.number * 131070 = placed.few_datagrams in
    record {
      some = grammar.shards_least;
      packets = omega (arith, placed.packets, packets_before-within b.number plans plan placed.here, total);
      few = omega (arith, counts.1);
      number = number;
      blocks = counts.1;
      grammar = grammar;
      bare = λ none. of_all (λ p. p.parity_shards ≡ 0) plans b.number plan
          (subst (λ l. All (λ p. p.parity_shards ≡ 0) l) (sym planned.blocks) (bare-blocks n s.percentage s.minimum none)) placed.here;
      coded = λ parity. of_all (λ p. p.data_shards + p.parity_shards ≤ 255) plans b.number plan (planned-coded s f limits planned parity) placed.here;
      end = omega (arith, end-is plans b placed, datagrams_before-le (suc b.number) f.plan.blocks plans number, planned.datagrams);
    }

-- the same, of settings that were built
pub facts_of : (settings : Settings) (f : LoadedFrame) (b : PlacedBlock) → IsPlanned (numbers_of settings) f → IsPlaced (blocks_of f.plan) b
    → IsBlockOfFrame (numbers_of settings) f b
facts_of settings f b planned placed = is_block_of_frame (numbers_of settings) f b (limits_of settings) planned placed
