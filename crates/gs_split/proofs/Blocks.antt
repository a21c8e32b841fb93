-- The blocks of a plan are those of the definition.
use Rattle.std.proofs.Common.{◌≡◌, ◌<◌, ◌≤◌, ℕ, zero, suc, Bool, List, [], ◌∷◌, map, refl, sym, ap, ◌∙◌, arith, inl, inr}
use Rattle.std.specs.Prelude.{nat_lt, nat_le, slice_index, ◌==◌, ◌||◌, true, false, if◌then◌else◌}
use Rattle.std.specs.List.{All}
use Rattle.std.proofs.lemmas.List.Elements.{All-from_recursion, All-head, All-tail, All-map, All-same, All-weaker}
use Rattle.std.proofs.lemmas.Bool.{cases_Bool, cond-true, cond-false, and_parts, ltb-true, ne_eqb, or_right}
use Rattle.gs_frames.specs.Image.{ceil_div, most_packets}
use Rattle.gs_frames.specs.Plan.{BlockPlan, most_shards, most_blocks, has_parity, block_count, parts, with_parity, without_parity, fec_plan}
use Rattle.gs_frames.proofs.Plans.{data_shards-are}
use Rattle.gs_frames.proofs.PlanLimits.{IsWithinGrammar, fec_plan-within}
use Rattle.gs_split.specs.declared.plan.Plan.{Plan}
use Rattle.gs_split.specs.declared.plan.Block.{Block}
use Rattle.gs_split.proofs.Counts.{AreFew, part-behind}
use Rattle.gs_split.specs.Plans.{IsZeroFrom, blocks_of, block_plan, protected}

-- the plan of four blocks of which the first few count
abbrev pub plan_of_blocks : ℕ → ℕ → ℕ → Block → Block → Block → Block → Plan
plan_of_blocks packets blocks percentage a b c d = record {
  packets = packets;
  blocks = blocks;
  percentage = percentage;
  shards = a.shards ∷ b.shards ∷ c.shards ∷ d.shards ∷ [];
  parity = a.parity ∷ b.parity ∷ c.parity ∷ d.parity ∷ [];
  sent = a.sent ∷ b.sent ∷ c.sent ∷ d.sent ∷ [];
}

-- each block is the one of its part
pub record AreBlocks (n blocks percentage minimum : ℕ) (a b c d : Block) : Type 0 where
  pub first : block_plan a ≡ protected percentage minimum (slice_index (parts n blocks) 0)
  pub second : block_plan b ≡ protected percentage minimum (slice_index (parts n blocks) 1)
  pub third : block_plan c ≡ protected percentage minimum (slice_index (parts n blocks) 2)
  pub fourth : block_plan d ≡ protected percentage minimum (slice_index (parts n blocks) 3)

pub blocks-are : (packets n blocks sent percentage minimum : ℕ) (a b c d : Block) → 1 ≤ blocks → blocks ≤ 4
    → AreBlocks n blocks percentage minimum a b c d
    → blocks_of (plan_of_blocks packets blocks sent a b c d) ≡ map (protected percentage minimum) (parts n blocks)
blocks-are packets n zero sent percentage minimum a b c d some few are = absurd (omega arith)
blocks-are packets n (suc zero) sent percentage minimum a b c d some few are = ap (λ (x : BlockPlan). x ∷ []) are.first
blocks-are packets n (suc (suc zero)) sent percentage minimum a b c d some few are =
    ap (λ (x : BlockPlan). x ∷ block_plan b ∷ []) are.first
    ∙ ap (λ (x : BlockPlan). protected percentage minimum (slice_index (parts n 2) 0) ∷ x ∷ []) are.second
blocks-are packets n (suc (suc (suc zero))) sent percentage minimum a b c d some few are =
    rw (are.first, are.second, are.third) refl
blocks-are packets n (suc (suc (suc (suc zero)))) sent percentage minimum a b c d some few are =
    rw (are.first, are.second, are.third, are.fourth) refl
blocks-are packets n (suc (suc (suc (suc (suc k))))) sent percentage minimum a b c d some few are = absurd (omega arith)

-- ---- the definition's two kinds of blocks

-- with a percentage above 0 and some data shards
protected-with : (percentage minimum d : ℕ) → 1 ≤ percentage → 1 ≤ d → protected percentage minimum d ≡ with_parity percentage minimum d
protected-with percentage minimum d least some =
    let data_shards : (d == 0) ≡ false = ne_eqb d 0 (λ e. absurd (omega (arith, e))) in
    let parity : (percentage == 0) ≡ false = ne_eqb percentage 0 (λ e. absurd (omega (arith, e))) in
    let test : (d == 0 || percentage == 0) ≡ false =
    ap (λ (b : Bool). b || percentage == 0) data_shards ∙ ap (λ (b : Bool). false || b) parity in
    cond-false (d == 0 || percentage == 0) (without_parity d) (with_parity percentage minimum d) test

protected-without : (minimum d : ℕ) → protected 0 minimum d ≡ without_parity d
protected-without minimum d =
    cond-true (d == 0 || 0 == 0) (without_parity d) (with_parity 0 minimum d) (or_right (d == 0) true refl)

map-protected-without : (minimum : ℕ) (ds : List ℕ) → map (protected 0 minimum) ds ≡ map without_parity ds
map-protected-without minimum [] = refl
map-protected-without minimum (d ∷ ds) =
    ap (λ (x : BlockPlan). x ∷ map (protected 0 minimum) ds) (protected-without minimum d)
    ∙ ap (λ (xs : List BlockPlan). without_parity d ∷ xs) (map-protected-without minimum ds)

map-protected-with : (percentage minimum : ℕ) (ds : List ℕ) → 1 ≤ percentage → All (λ d. 1 ≤ d) ds
    → map (protected percentage minimum) ds ≡ map (with_parity percentage minimum) ds
map-protected-with percentage minimum [] least some = refl
map-protected-with percentage minimum (d ∷ ds) least some =
    ap (λ (x : BlockPlan). x ∷ map (protected percentage minimum) ds)
    (protected-with percentage minimum d least (All-head (λ d. 1 ≤ d) d ds some))
    ∙ ap (λ (xs : List BlockPlan). with_parity percentage minimum d ∷ xs)
    (map-protected-with percentage minimum ds least (All-tail (λ d. 1 ≤ d) d ds some))

-- each block of a frame has data shards
pub some-each : (n percentage minimum : ℕ) → 1 ≤ n → n ≤ most_packets → percentage ≤ 100 → minimum ≤ 2
    → All (λ d. 1 ≤ d) (parts n (block_count n percentage))
some-each n percentage minimum some few within most =
    All-same (λ d. 1 ≤ d) (parts n (block_count n percentage)) (map (λ b. b.data_shards) (fec_plan n percentage minimum))
    (sym (data_shards-are n percentage minimum))
    (All-map (λ d. 1 ≤ d) (λ b. b.data_shards) (fec_plan n percentage minimum)
    (All-weaker IsWithinGrammar (λ b. 1 ≤ b.data_shards) (λ b h. h.shards_least) (fec_plan n percentage minimum)
    (fec_plan-within n percentage minimum some (omega arith) within most).each))

-- the percentage with which a frame is planned
abbrev pub planned : ℕ → ℕ → ℕ
planned n percentage = if has_parity n percentage then percentage else 0

-- the parts, each protected at that percentage, are the plan
pub protected-are : (n percentage minimum : ℕ) → 1 ≤ n → n ≤ most_packets → percentage ≤ 100 → minimum ≤ 2
    → map (protected (planned n percentage) minimum) (parts n (block_count n percentage)) ≡ fec_plan n percentage minimum
unfolding fec_plan
protected-are n percentage minimum some few within most = elim (cases_Bool (has_parity n percentage)) [
  | inl parity ↦
      let ds = parts n (block_count n percentage) in
      let tests = and_parts (nat_lt 0 percentage) (nat_le (ceil_div n (most_shards percentage)) most_blocks) parity in
      ap (λ (q : ℕ). map (protected q minimum) ds) (cond-true (has_parity n percentage) percentage 0 parity)
      ∙ map-protected-with percentage minimum ds (ltb-true 0 percentage tests.0) (some-each n percentage minimum some few within most)
      ∙ sym (cond-true (has_parity n percentage) (map (with_parity percentage minimum) ds) (map without_parity ds) parity)
  | inr bare ↦
      let ds = parts n (block_count n percentage) in
      ap (λ (q : ℕ). map (protected q minimum) ds) (cond-false (has_parity n percentage) percentage 0 bare)
      ∙ map-protected-without minimum ds
      ∙ sym (cond-false (has_parity n percentage) (map (with_parity percentage minimum) ds) (map without_parity ds) bare)
]

-- ---- the whole plan

pub plan-is : (n blocks sent percentage minimum : ℕ) (a b c d : Block) → 1 ≤ n → n ≤ most_packets → percentage ≤ 100 → minimum ≤ 2
    → AreFew n blocks → blocks ≡ block_count n percentage → sent ≡ planned n percentage
    → AreBlocks n blocks sent minimum a b c d
    → blocks_of (plan_of_blocks n blocks sent a b c d) ≡ fec_plan n percentage minimum
plan-is n blocks sent percentage minimum a b c d some most within least few counted planned_is are =
    blocks-are n n blocks sent sent minimum a b c d few.some few.few are
    ∙ ap (λ (k : ℕ). map (protected sent minimum) (parts n k)) counted
    ∙ ap (λ (q : ℕ). map (protected q minimum) (parts n (block_count n percentage))) planned_is
    ∙ protected-are n percentage minimum some most within least

-- a place behind the blocks
behind-is : (n blocks place percentage minimum : ℕ) (x : Block) → 1 ≤ blocks → blocks ≤ place → place < 4
    → block_plan x ≡ protected percentage minimum (slice_index (parts n blocks) place) → block_plan x ≡ without_parity 0
behind-is n blocks place percentage minimum x some behind few is =
    is ∙ ap (λ (k : ℕ). protected percentage minimum k) (sym (part-behind n blocks place behind some few))

zero-from : (blocks a b c d : ℕ) → 1 ≤ blocks → blocks ≤ 4 → (blocks ≤ 1 → b ≡ 0) → (blocks ≤ 2 → c ≡ 0) → (blocks ≤ 3 → d ≡ 0)
    → IsZeroFrom blocks (a ∷ b ∷ c ∷ d ∷ [])
zero-from zero a b c d some few second third fourth = absurd (omega arith)
zero-from (suc zero) a b c d some few second third fourth =
    All-from_recursion (λ k. k ≡ 0) (b ∷ c ∷ d ∷ []) (second (omega arith), (third (omega arith), (fourth (omega arith), tt)))
zero-from (suc (suc zero)) a b c d some few second third fourth =
    All-from_recursion (λ k. k ≡ 0) (c ∷ d ∷ []) (third (omega arith), (fourth (omega arith), tt))
zero-from (suc (suc (suc zero))) a b c d some few second third fourth =
    All-from_recursion (λ k. k ≡ 0) (d ∷ []) (fourth (omega arith), tt)
zero-from (suc (suc (suc (suc zero)))) a b c d some few second third fourth = All-from_recursion (λ k. k ≡ 0) [] tt
zero-from (suc (suc (suc (suc (suc k))))) a b c d some few second third fourth = absurd (omega arith)

-- of each number that a block has
pub zeros-behind : (part : BlockPlan → ℕ) (n blocks percentage minimum : ℕ) (a b c d : Block) → part (without_parity 0) ≡ 0
    → AreFew n blocks → AreBlocks n blocks percentage minimum a b c d
    → IsZeroFrom blocks (part (block_plan a) ∷ part (block_plan b) ∷ part (block_plan c) ∷ part (block_plan d) ∷ [])
zeros-behind part n blocks percentage minimum a b c d none few are =
    zero-from blocks (part (block_plan a)) (part (block_plan b)) (part (block_plan c)) (part (block_plan d)) few.some few.few
    (λ behind. ap part (behind-is n blocks 1 percentage minimum b few.some behind (omega arith) are.second) ∙ none)
    (λ behind. ap part (behind-is n blocks 2 percentage minimum c few.some behind (omega arith) are.third) ∙ none)
    (λ behind. ap part (behind-is n blocks 3 percentage minimum d few.some behind (omega arith) are.fourth) ∙ none)
