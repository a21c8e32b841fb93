-- What a block holds of which as many shards are there as it has data shards: the next payloads of its frame's
-- image.
use Rattle.std.proofs.Common.{◌≡◌, ◌≢◌, ◌<◌, ◌≤◌, ◌+◌, ◌*◌, ℕ, zero, suc, List, [], ◌∷◌, ◌++◌, length, take, drop, map, Some, None, refl, sym, ap, ◌∙◌, arith}
use Rattle.std.proofs.Common.{◌⊎◌, inl, inr}
use Rattle.std.specs.Prelude.{◌==◌}
use Rattle.std.specs.List.{All, AllPairs, concat, slice_get, range_with_len}
use Rattle.std.proofs.Math.Seq.{take-add}
use Rattle.std.proofs.lemmas.Bool.{cases_lt, cond-true, eqb-true, eq-eqb}
use Rattle.std.proofs.lemmas.List.{length-map, get_or-map, ext_get_or}
use Rattle.std.proofs.lemmas.List.Elements.{All-map, All-weaker}
use Rattle.std.proofs.lemmas.List.FromFn.{length-map-range_with_len, get_or-map-range_with_len}
use Rattle.std.proofs.lemmas.Option.{get_or_from_slice_get, cond_some}
use Rattle.gs_gf256.specs.Field.{IsByte}
use Rattle.gs_rs.specs.declared.shape.CodeShape.{CodeShape}
use Rattle.gs_rs.specs.Shape.{video_code, IsCode}
use Rattle.gs_rs.proofs.Points.{IsCode-video}
use Rattle.gs_rtp.specs.Stream.{StreamSettings}
use Rattle.gs_rtp.specs.Video.{parity_count}
use Rattle.gs_rtp.proofs.VideoHeads.{parity_count-zero}
use Rattle.gs_rs.specs.Shards.{HeldShard, block_shard}
use Rattle.gs_frames.specs.Shards.{packet_header, payload_of, shares, data_shards_from, block_shards}
use Rattle.gs_frames.specs.Datagrams.{Place}
use Rattle.gs_frames.specs.Plan.{BlockPlan}
use Rattle.gs_frames.specs.Received.{Received}
use Rattle.gs_frames.specs.Complete.{held_shard, code_of, block_payloads}
use Rattle.gs_rs.specs.ShardLaws.{AreShardsOf}
use Rattle.gs_rs.proofs.HeldShards.{held_shards_hold}
use Rattle.gs_frames.proofs.PlanLimits.{IsWithinGrammar}
use Rattle.gs_frames.proofs.ShardForms.{data_shards_of, are_data_shards}
use Rattle.gs_frames.proofs.SentBlocks.{IsShardOf}

-- ---- data shards and their payloads

-- a data shard's payload is behind its header
payloads-data_shards : (d i count : ℕ) (payloads : List (List ℕ))
    → map (λ (shard : List ℕ). drop packet_header shard) (data_shards_from d i count payloads) ≡ payloads
payloads-data_shards d i count [] = refl
payloads-data_shards d i count (payload ∷ payloads) = ap (λ (rest : List (List ℕ)). payload ∷ rest) (payloads-data_shards d (i + 1) (count + 1) payloads)

-- shares laid end to end are what they were
concat-shares : (n size : ℕ) (bytes : List ℕ) → concat (shares n size bytes) ≡ take (n * size) bytes
concat-shares zero size bytes = let none : 0 * size ≡ 0 = omega arith in ap (λ (m : ℕ). take m bytes) (sym none)
concat-shares (suc n) size bytes =
    let more : size + n * size ≡ suc n * size = omega arith in
    ap (λ (rest : List ℕ). take size bytes ++ rest) (concat-shares n size (drop size bytes))
    ∙ sym (take-add size (n * size) bytes)
    ∙ ap (λ (m : ℕ). take m bytes) more

-- a function of each element, by the elements' places
map-by_places : (g : List ℕ → List ℕ) (f : ℕ → List ℕ) (d : ℕ) (shards : List (List ℕ)) → length shards ≡ d
    → ((i : ℕ) → i < d → slice_get shards i ≡ Some (f i)) → map (λ i. g (f i)) (range_with_len 0 d) ≡ map g shards
map-by_places g f d shards count each =
    ext_get_or [] (map (λ i. g (f i)) (range_with_len 0 d)) (map g shards)
    (length-map-range_with_len (λ i. g (f i)) 0 d ∙ sym (length-map shards g ∙ count))
    (λ i h.
    let within : i < d = omega (arith, length-map-range_with_len (λ i. g (f i)) 0 d) in
    get_or-map-range_with_len (λ i. g (f i)) 0 d i i [] within (omega arith)
    ∙ ap g (sym (get_or_from_slice_get shards i (f i) [] (each i within)))
    ∙ sym (get_or-map g shards i [] [] (omega arith)))

-- ---- any block

-- a block with parity has a code, and one without has no parity shards
code_or_bare : (plan : BlockPlan) → IsWithinGrammar plan → IsCode (video_code plan.data_shards plan.parity_shards) ⊎ (plan.parity_shards ≡ 0)
code_or_bare plan h = elim (cases_lt 0 plan.percentage) [
  | inl coded ↦ inl (IsCode-video plan.data_shards plan.parity_shards (omega (arith, h.shards_least)) (h.codable coded))
  | inr bare ↦
      let zero_is : plan.percentage ≡ 0 = omega arith in
      inr (h.parity ∙ ap (parity_count plan.data_shards) zero_is ∙ parity_count-zero plan.data_shards)
]

-- shards of a block, as many as its data shards, hold each of these
block_shard-is : (s : StreamSettings) (plan : BlockPlan) (count : ℕ) (image : List ℕ) (held : List HeldShard) → 16 ≤ s.packet → IsWithinGrammar plan
    → plan.data_shards * payload_of s ≤ length image → All IsByte image
    → AreShardsOf (video_code plan.data_shards plan.parity_shards) s.packet (data_shards_of s plan count image) held
    → (i : ℕ) → i < plan.data_shards
    → slice_get (data_shards_of s plan count image) i ≡ Some (block_shard (video_code plan.data_shards plan.parity_shards) s.packet held i)
block_shard-is s plan count image held room within enough bytes held_shards i in_i =
    let code = video_code plan.data_shards plan.parity_shards in
    let data_shards = data_shards_of s plan count image in
    let are = are_data_shards s plan count image room enough bytes in
    held_shards_hold code s.packet data_shards held (code_or_bare plan within) are held_shards i in_i

-- the payloads of a block by its code
abbrev payloads_by : StreamSettings → List HeldShard → CodeShape → ℕ → List ℕ
payloads_by s held code d = concat (map (λ i. drop packet_header (block_shard code s.packet held i)) (range_with_len 0 d))

-- they are the next ones of the image
payloads_by-is : (s : StreamSettings) (plan : BlockPlan) (count : ℕ) (image : List ℕ) (held : List HeldShard) → 16 ≤ s.packet → IsWithinGrammar plan
    → plan.data_shards * payload_of s ≤ length image → All IsByte image
    → AreShardsOf (video_code plan.data_shards plan.parity_shards) s.packet (data_shards_of s plan count image) held
    → payloads_by s held (video_code plan.data_shards plan.parity_shards) plan.data_shards ≡ take (plan.data_shards * payload_of s) image
payloads_by-is s plan count image held room within enough bytes held_shards =
    let code = video_code plan.data_shards plan.parity_shards in
    let data_shards = data_shards_of s plan count image in
    let are = are_data_shards s plan count image room enough bytes in
    let parts = shares plan.data_shards (payload_of s) image in
    ap (λ (shards : List (List ℕ)). concat shards)
    (map-by_places (λ (shard : List ℕ). drop packet_header shard) (block_shard code s.packet held) plan.data_shards data_shards are.count
    (block_shard-is s plan count image held room within enough bytes held_shards)
    ∙ payloads-data_shards plan.data_shards 0 count parts)
    ∙ concat-shares plan.data_shards (payload_of s) image

-- ---- a block that was sent

-- shards of it, no two of one number
pub record AreOfSentBlock (s : StreamSettings) (place : Place) (plan : BlockPlan) (count : ℕ) (image : List ℕ) (held : List Received) : Type 0 where
  pub each : All (IsShardOf place plan (block_shards s plan count image)) held
  pub distinct : AllPairs (λ r s. r.head.index ≢ s.head.index) held

-- the code that a shard's head says is the plan's
code-is : (place : Place) (plan : BlockPlan) (shards : List (List ℕ)) (r : Received) → IsWithinGrammar plan → IsShardOf place plan shards r
    → code_of r ≡ video_code plan.data_shards plan.parity_shards
code-is place plan shards r within h =
    ap (λ (d : ℕ). video_code d (parity_count d r.head.percentage)) h.head.shards
    ∙ ap (λ (q : ℕ). video_code plan.data_shards (parity_count plan.data_shards q)) h.head.percentage
    ∙ ap (video_code plan.data_shards) (sym within.parity)

-- shards of different numbers are so by their numbers
held-apart : (held : List Received) → AllPairs (λ r s. r.head.index ≢ s.head.index) held → AllPairs (λ s t. s.index ≢ t.index) (map held_shard held)
held-apart [] apart i j d less h = absurd (omega arith)
held-apart (r ∷ rs) apart i j d less h =
    let size = length-map (r ∷ rs) held_shard in
    let in_j : j < length (r ∷ rs) = omega arith in
    let in_i : i < length (r ∷ rs) = omega arith in
    let at_i = ap (λ (s : HeldShard). s.index) (get_or-map held_shard (r ∷ rs) i r d in_i) in
    let at_j = ap (λ (s : HeldShard). s.index) (get_or-map held_shard (r ∷ rs) j r d in_j) in
    λ e. apart i j r less in_j (sym at_i ∙ e ∙ at_j)

-- the payloads of a block that was sent, where as many are there as it has data shards
pub block_payloads-is : (s : StreamSettings) (place : Place) (plan : BlockPlan) (count : ℕ) (image : List ℕ) (held : List Received) (first : Received)
    → 16 ≤ s.packet → IsWithinGrammar plan → plan.data_shards * payload_of s ≤ length image → All IsByte image
    → AreOfSentBlock s place plan count image held → IsShardOf place plan (block_shards s plan count image) first → length held ≡ plan.data_shards
    → block_payloads s held (Some first) ≡ Some (take (plan.data_shards * payload_of s) image)
block_payloads-is s place plan count image held first room within enough bytes of_block of_first counted =
    let code = video_code plan.data_shards plan.parity_shards in
    let shards = block_shards s plan count image in
    let own = map held_shard held in
    let held_shards : AreShardsOf code s.packet (data_shards_of s plan count image) own = record {
      count = length-map held held_shard ∙ counted;
      distinct = held-apart held of_block.distinct;
      are = All-map (λ t. slice_get shards t.index ≡ Some t.bytes) held_shard held
          (All-weaker (IsShardOf place plan shards) (λ r. slice_get shards r.head.index ≡ Some r.shard) (λ r h. h.shard) held of_block.each);
    } in
    cond-true (length held == first.head.shards) (Some (payloads_by s own (code_of first) first.head.shards)) None
    (eq-eqb (length held) first.head.shards (counted ∙ sym of_first.head.shards))
    ∙ ap (λ (d : ℕ). Some (payloads_by s own (code_of first) d)) of_first.head.shards
    ∙ ap (λ (c : CodeShape). Some (payloads_by s own c plan.data_shards)) (code-is place plan shards first within of_first)
    ∙ ap (λ (l : List ℕ). Some l) (payloads_by-is s plan count image own room within enough bytes held_shards)

-- so wherever its payloads are known
pub block_payloads-sent : (s : StreamSettings) (place : Place) (plan : BlockPlan) (count : ℕ) (image : List ℕ) (held : List Received) (first : Received)
    (found : List ℕ)
    → 16 ≤ s.packet → IsWithinGrammar plan → plan.data_shards * payload_of s ≤ length image → All IsByte image
    → AreOfSentBlock s place plan count image held → IsShardOf place plan (block_shards s plan count image) first
    → block_payloads s held (Some first) ≡ Some found → found ≡ take (plan.data_shards * payload_of s) image
block_payloads-sent s place plan count image held first found room within enough bytes of_block of_first e =
    let whole = cond_some (length held == first.head.shards) _ found e in
    let counted : length held ≡ plan.data_shards = eqb-true (length held) first.head.shards whole.0 ∙ of_first.head.shards in
    let is = block_payloads-is s place plan count image held first room within enough bytes of_block of_first counted in
    let same : Some found ≡ Some (take (plan.data_shards * payload_of s) image) = sym e ∙ is in
    cc
