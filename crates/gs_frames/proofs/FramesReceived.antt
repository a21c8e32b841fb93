-- The datagrams of a frame are received as the shards that they were made of.
use Rattle.std.proofs.Common.{◌≡◌, ◌<◌, ◌≤◌, ◌+◌, ◌*◌, ◌^◌, ℕ, List, [], ◌∷◌, length, drop, map, sum, Some, refl, ap, ◌∙◌, arith}
use Rattle.std.specs.List.{All}
use Rattle.std.proofs.lemmas.List.{length-drop}
use Rattle.std.proofs.lemmas.List.Elements.{All-nil, All-cons, All-append, All-head, All-tail, All-drop}
use Rattle.std.proofs.lemmas.List.Sums.{sum_by-cons}
use Rattle.std.proofs.lemmas.Nat.{mul-le}
use Rattle.gs_gf256.specs.Field.{IsByte}
use Rattle.gs_rs.specs.Shape.{video_code}
use Rattle.gs_rtp.specs.Stream.{StreamSettings}
use Rattle.gs_frames.specs.Shards.{payload_of, block_shards}
use Rattle.gs_frames.specs.Datagrams.{datagram_of, Place, next_block, headed_shard, headed_shards, headed_blocks, unit_plan, first_place, frame_shards}
use Rattle.gs_frames.specs.Datagrams.{frame_datagrams}
use Rattle.gs_frames.specs.Image.{packets, most_packets, frame_image}
use Rattle.gs_frames.specs.Plan.{BlockPlan}
use Rattle.gs_frames.specs.Received.{Received, received}
use Rattle.gs_rs.specs.ShardLaws.{AreDataShards}
use Rattle.gs_frames.specs.FrameLaws.{FrameIsReceived}
use Rattle.gs_frames.proofs.Images.{parted_image, packets-is, length-frame_image}
use Rattle.gs_frames.proofs.Plans.{plan_covers}
use Rattle.gs_frames.proofs.PlanLimits.{IsWithinGrammar, ArePlans, fec_plan-within}
use Rattle.gs_rs.proofs.HeldShards.{length-with_parity}
use Rattle.gs_frames.proofs.ShardsReceived.{IsShard, IsPlace, shard_is_received}
use Rattle.gs_frames.proofs.ShardForms.{frame_image-bytes, data_shards_of, are_data_shards, block_are_shards}

-- ---- the packets of a unit

-- a unit within its limit takes from one packet up to the most
pub packets-within : (length payload : ℕ) → 1008 ≤ payload → length ≤ 4000000 → (1 ≤ packets length payload) × (packets length payload ≤ most_packets)
packets-within length payload large few =
    let p = parted_image length payload (omega arith) in
    let n : packets length payload ≡ p.whole + 1 = packets-is length payload p in
    let last : 1 ≤ p.last = p.last_least in
    let least : p.whole * 1008 ≤ p.whole * payload = mul-le p.whole 1008 p.whole payload (omega arith) large in
    (omega (arith, n), omega (arith, n, p.sum, least))

-- ---- a block

-- what is received of its datagram is the shard itself
abbrev pub IsReceivedSo : StreamSettings → Received → Type 0
IsReceivedSo s r = received s (datagram_of r) ≡ Some r

-- each shard of one block, from this index on
shards_are_received : (s : StreamSettings) (place : Place) (plan : BlockPlan) (count index : ℕ) (shards : List (List ℕ)) → s.ssrc < 2 ^ 32
    → IsPlace place → IsWithinGrammar plan → index + length shards ≤ plan.data_shards + plan.parity_shards → All (IsShard s.packet) shards
    → All (IsReceivedSo s) (headed_shards s place plan count index shards)
shards_are_received s place plan count index [] ssrc h within room are = All-nil (IsReceivedSo s)
shards_are_received s place plan count index (shard ∷ shards) ssrc h within room are =
    All-cons (IsReceivedSo s) (headed_shard s place plan count index shard) (headed_shards s place plan (count + 1) (index + 1) shards)
    (shard_is_received s plan place count index shard ssrc h within (omega arith) (All-head (IsShard s.packet) shard shards are))
    (shards_are_received s place plan (count + 1) (index + 1) shards ssrc h within (omega arith) (All-tail (IsShard s.packet) shard shards are))

-- of a whole block
block_is_received : (s : StreamSettings) (place : Place) (plan : BlockPlan) (count : ℕ) (image : List ℕ) → s.ssrc < 2 ^ 32 → 16 ≤ s.packet
    → IsPlace place → IsWithinGrammar plan → plan.data_shards * payload_of s ≤ length image → All IsByte image
    → All (IsReceivedSo s) (headed_shards s place plan count 0 (block_shards s plan count image))
block_is_received s place plan count image ssrc room h within enough bytes =
    let code = video_code plan.data_shards plan.parity_shards in
    let data_shards : AreDataShards code s.packet (data_shards_of s plan count image) = are_data_shards s plan count image room enough bytes in
    shards_are_received s place plan count 0 (block_shards s plan count image) ssrc h within
    (omega (arith, length-with_parity code s.packet (data_shards_of s plan count image) data_shards.count))
    (block_are_shards s plan count image room enough bytes)

-- ---- a frame

-- the data shards of all blocks
abbrev pub data_total : List BlockPlan → ℕ
data_total plans = sum (map (λ b. b.data_shards) plans)

-- one block and the others
pub data_total-cons : (plan : BlockPlan) (plans : List BlockPlan) → data_total (plan ∷ plans) ≡ plan.data_shards + data_total plans
data_total-cons plan plans = sum_by-cons (λ (d : ℕ). d) plan.data_shards (map (λ (b : BlockPlan). b.data_shards) plans)

-- the block at a place
abbrev pub place_at : ℕ → ℕ → ℕ → ℕ → Place
place_at frame time last at = record { frame = frame; time = time; block = at; last_block = last }

-- block after block, from this one on
blocks_are_received : (s : StreamSettings) (place : Place) (count : ℕ) (plans : List BlockPlan) (image : List ℕ) → s.ssrc < 2 ^ 32 → 16 ≤ s.packet
    → 1 ≤ place.frame → place.frame ≤ 1048576 → place.last_block ≤ 3 → place.block + length plans ≤ place.last_block + 1 → All IsWithinGrammar plans
    → data_total plans * payload_of s ≤ length image → All IsByte image
    → All (IsReceivedSo s) (headed_blocks s place count plans image)
blocks_are_received s place count [] image ssrc room least greatest few blocks within enough bytes = All-nil (IsReceivedSo s)
blocks_are_received s place count (plan ∷ plans) image ssrc room least greatest few blocks within enough bytes =
    let placed : IsPlace place = record { frame_least = least; frame_greatest = greatest; block_within = omega arith; last_greatest = few } in
    let taken = plan.data_shards * payload_of s in
    let more = count + plan.data_shards + plan.parity_shards in
    let total : data_total (plan ∷ plans) * payload_of s ≡ taken + data_total plans * payload_of s =
    ap (λ (n : ℕ). n * payload_of s) (data_total-cons plan plans) ∙ omega arith in
    All-append (IsReceivedSo s) (headed_shards s place plan count 0 (block_shards s plan count image))
    (headed_blocks s (next_block place) more plans (drop taken image))
    (block_is_received s place plan count image ssrc room placed (All-head IsWithinGrammar plan plans within) (omega arith) bytes)
    (blocks_are_received s (next_block place) more plans (drop taken image) ssrc room least greatest few (omega arith)
    (All-tail IsWithinGrammar plan plans within) (omega (arith, length-drop taken image)) (All-drop IsByte taken image bytes))

-- so what is received of the datagrams of them all is the list itself
received-all : (s : StreamSettings) (rs : List Received) → All (IsReceivedSo s) rs → map (received s) (map datagram_of rs) ≡ map (λ r. Some r) rs
received-all s [] all = refl
received-all s (r ∷ rs) all =
    let first : received s (datagram_of r) ≡ Some r = All-head (IsReceivedSo s) r rs all in
    let rest = received-all s rs (All-tail (IsReceivedSo s) r rs all) in
    cc

-- the law
pub frame_is_received : FrameIsReceived
unfolding frame_datagrams frame_shards
frame_is_received s out sent =
    let unit = out.unit in
    let payload = payload_of s in
    let limits = sent.limits in
    let packet_least : 1024 ≤ s.packet = limits.packet_least in
    let ssrc : s.ssrc ≤ 9999 = limits.ssrc_greatest in
    let n = packets (length unit) payload in
    let bounds = packets-within (length unit) payload (omega arith) sent.unit_greatest in
    let plans = unit_plan s unit in
    let planned : ArePlans plans = fec_plan-within n s.percentage s.minimum bounds.0 bounds.1 limits.percentage_greatest limits.minimum_greatest in
    let some : 1 ≤ length plans = planned.some in
    let few : length plans ≤ 4 = planned.few in
    let image = frame_image out.kind unit payload in
    let total : data_total plans * payload ≡ n * payload =
    ap (λ (k : ℕ). k * payload) (plan_covers n s.percentage s.minimum bounds.0 bounds.1 limits.percentage_greatest) in
    received-all s (headed_blocks s (first_place out plans) out.count plans image)
    (blocks_are_received s (first_place out plans) out.count plans image (omega arith) (omega arith) sent.frame_least sent.frame_greatest
    (omega arith) (omega arith) planned.each (omega (arith, length-frame_image out.kind unit payload (omega arith), total))
    (frame_image-bytes out.kind unit payload sent.written sent.unit_bytes))
