-- The shards of a frame, as they are written.
use Rattle.std.proofs.Common.{◌≡◌, ◌≤◌, ◌+◌, ◌-◌, ◌*◌, ◌++◌, ℕ, suc, List, length, take, drop, map, sym, ap, ◌∙◌, arith}
use Rattle.std.specs.List.{concat, slice_get}
use Rattle.std.proofs.lemmas.List.{length-drop, length-map, length-take-le}
use Rattle.std.proofs.lemmas.Slice.{take-put_mid}
use borrow.Rule.Slice.PartMut.{put_mid}
use Rattle.gs_rtp.specs.Stream.{StreamSettings}
use Rattle.gs_frames.specs.Image.{frame_image, packets}
use Rattle.gs_frames.specs.Plan.{BlockPlan, fec_plan}
use Rattle.gs_frames.specs.Shards.{payload_of, block_shards}
use Rattle.gs_frames.specs.Datagrams.{datagram_of, unit_plan, first_place, OutgoingFrame, frame_shards, frame_datagrams}
use Rattle.gs_split.specs.declared.frame.LoadedFrame.{LoadedFrame}
use Rattle.gs_split.specs.declared.placed.PlacedBlock.{PlacedBlock}
use Rattle.gs_split.specs.Plans.{blocks_of}
use Rattle.gs_split.specs.Places.{packets_before, datagrams_before, placed_plan, block_end, IsPlaced}
use Rattle.gs_split.specs.Loaded.{IsPlanned, loaded_outgoing, placed_shards}
use Rattle.gs_split.proofs.Places.{length-blocks_of, end-is}
use Rattle.gs_split.proofs.FrameShards.{laid, laid-next, laid-all, length-blocks}

-- a part of so many shards
pub length-part : (p first end n size : ℕ) (out : List ℕ) → end ≡ first + n → p ≡ size → end * p ≤ length out
    → length (take (end * p - first * p) (drop (first * p) out)) ≡ n * size
length-part p first end n size out end_is same room =
    let turned : end * p ≡ first * p + n * p = ap (λ (k : ℕ). k * p) end_is ∙ omega arith in
    let sized : n * p ≡ n * size = ap (λ (k : ℕ). n * k) same in
    length-take-le (end * p - first * p) (drop (first * p) out) (omega (arith, turned, room, length-drop (first * p) out))
    ∙ omega (arith, turned, sized)

-- where the blocks before it are laid, and a block is written behind them
pub laid-block : (s : StreamSettings) (f : LoadedFrame) (b : PlacedBlock) (unit : List ℕ) (number next k p : ℕ) (out new : List ℕ)
    → IsPlaced (blocks_of f.plan) b → b.number ≡ number → next ≡ number + 1 → p ≡ s.packet → block_end b * p ≤ length out
    → take (datagrams_before number (blocks_of f.plan) * s.packet) out
    ≡ laid s number f.count (blocks_of f.plan) (frame_image f.kind unit (payload_of s))
    → new ≡ concat (placed_shards s f b unit) → length new ≡ (b.shards + b.parity) * s.packet
    → take (datagrams_before next (blocks_of f.plan) * s.packet) (put_mid (b.first_datagram * p) k out new)
    ≡ laid s next f.count (blocks_of f.plan) (frame_image f.kind unit (payload_of s))
laid-block s f b unit number next k p out new placed number_is next_is p_is room before new_is long =
    let plans = blocks_of f.plan in
    let image = frame_image f.kind unit (payload_of s) in
    let after : suc number ≡ next = omega arith in
    let next_end : next ≡ suc b.number = omega arith in
    let end : datagrams_before next plans ≡ block_end b =
    ap (λ (n : ℕ). datagrams_before n plans) next_end ∙ sym (end-is plans b placed) in
    let first : b.first_datagram ≡ datagrams_before number plans = placed.datagrams ∙ ap (λ (n : ℕ). datagrams_before n plans) number_is in
    let packet : b.first_packet ≡ packets_before number plans = placed.packets ∙ ap (λ (n : ℕ). packets_before n plans) number_is in
    let at : b.first_datagram * p ≡ datagrams_before number plans * s.packet =
    ap (λ (n : ℕ). n * p) first ∙ ap (λ (n : ℕ). datagrams_before number plans * n) p_is in
    let turned : block_end b * p ≡ b.first_datagram * p + (b.shards + b.parity) * p = omega arith in
    let up_to : datagrams_before next plans * s.packet ≡ b.first_datagram * p + length new =
    ap (λ (n : ℕ). n * s.packet) end
    ∙ ap (λ (n : ℕ). block_end b * n) (sym p_is)
    ∙ turned
    ∙ ap (λ (n : ℕ). b.first_datagram * p + n) (ap (λ (n : ℕ). (b.shards + b.parity) * n) p_is ∙ sym long) in
    take-put_mid (b.first_datagram * p) k out new (datagrams_before next plans * s.packet) up_to (omega (arith, turned, room))
    ∙ ap (λ (n : ℕ). take n out ++ new) at
    ∙ ap (λ (l : List ℕ). l ++ new) before
    ∙ ap (λ (l : List ℕ). laid s number f.count plans image ++ l) new_is
    ∙ ap (λ (n : ℕ). laid s number f.count plans image
    ++ concat (block_shards s (placed_plan b) (f.count + n) (drop (b.first_packet * payload_of s) image))) first
    ∙ ap (λ (n : ℕ). laid s number f.count plans image
    ++ concat (block_shards s (placed_plan b) (f.count + datagrams_before number plans) (drop (n * payload_of s) image))) packet
    ∙ sym (laid-next s number f.count plans (placed_plan b) image (ap (slice_get plans) (sym number_is) ∙ placed.here))
    ∙ ap (λ (n : ℕ). laid s n f.count plans image) after

-- ---- the whole frame

-- the plan is that of its unit
pub plan-is_of : (s : StreamSettings) (f : LoadedFrame) (unit : List ℕ) → IsPlanned s f → length unit ≡ f.unit_length → unit_plan s unit ≡ blocks_of f.plan
plan-is_of s f unit planned unit_is =
    ap (λ (n : ℕ). fec_plan (packets n (payload_of s)) s.percentage s.minimum) unit_is ∙ sym planned.blocks

pub frame-laid : (s : StreamSettings) (f : LoadedFrame) (unit : List ℕ) → IsPlanned s f → length unit ≡ f.unit_length
    → laid s f.plan.blocks f.count (blocks_of f.plan) (frame_image f.kind unit (payload_of s))
    ≡ concat (map (λ r. r.shard) (frame_shards s (loaded_outgoing f unit)))
unfolding frame_shards
frame-laid s f unit planned unit_is =
    let plans = blocks_of f.plan in
    let image = frame_image f.kind unit (payload_of s) in
    ap (λ (n : ℕ). laid s n f.count plans image) (sym (length-blocks_of f.plan))
    ∙ ap (λ (l : List BlockPlan). laid s (length l) f.count l image) (sym (plan-is_of s f unit planned unit_is))
    ∙ laid-all s (first_place (loaded_outgoing f unit) (unit_plan s unit)) f.count (unit_plan s unit) image

-- any frame with a unit of this length has as many shards, and as many datagrams
pub frame-length : (s : StreamSettings) (f : LoadedFrame) (out : OutgoingFrame) → IsPlanned s f → length out.unit ≡ f.unit_length
    → length (frame_shards s out) ≡ f.datagrams
unfolding frame_shards
frame-length s f out planned unit_is =
    length-blocks s (first_place out (unit_plan s out.unit)) out.count (unit_plan s out.unit) (frame_image out.kind out.unit (payload_of s))
    ∙ ap (λ (l : List BlockPlan). datagrams_before (length l) l) (plan-is_of s f out.unit planned unit_is)
    ∙ ap (λ (n : ℕ). datagrams_before n (blocks_of f.plan)) (length-blocks_of f.plan)
    ∙ sym planned.datagrams

pub datagrams-length : (s : StreamSettings) (f : LoadedFrame) (out : OutgoingFrame) → IsPlanned s f → length out.unit ≡ f.unit_length
    → length (frame_datagrams s out) ≡ f.datagrams
unfolding frame_datagrams
datagrams-length s f out planned unit_is = length-map (frame_shards s out) datagram_of ∙ frame-length s f out planned unit_is
