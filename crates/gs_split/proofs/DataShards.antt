-- The data shards of a block, one by one.
use Rattle.std.proofs.Common.{◌≡◌, ◌<◌, ◌≤◌, ◌+◌, ◌*◌, ℕ, zero, suc, List, [], ◌∷◌, length, get_or, take, drop, ap, ◌∙◌, arith}
use Rattle.std.proofs.lemmas.List.{length-drop, length-take-le, get_or_default, drop-drop}
use Rattle.std.proofs.lemmas.Nat.{mul-le}
use Rattle.gs_rtp.specs.Stream.{StreamSettings}
use Rattle.gs_frames.specs.Image.{frame_image, packets}
use Rattle.gs_frames.specs.Shards.{payload_of, flags, shares, data_shard, data_shards_from}
use Rattle.gs_frames.proofs.Images.{length-frame_image}
use Rattle.gs_frames.proofs.ShardForms.{length-data_shards_from, length-shares}
use Rattle.gs_split.specs.declared.frame.LoadedFrame.{LoadedFrame}
use Rattle.gs_split.specs.declared.placed.PlacedBlock.{PlacedBlock}
use Rattle.gs_split.specs.Loaded.{block_image, block_data, data_shard_at}
use Rattle.gs_rs.proofs.LaidShards.{HaveSize}

-- ---- shares of an image

pub share-at : (n size : ℕ) (bytes : List ℕ) (i : ℕ) → i < n → get_or (shares n size bytes) i [] ≡ take size (drop (i * size) bytes)
share-at zero size bytes i within = absurd (omega arith)
share-at (suc n) size bytes zero within =
    let none : 0 ≡ 0 * size = omega arith in
    ap (λ (k : ℕ). take size (drop k bytes)) none
share-at (suc n) size bytes (suc i) within =
    let more : size + i * size ≡ suc i * size = omega arith in
    share-at n size (drop size bytes) i (omega arith)
    ∙ ap (take size) (drop-drop (i * size) size bytes)
    ∙ ap (λ (k : ℕ). take size (drop k bytes)) more

-- ---- data shards of payloads

data_shard-from : (d i count : ℕ) (payloads : List (List ℕ)) (j : ℕ) → j < length payloads
    → get_or (data_shards_from d i count payloads) j [] ≡ data_shard (count + j) (flags d (i + j)) (get_or payloads j [])
data_shard-from d i count [] j within = absurd (omega arith)
data_shard-from d i count (payload ∷ payloads) zero within =
    let place : i ≡ i + 0 = omega arith in
    let number : count ≡ count + 0 = omega arith in
    ap (λ (k : ℕ). data_shard count (flags d k) payload) place
    ∙ ap (λ (n : ℕ). data_shard n (flags d (i + 0)) payload) number
data_shard-from d i count (payload ∷ payloads) (suc j) within =
    let place : i + 1 + j ≡ i + suc j = omega arith in
    let number : count + 1 + j ≡ count + suc j = omega arith in
    data_shard-from d (i + 1) (count + 1) payloads j (omega arith)
    ∙ ap (λ (k : ℕ). data_shard (count + 1 + j) (flags d k) (get_or payloads j [])) place
    ∙ ap (λ (n : ℕ). data_shard n (flags d (i + suc j)) (get_or payloads j [])) number

-- ---- those of a block

pub length-block_data : (s : StreamSettings) (f : LoadedFrame) (b : PlacedBlock) (unit : List ℕ) → length (block_data s f b unit) ≡ b.shards
length-block_data s f b unit =
    let payloads = shares b.shards (payload_of s) (block_image s f b unit) in
    length-data_shards_from b.shards 0 (f.count + b.first_datagram) payloads ∙ length-shares b.shards (payload_of s) (block_image s f b unit)

pub block_data-at : (s : StreamSettings) (f : LoadedFrame) (b : PlacedBlock) (unit : List ℕ) (i : ℕ) → i < b.shards
    → get_or (block_data s f b unit) i [] ≡ data_shard_at s f b unit i
block_data-at s f b unit i within =
    let image = block_image s f b unit in
    let payloads = shares b.shards (payload_of s) image in
    let count = f.count + b.first_datagram in
    let place : 0 + i ≡ i = omega arith in
    data_shard-from b.shards 0 count payloads i (omega (arith, length-shares b.shards (payload_of s) image))
    ∙ ap (λ (k : ℕ). data_shard (count + i) (flags b.shards k) (get_or payloads i [])) place
    ∙ ap (data_shard (count + i) (flags b.shards i)) (share-at b.shards (payload_of s) image i within)

-- a block has payloads for all of them
pub block_image-room : (s : StreamSettings) (f : LoadedFrame) (b : PlacedBlock) (unit : List ℕ) → 1 ≤ payload_of s
    → b.first_packet + b.shards ≤ packets (length unit) (payload_of s) → b.shards * payload_of s ≤ length (block_image s f b unit)
block_image-room s f b unit some within =
    let size = payload_of s in
    let image = frame_image f.kind unit size in
    let whole : length image ≡ packets (length unit) size * size = length-frame_image f.kind unit size some in
    let room : (b.first_packet + b.shards) * size ≤ packets (length unit) size * size =
    mul-le (b.first_packet + b.shards) size (packets (length unit) size) size within (omega arith) in
    let turned : (b.first_packet + b.shards) * size ≡ b.first_packet * size + b.shards * size = omega arith in
    omega (arith, length-drop (b.first_packet * size) image, whole, room, turned)

-- data shards of an image that has payloads for all of them have the packet size
pub data_shards-sizes : (s : StreamSettings) (d count : ℕ) (image : List ℕ) → 17 ≤ s.packet → d * payload_of s ≤ length image
    → HaveSize s.packet (data_shards_from d 0 count (shares d (payload_of s) image))
data_shards-sizes s d count image least room = λ i e h.
    let size = payload_of s in
    let payloads = shares d size image in
    let shards = data_shards_from d 0 count payloads in
    let in_block : i < d = omega (arith, length-data_shards_from d 0 count payloads, length-shares d size image) in
    let one : (i + 1) * size ≤ d * size = mul-le (i + 1) size d size (omega arith) (omega arith) in
    let turned : (i + 1) * size ≡ i * size + size = omega arith in
    let payload = take size (drop (i * size) image) in
    let payload_size : length payload ≡ size =
    length-take-le size (drop (i * size) image) (omega (arith, length-drop (i * size) image, room, one, turned)) in
    let is : get_or shards i e ≡ data_shard (count + i) (flags d (0 + i)) payload =
    get_or_default shards i e [] h ∙ data_shard-from d 0 count payloads i (omega (arith, length-shares d size image))
    ∙ ap (data_shard (count + i) (flags d (0 + i))) (share-at d size image i in_block) in
    ap (λ (l : List ℕ). length l) is ∙ omega (arith, payload_size)

-- so those of a block
pub block_data-sizes : (s : StreamSettings) (f : LoadedFrame) (b : PlacedBlock) (unit : List ℕ) → 17 ≤ s.packet
    → b.first_packet + b.shards ≤ packets (length unit) (payload_of s) → HaveSize s.packet (block_data s f b unit)
block_data-sizes s f b unit least within =
    data_shards-sizes s b.shards (f.count + b.first_datagram) (block_image s f b unit) least (block_image-room s f b unit (omega arith) within)
