-- The shards of a frame, block after block.
use Rattle.std.proofs.Common.{◌≡◌, ◌<◌, ◌+◌, ◌*◌, ℕ, zero, suc, List, [], ◌∷◌, ◌++◌, length, drop, map, Some, refl, sym, ap, ◌∙◌, arith}
use Rattle.std.specs.List.{concat, slice_get}
use Rattle.std.proofs.lemmas.List.{length-append, append-nil, append_assoc, map-append, drop-drop}
use Rattle.std.proofs.lemmas.List.Folds.{concat-append}
use Rattle.std.proofs.lemmas.List.FromFn.{length-map-range_with_len}
use Rattle.std.proofs.lemmas.Option.{slice_get_within}
use Rattle.gs_rs.specs.Shape.{video_code}
use Rattle.gs_rs.specs.Shards.{parity_shard}
use Rattle.gs_rs.proofs.HeldShards.{parity_shards, slice_get-append_left}
use Rattle.gs_rtp.specs.Stream.{StreamSettings}
use Rattle.gs_frames.specs.Plan.{BlockPlan}
use Rattle.gs_frames.specs.Shards.{payload_of, shares, block_shards}
use Rattle.gs_frames.specs.Received.{Received}
use Rattle.gs_frames.specs.Datagrams.{Place, next_block, headed_shard, headed_shards, headed_blocks}
use Rattle.gs_frames.proofs.FramesReceived.{place_at}
use Rattle.gs_frames.proofs.ShardForms.{length-shares, data_shards_of, length-data_shards_from}
use Rattle.gs_frames.proofs.OneBlock.{length-headed_shards}
use Rattle.gs_split.specs.Places.{packets_before, datagrams_before}

-- ---- one block

pub length-block_shards : (s : StreamSettings) (plan : BlockPlan) (count : ℕ) (image : List ℕ)
    → length (block_shards s plan count image) ≡ plan.data_shards + plan.parity_shards
length-block_shards s plan count image =
    let code = video_code plan.data_shards plan.parity_shards in
    let payloads = shares plan.data_shards (payload_of s) image in
    let shards = data_shards_of s plan count image in
    omega (
      arith,
      length-append shards (parity_shards code s.packet shards),
      length-data_shards_from plan.data_shards 0 count payloads,
      length-shares plan.data_shards (payload_of s) image,
      length-map-range_with_len (parity_shard code s.packet shards) 0 plan.parity_shards,
    )

pub shards-of_headed : (s : StreamSettings) (place : Place) (plan : BlockPlan) (count index : ℕ) (shards : List (List ℕ))
    → map (λ r. r.shard) (headed_shards s place plan count index shards) ≡ shards
shards-of_headed s place plan count index [] = refl
shards-of_headed s place plan count index (shard ∷ shards) =
    ap (λ (l : List (List ℕ)). shard ∷ l) (shards-of_headed s place plan (count + 1) (index + 1) shards)

-- each has its place
headed-at : (s : StreamSettings) (place : Place) (plan : BlockPlan) (count index : ℕ) (shards : List (List ℕ)) (i : ℕ) (shard : List ℕ)
    → slice_get shards i ≡ Some shard
    → slice_get (headed_shards s place plan count index shards) i ≡ Some (headed_shard s place plan (count + i) (index + i) shard)
headed-at s place plan count index [] i shard e = cc
headed-at s place plan count index (first ∷ shards) zero shard e =
    let same : first ≡ shard = cc in
    let number : count ≡ count + 0 = omega arith in
    let at : index ≡ index + 0 = omega arith in
    ap (λ (l : List ℕ). Some (headed_shard s place plan count index l)) same
    ∙ ap (λ (n : ℕ). Some (headed_shard s place plan n index shard)) number
    ∙ ap (λ (n : ℕ). Some (headed_shard s place plan (count + 0) n shard)) at
headed-at s place plan count index (first ∷ shards) (suc i) shard e =
    let number : count + 1 + i ≡ count + suc i = omega arith in
    let at : index + 1 + i ≡ index + suc i = omega arith in
    headed-at s place plan (count + 1) (index + 1) shards i shard e
    ∙ ap (λ (n : ℕ). Some (headed_shard s place plan n (index + 1 + i) shard)) number
    ∙ ap (λ (n : ℕ). Some (headed_shard s place plan (count + suc i) n shard)) at

-- ---- all blocks

pub length-blocks : (s : StreamSettings) (place : Place) (count : ℕ) (plans : List BlockPlan) (image : List ℕ)
    → length (headed_blocks s place count plans image) ≡ datagrams_before (length plans) plans
length-blocks s place count [] image = refl
length-blocks s place count (plan ∷ plans) image =
    let shards = block_shards s plan count image in
    let more = count + plan.data_shards + plan.parity_shards in
    let left = drop (plan.data_shards * payload_of s) image in
    omega (
      arith,
      length-append (headed_shards s place plan count 0 shards) (headed_blocks s (next_block place) more plans left),
      length-headed_shards s place plan count 0 shards,
      length-block_shards s plan count image,
      length-blocks s (next_block place) more plans left,
    )

-- an element of the second of two lists
slice_get-append_right : {X : Type 0} (xs ys : List X) (n i : ℕ) → n ≡ length xs + i → slice_get (xs ++ ys) n ≡ slice_get ys i
slice_get-append_right [] ys n i is = ap (slice_get ys) (is ∙ omega arith)
slice_get-append_right (x ∷ xs) ys zero i is = absurd (omega arith)
slice_get-append_right (x ∷ xs) ys (suc n) i is = slice_get-append_right xs ys n i (omega arith)

-- the shard of this index of a block stands behind those of the blocks before it
pub blocks-at : (s : StreamSettings) (frame time last block count : ℕ) (plans : List BlockPlan) (image : List ℕ) (b at : ℕ) (plan : BlockPlan)
    (index n : ℕ) (shard : List ℕ) → at ≡ block + b → n ≡ datagrams_before b plans + index → slice_get plans b ≡ Some plan
    → slice_get (block_shards s plan (count + datagrams_before b plans) (drop (packets_before b plans * payload_of s) image)) index ≡ Some shard
    → slice_get (headed_blocks s (place_at frame time last block) count plans image) n
    ≡ Some (headed_shard s (place_at frame time last at) plan (count + n) index shard)
blocks-at s frame time last block count [] image b at plan index n shard here n_is e shard_is = cc
blocks-at s frame time last block count (first ∷ plans) image zero at plan index n shard here n_is e shard_is =
    let same : first ≡ plan = cc in
    let place = place_at frame time last block in
    let shards = block_shards s first count image in
    let these = headed_shards s place first count 0 shards in
    let rest = headed_blocks s (next_block place) (count + first.data_shards + first.parity_shards) plans (drop (first.data_shards * payload_of s) image) in
    let number : count ≡ count + 0 = omega arith in
    let none : 0 ≡ 0 * payload_of s = omega arith in
    let n_index : n ≡ index = n_is ∙ omega arith in
    let place_is : block ≡ at = omega arith in
    let count_is : count + index ≡ count + n = omega arith in
    let index_is : 0 + index ≡ index = omega arith in
    let is : slice_get shards index ≡ Some shard =
    ap (λ (p : BlockPlan). slice_get (block_shards s p count image) index) same
    ∙ ap (λ (m : ℕ). slice_get (block_shards s plan m image) index) number
    ∙ ap (λ (m : ℕ). slice_get (block_shards s plan (count + 0) (drop m image)) index) none
    ∙ shard_is in
    let within : index < length these = omega (arith, length-headed_shards s place first count 0 shards, slice_get_within shards index shard is) in
    ap (slice_get (these ++ rest)) n_index
    ∙ slice_get-append_left these rest index within
    ∙ headed-at s place first count 0 shards index shard is
    ∙ ap (λ (m : ℕ). Some (headed_shard s place first m (0 + index) shard)) count_is
    ∙ ap (λ (m : ℕ). Some (headed_shard s place first (count + n) m shard)) index_is
    ∙ ap (λ (p : BlockPlan). Some (headed_shard s place p (count + n) index shard)) same
    ∙ ap (λ (m : ℕ). Some (headed_shard s (place_at frame time last m) plan (count + n) index shard)) place_is
blocks-at s frame time last block count (first ∷ plans) image (suc b) at plan index n shard here n_is e shard_is =
    let size = payload_of s in
    let place = place_at frame time last block in
    let shards = block_shards s first count image in
    let these = headed_shards s place first count 0 shards in
    let more = count + first.data_shards + first.parity_shards in
    let left = drop (first.data_shards * size) image in
    let rest = headed_blocks s (next_block place) more plans left in
    let m = datagrams_before b plans + index in
    let number : more + datagrams_before b plans ≡ count + (first.data_shards + first.parity_shards + datagrams_before b plans) = omega arith in
    let bytes : first.data_shards * size + packets_before b plans * size ≡ (first.data_shards + packets_before b plans) * size = omega arith in
    let is : slice_get (block_shards s plan (more + datagrams_before b plans) (drop (packets_before b plans * size) left)) index ≡ Some shard =
    ap (λ (k : ℕ). slice_get (block_shards s plan k (drop (packets_before b plans * size) left)) index) number
    ∙ ap (λ (l : List ℕ). slice_get (block_shards s plan (count + (first.data_shards + first.parity_shards + datagrams_before b plans)) l) index)
    (drop-drop (packets_before b plans * size) (first.data_shards * size) image)
    ∙ ap (λ (k : ℕ). slice_get (block_shards s plan (count + (first.data_shards + first.parity_shards + datagrams_before b plans)) (drop k image)) index) bytes
    ∙ shard_is in
    let behind : n ≡ length these + m = omega (arith, length-headed_shards s place first count 0 shards, length-block_shards s first count image) in
    let count_is : more + m ≡ count + n = omega arith in
    slice_get-append_right these rest n m behind
    ∙ blocks-at s frame time last (block + 1) more plans left b at plan index m shard (omega arith) refl e is
    ∙ ap (λ (k : ℕ). Some (headed_shard s (place_at frame time last at) plan k index shard)) count_is

-- ---- the blocks laid end to end

-- the first so many of them
abbrev pub laid : StreamSettings → ℕ → ℕ → List BlockPlan → List ℕ → List ℕ
laid s zero count plans image = []
laid s (suc b) count [] image = []
laid s (suc b) count (plan ∷ plans) image =
    concat (block_shards s plan count image)
    ++ laid s b (count + plan.data_shards + plan.parity_shards) plans (drop (plan.data_shards * payload_of s) image)

-- one more
pub laid-next : (s : StreamSettings) (b count : ℕ) (plans : List BlockPlan) (plan : BlockPlan) (image : List ℕ) → slice_get plans b ≡ Some plan
    → laid s (suc b) count plans image
    ≡ laid s b count plans image
    ++ concat (block_shards s plan (count + datagrams_before b plans) (drop (packets_before b plans * payload_of s) image))
laid-next s b count [] plan image e = cc
laid-next s zero count (first ∷ plans) plan image e =
    let same : first ≡ plan = cc in
    let number : count ≡ count + 0 = omega arith in
    let none : 0 ≡ 0 * payload_of s = omega arith in
    append-nil (concat (block_shards s first count image))
    ∙ ap (λ (p : BlockPlan). concat (block_shards s p count image)) same
    ∙ ap (λ (n : ℕ). concat (block_shards s plan n image)) number
    ∙ ap (λ (n : ℕ). concat (block_shards s plan (count + 0) (drop n image))) none
laid-next s (suc b) count (first ∷ plans) plan image e =
    let size = payload_of s in
    let front = concat (block_shards s first count image) in
    let more = count + first.data_shards + first.parity_shards in
    let left = drop (first.data_shards * size) image in
    let number : more + datagrams_before b plans ≡ count + (first.data_shards + first.parity_shards + datagrams_before b plans) = omega arith in
    let bytes : first.data_shards * size + packets_before b plans * size ≡ (first.data_shards + packets_before b plans) * size = omega arith in
    ap (λ (l : List ℕ). front ++ l) (laid-next s b more plans plan left e)
    ∙ sym (append_assoc front (laid s b more plans left)
    (concat (block_shards s plan (more + datagrams_before b plans) (drop (packets_before b plans * size) left))))
    ∙ ap (λ (n : ℕ). front ++ laid s b more plans left ++ concat (block_shards s plan n (drop (packets_before b plans * size) left))) number
    ∙ ap (λ (l : List ℕ). front ++ laid s b more plans left
    ++ concat (block_shards s plan (count + (first.data_shards + first.parity_shards + datagrams_before b plans)) l))
    (drop-drop (packets_before b plans * size) (first.data_shards * size) image)
    ∙ ap (λ (n : ℕ). front ++ laid s b more plans left
    ++ concat (block_shards s plan (count + (first.data_shards + first.parity_shards + datagrams_before b plans)) (drop n image))) bytes

-- all of them
pub laid-all : (s : StreamSettings) (place : Place) (count : ℕ) (plans : List BlockPlan) (image : List ℕ)
    → laid s (length plans) count plans image ≡ concat (map (λ r. r.shard) (headed_blocks s place count plans image))
laid-all s place count [] image = refl
laid-all s place count (plan ∷ plans) image =
    let shards = block_shards s plan count image in
    let more = count + plan.data_shards + plan.parity_shards in
    let left = drop (plan.data_shards * payload_of s) image in
    let first = headed_shards s place plan count 0 shards in
    let rest = headed_blocks s (next_block place) more plans left in
    ap (λ (l : List ℕ). concat shards ++ l) (laid-all s (next_block place) more plans left)
    ∙ ap (λ (l : List (List ℕ)). concat l ++ concat (map (λ (r : Received). r.shard) rest)) (sym (shards-of_headed s place plan count 0 shards))
    ∙ sym (concat-append (map (λ (r : Received). r.shard) first) (map (λ (r : Received). r.shard) rest))
    ∙ ap concat (sym (map-append (λ (r : Received). r.shard) first rest))
