-- Where the blocks of a frame stand in its image, and what is received of each.
use Rattle.std.proofs.Common.{◌≡◌, ◌≤◌, ◌+◌, ◌-◌, ◌*◌, ℕ, zero, suc, List, [], ◌∷◌, length, drop, Some, refl, ap, subst, ◌∙◌, arith}
use Rattle.std.specs.List.{All, slice_get}
use Rattle.std.proofs.lemmas.List.{length-drop, nil_from_length}
use Rattle.std.proofs.lemmas.List.Elements.{All-nil, All-cons, All-append, All-drop, All-weaker}
use Rattle.gs_gf256.specs.Field.{IsByte}
use Rattle.gs_rtp.specs.Stream.{StreamSettings}
use Rattle.gs_frames.specs.Shards.{payload_of, block_shards}
use Rattle.gs_frames.specs.Datagrams.{Place, headed_shard, headed_shards, headed_blocks, unit_plan, OutgoingFrame, frame_shards}
use Rattle.gs_frames.specs.Image.{frame_image}
use Rattle.gs_frames.specs.Plan.{BlockPlan}
use Rattle.gs_frames.specs.Received.{Received}
use Rattle.gs_frames.proofs.FramesReceived.{data_total, data_total-cons, place_at}

-- ---- where a block stands

-- the number of datagrams before a block
abbrev pub count_at : ℕ → ℕ → List BlockPlan → ℕ
count_at zero count plans = count
count_at (suc b) count [] = count
count_at (suc b) count (plan ∷ plans) = count_at b (count + plan.data_shards + plan.parity_shards) plans

-- the image from a block on, where a payload has this size
abbrev pub image_at : ℕ → ℕ → List BlockPlan → List ℕ → List ℕ
image_at size zero plans image = image
image_at size (suc b) [] image = image
image_at size (suc b) (plan ∷ plans) image = image_at size b plans (drop (plan.data_shards * size) image)

-- behind a block stands the next one
pub image_at-next : (size b : ℕ) (plans : List BlockPlan) (plan : BlockPlan) (image : List ℕ) → slice_get plans b ≡ Some plan
    → image_at size (suc b) plans image ≡ drop (plan.data_shards * size) (image_at size b plans image)
image_at-next size b [] plan image e = cc
image_at-next size zero (first ∷ plans) plan image e =
    let same : first ≡ plan = cc in ap (λ (p : BlockPlan). drop (p.data_shards * size) image) same
image_at-next size (suc b) (first ∷ plans) plan image e = image_at-next size b plans plan (drop (first.data_shards * size) image) e

-- an image with room for all blocks has room for this one
pub image_at-room : (size b : ℕ) (plans : List BlockPlan) (plan : BlockPlan) (image : List ℕ) → data_total plans * size ≤ length image
    → slice_get plans b ≡ Some plan → plan.data_shards * size ≤ length (image_at size b plans image)
image_at-room size b [] plan image room e = cc
image_at-room size zero (first ∷ plans) plan image room e =
    let same : first ≡ plan = cc in
    let total : data_total (first ∷ plans) * size ≡ first.data_shards * size + data_total plans * size =
    ap (λ (n : ℕ). n * size) (data_total-cons first plans) ∙ omega arith in
    let Fits : BlockPlan → Type 0 = λ p. p.data_shards * size ≤ length image in
    subst Fits same (omega arith)
image_at-room size (suc b) (first ∷ plans) plan image room e =
    let total : data_total (first ∷ plans) * size ≡ first.data_shards * size + data_total plans * size =
    ap (λ (n : ℕ). n * size) (data_total-cons first plans) ∙ omega arith in
    image_at-room size b plans plan (drop (first.data_shards * size) image) (omega (arith, length-drop (first.data_shards * size) image)) e

-- it is bytes
pub image_at-bytes : (size b : ℕ) (plans : List BlockPlan) (image : List ℕ) → All IsByte image → All IsByte (image_at size b plans image)
image_at-bytes size zero plans image bytes = bytes
image_at-bytes size (suc b) [] image bytes = bytes
image_at-bytes size (suc b) (plan ∷ plans) image bytes =
    image_at-bytes size b plans (drop (plan.data_shards * size) image) (All-drop IsByte (plan.data_shards * size) image bytes)

-- where all blocks are the image
pub image_at-end : (size : ℕ) (plans : List BlockPlan) (image : List ℕ) → length image ≡ data_total plans * size
    → image_at size (length plans) plans image ≡ []
image_at-end size [] image whole = nil_from_length image (whole ∙ omega arith)
image_at-end size (plan ∷ plans) image whole =
    let total : data_total (plan ∷ plans) * size ≡ plan.data_shards * size + data_total plans * size =
    ap (λ (n : ℕ). n * size) (data_total-cons plan plans) ∙ omega arith in
    image_at-end size plans (drop (plan.data_shards * size) image) (omega (arith, length-drop (plan.data_shards * size) image))

-- ---- what is received of a block

-- a head of this block
pub record IsOfPlace (place : Place) (plan : BlockPlan) (r : Received) : Type 0 where
  pub frame : r.head.frame ≡ place.frame
  pub block : r.head.block ≡ place.block
  pub last_block : r.head.last_block ≡ place.last_block
  pub shards : r.head.shards ≡ plan.data_shards
  pub percentage : r.head.percentage ≡ plan.percentage

-- a shard of this block, by its number
pub record IsShardOf (place : Place) (plan : BlockPlan) (shards : List (List ℕ)) (r : Received) : Type 0 where
  pub head : IsOfPlace place plan r
  pub shard : slice_get shards r.head.index ≡ Some r.shard

-- where the numbers begin at an index
record IsShardFrom (place : Place) (plan : BlockPlan) (index : ℕ) (shards : List (List ℕ)) (r : Received) : Type 0 where
  head : IsOfPlace place plan r
  number : ℕ
  number_is : r.head.index ≡ index + number
  shard : slice_get shards number ≡ Some r.shard

-- each shard of a block, from an index on
shards_from-are : (s : StreamSettings) (place : Place) (plan : BlockPlan) (count index : ℕ) (shards : List (List ℕ))
    → All (IsShardFrom place plan index shards) (headed_shards s place plan count index shards)
shards_from-are s place plan count index [] = All-nil (IsShardFrom place plan index [])
shards_from-are s place plan count index (shard ∷ shards) =
    All-cons (IsShardFrom place plan index (shard ∷ shards)) (headed_shard s place plan count index shard)
    (headed_shards s place plan (count + 1) (index + 1) shards)
    (record {
      head = record { frame = refl; block = refl; last_block = refl; shards = refl; percentage = refl };
      number = 0;
      number_is = omega arith;
      shard = refl;
    })
    (All-weaker (IsShardFrom place plan (index + 1) shards) (IsShardFrom place plan index (shard ∷ shards))
    (λ r h. record { head = h.head; number = suc h.number; number_is = omega (arith, h.number_is); shard = h.shard })
    (headed_shards s place plan (count + 1) (index + 1) shards) (shards_from-are s place plan (count + 1) (index + 1) shards))

-- each shard of a block
pub shards-are : (s : StreamSettings) (place : Place) (plan : BlockPlan) (count : ℕ) (shards : List (List ℕ))
    → All (IsShardOf place plan shards) (headed_shards s place plan count 0 shards)
shards-are s place plan count shards =
    All-weaker (IsShardFrom place plan 0 shards) (IsShardOf place plan shards)
    (λ r h.
    let number : r.head.index ≡ h.number = omega (arith, h.number_is) in
    record { head = h.head; shard = ap (slice_get shards) number ∙ h.shard })
    (headed_shards s place plan count 0 shards) (shards_from-are s place plan count 0 shards)

-- ---- what is received of a frame

-- each is of a block from this one on, and says which is the last
pub record IsFrom (of last begin : ℕ) (r : Received) : Type 0 where
  pub frame : r.head.frame ≡ of
  pub last_block : r.head.last_block ≡ last
  pub block : begin ≤ r.head.block

-- of any blocks
pub blocks_from-are : (s : StreamSettings) (frame time last block count : ℕ) (plans : List BlockPlan) (image : List ℕ)
    → All (IsFrom frame last block) (headed_blocks s (place_at frame time last block) count plans image)
blocks_from-are s frame time last block count [] image = All-nil (IsFrom frame last block)
blocks_from-are s frame time last block count (plan ∷ plans) image =
    let place : Place = record { frame = frame; time = time; block = block; last_block = last } in
    let shards = block_shards s plan count image in
    let first = headed_shards s place plan count 0 shards in
    let more = count + plan.data_shards + plan.parity_shards in
    let left = drop (plan.data_shards * payload_of s) image in
    let rest = headed_blocks s (place_at frame time last (block + 1)) more plans left in
    All-append (IsFrom frame last block) first rest
    (All-weaker (IsShardOf place plan shards) (IsFrom frame last block)
    (λ r h. record { frame = h.head.frame; last_block = h.head.last_block; block = omega (arith, h.head.block) })
    first (shards-are s place plan count shards))
    (All-weaker (IsFrom frame last (block + 1)) (IsFrom frame last block)
    (λ r h. record { frame = h.frame; last_block = h.last_block; block = omega (arith, h.block) })
    rest (blocks_from-are s frame time last (block + 1) more plans left))

-- what is of it is one of its shards
abbrev IsShardAt : StreamSettings → ℕ → ℕ → ℕ → ℕ → ℕ → BlockPlan → List ℕ → Received → Type 0
IsShardAt s frame time last at count plan image r =
    r.head.block ≡ at → IsShardOf (place_at frame time last at) plan (block_shards s plan count image) r

-- all of any block of them
pub blocks-are : (s : StreamSettings) (frame time last block count : ℕ) (plans : List BlockPlan) (image : List ℕ) (at b : ℕ) (plan : BlockPlan)
    → at ≡ block + b → slice_get plans b ≡ Some plan
    → All (IsShardAt s frame time last at (count_at b count plans) plan (image_at (payload_of s) b plans image))
    (headed_blocks s (place_at frame time last block) count plans image)
blocks-are s frame time last block count [] image at b plan here e = cc
blocks-are s frame time last block count (first ∷ plans) image at zero plan here e =
    let same : first ≡ plan = cc in
    let place = place_at frame time last block in
    let shards = block_shards s first count image in
    let these = headed_shards s place first count 0 shards in
    let more = count + first.data_shards + first.parity_shards in
    let left = drop (first.data_shards * payload_of s) image in
    let rest = headed_blocks s (place_at frame time last (block + 1)) more plans left in
    let begin : block ≡ at = omega arith in
    let OfPlan : BlockPlan → Type 0 = λ p. All (IsShardAt s frame time last block count p image) these in
    let OfBlock : ℕ → Type 0 = λ a. All (IsShardAt s frame time last a count plan image) these in
    All-append (IsShardAt s frame time last at count plan image) these rest
    (subst OfBlock begin (subst OfPlan same
    (All-weaker (IsShardOf place first shards) (IsShardAt s frame time last block count first image) (λ r h at_it. h)
    these (shards-are s place first count shards))))
    (All-weaker (IsFrom frame last (block + 1)) (IsShardAt s frame time last at count plan image)
    (λ r h at_it. absurd (omega (arith, h.block))) rest (blocks_from-are s frame time last (block + 1) more plans left))
blocks-are s frame time last block count (first ∷ plans) image at (suc b) plan here e =
    let place = place_at frame time last block in
    let shards = block_shards s first count image in
    let these = headed_shards s place first count 0 shards in
    let more = count + first.data_shards + first.parity_shards in
    let left = drop (first.data_shards * payload_of s) image in
    let rest = headed_blocks s (place_at frame time last (block + 1)) more plans left in
    let P = IsShardAt s frame time last at (count_at b more plans) plan (image_at (payload_of s) b plans left) in
    All-append P these rest
    (All-weaker (IsShardOf place first shards) P (λ r h at_it. absurd (omega (arith, h.head.block)))
    these (shards-are s place first count shards))
    (blocks-are s frame time last (block + 1) more plans left at b plan (omega arith) e)

-- the shards of a frame are of that frame
pub frame_shards-frame : (s : StreamSettings) (out : OutgoingFrame) → All (λ r. r.head.frame ≡ out.frame) (frame_shards s out)
unfolding frame_shards
frame_shards-frame s out =
    let plans = unit_plan s out.unit in
    let last = length plans - 1 in
    let image = frame_image out.kind out.unit (payload_of s) in
    All-weaker (IsFrom out.frame last 0) (λ r. r.head.frame ≡ out.frame) (λ r h. h.frame)
    (headed_blocks s (place_at out.frame out.time last 0) out.count plans image)
    (blocks_from-are s out.frame out.time last 0 out.count plans image)
