-- What a frame holds of what counts.
use Rattle.std.specs.Prelude.{ℕ, ◌≡◌, ◌+◌, ◌<◌, ◌≤◌, Bool, true, not, ◌&&◌, List, [], ◌∷◌, length, Option, Some, nat_le}
use Rattle.std.specs.Prelude.{All, ◌==◌, if◌then◌else◌}
use Rattle.std.specs.List.{filter, slice_get}
use Rattle.gs_rtp.specs.Stream.{StreamSettings}
use Rattle.gs_frames.specs.declared.verdict.Added.{Added}
use Rattle.gs_frames.specs.declared.verdict.Added.TheVariants.{Foreign, Repeat, Spare, BlockWhole, FrameWhole}
use Rattle.gs_frames.specs.declared.verdict.Why.TheVariants.{Shape as OtherShape}
use Rattle.gs_frames.specs.declared.verdict.Shape.{Shape}
use Rattle.gs_frames.specs.Shards.{payload_of}
use Rattle.gs_frames.specs.Received.{Received, oldest, is_of_block}
use Rattle.gs_frames.specs.Verdict.{shape_came, shape_said, first_or, is_same_shape, is_repeat, is_spare}
use Rattle.gs_frames.specs.Verdict.{is_frame_whole, made_whole}
use Rattle.gs_frames.specs.Complete.{payloads}
use Rattle.gs_fecqueue.specs.declared.block.Block.{Block}
use Rattle.gs_fecqueue.specs.declared.frame.Frame.{Frame}
use Rattle.gs_fecqueue.specs.Holding.{data_of_block, HoldsBlock}

-- as many shards are held as the block has data shards
abbrev pub is_whole_room : Block → Bool
is_whole_room block = not (block.held == 0) && block.held == block.shards

-- what counts of a block of the frame is held
abbrev pub HoldsBlockOf : StreamSettings → List Received → ℕ → ℕ → Block → Type 0
HoldsBlockOf s counted frame b block =
    HoldsBlock s block (filter (is_of_block frame b) counted) (oldest (is_of_block frame b) counted)

-- It is held of each block; the frame's first datagram said which is the last one.
pub record HoldsBlocks (s : StreamSettings) (frame : Frame) (counted : List Received) (first : Received) : Type 0 where
  pub last : frame.last_block ≡ first.head.last_block
  pub blocks :
      (b : ℕ) (block : Block) → slice_get frame.blocks b ≡ Some block → HoldsBlockOf s counted frame.number b block

-- And a whole frame of several blocks has its image.
pub record HoldsFrame (s : StreamSettings) (frame : Frame) (counted : List Received) (first : Received) : Type 0 where
  pub holds : HoldsBlocks s frame counted first
  pub image :
      0 < first.head.last_block → is_frame_whole counted frame.number first.head.last_block ≡ true
      → payloads s counted frame.number (first.head.last_block + 1) ≡ Some frame.image.items

-- the data of the first of these blocks
abbrev pub first_data : ℕ → List Block → List ℕ
first_data size [] = []
first_data size (block ∷ blocks) = data_of_block size block

-- what stands where the image is
abbrev pub image_held : ℕ → Frame → List ℕ
image_held size frame = if frame.last_block == 0 then first_data size frame.blocks else frame.image.items

-- The verdict on r, of a frame that isn't left, by the first datagram of its frame.
abbrev pub frame_verdict : Received → Received → List Received → Added
frame_verdict first r counted =
    let had = shape_said first (first_or r (oldest (is_of_block r.head.frame r.head.block) counted)) in
    if not (is_same_shape had (shape_came r))
    then Foreign (OtherShape had (shape_came r))
    else (if is_repeat r counted then Repeat
    else (if is_spare r counted then Spare
    else made_whole r (r ∷ counted)))

-- what counts behind r
abbrev pub counted_behind : Bool → Received → List Received → List Received
counted_behind counts r counted = if counts then r ∷ counted else counted

-- what a block that became whole makes of its frame
abbrev pub completed : List Received → ℕ → ℕ → Added
completed counted frame last_block = if is_frame_whole counted frame last_block then FrameWhole else BlockWhole

-- another frame began, of which nothing is held
pub record IsBegun (frame : Frame) (number last_block : ℕ) : Type 0 where
  pub number_is : frame.number ≡ number
  pub last_is : frame.last_block ≡ last_block
  pub blocks : All (λ block. block.held ≡ 0) frame.blocks
