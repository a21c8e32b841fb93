-- What the head of an image says of the frame that it holds.
use Rattle.std.specs.Prelude.{ℕ, ◌≤◌, ◌+◌, List, length, take, drop}
use Rattle.gs_depack.specs.declared.image.ImageHead.{ImageHead}
use Rattle.gs_frames.specs.Image.{IsFrameImage, header_length}

-- The image holds a frame of this kind, whose unit has this length, and stands behind the header.
pub record IsHeadOf (payload : ℕ) (image : List ℕ) (head : ImageHead) : Type 0 where
  pub is_image :
      IsFrameImage payload image
      (record { kind = head.kind; unit = take head.length (drop header_length image) })
  pub room : header_length + head.length ≤ length image
