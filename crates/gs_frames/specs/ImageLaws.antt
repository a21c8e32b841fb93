-- An image that was written is read.
use Rattle.std.specs.Prelude.{ℕ, ◌≡◌, ◌⊎◌, ◌≤◌, ◌<◌, ◌^◌, List, length}
use Rattle.gs_frames.specs.Image.{header_length, packets, most_packets, frame_image, IsFrameImage}

-- a kind that is written
abbrev pub IsWrittenKind : ℕ → Type 0
IsWrittenKind kind = (kind ≡ 1) ⊎ (kind ≡ 2) ⊎ (kind ≡ 5)

-- a reader finds the kind and the unit again
abbrev pub ImageIsRead : Type 0
ImageIsRead =
    (kind : ℕ) (unit : List ℕ) (payload : ℕ) → IsWrittenKind kind → header_length ≤ payload → payload < 2 ^ 16
    → packets (length unit) payload ≤ most_packets
    → IsFrameImage payload (frame_image kind unit payload) (record { kind = kind; unit = unit })
