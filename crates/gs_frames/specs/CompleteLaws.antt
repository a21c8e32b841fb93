-- A frame that is complete stays so, and is the one that was sent.
use Rattle.std.specs.Prelude.{ℕ, ◌≡◌, ◌≢◌, ◌+◌, ◌<◌, true, List, ◌∷◌, length, Some, All, AllPairs, Contains}
use Rattle.std.specs.List.{slice_get}
use Rattle.gs_frames.specs.Client.{ClientSettings}
use Rattle.gs_frames.specs.Image.{Frame}
use Rattle.gs_frames.specs.Plan.{BlockPlan}
use Rattle.gs_frames.specs.Datagrams.{unit_plan, OutgoingFrame, frame_shards}
use Rattle.gs_frames.specs.Received.{Received, is_of_block}
use Rattle.gs_frames.specs.Complete.{IsComplete}
use Rattle.gs_frames.specs.FrameLaws.{IsSent}

-- what came of a frame is among what it was sent as
abbrev pub ComesFrom : List Received → ℕ → List Received → Type 0
ComesFrom sent frame rs = All (λ r. r.head.frame ≡ frame → Contains sent r) rs

-- A frame that is complete stays so, and holds the same, whatever comes next.
abbrev pub CompleteFrameStays : Type 0
CompleteFrameStays =
    (client : ClientSettings) (r : Received) (rs : List Received) (frame : ℕ) (held : Frame)
    → IsComplete client rs frame held → IsComplete client (r ∷ rs) frame held

-- A frame that is complete is the one that was sent, however its datagrams came: with its kind, and its unit byte
-- for byte.
abbrev pub CompleteFrameIsSent : Type 0
CompleteFrameIsSent =
    (client : ClientSettings) (out : OutgoingFrame) (rs : List Received) (held : Frame)
    → IsSent client.stream out → ComesFrom (frame_shards client.stream out) out.frame rs
    → IsComplete client rs out.frame held → held ≡ record { kind = out.kind; unit = out.unit }

-- as many of a frame's blocks' datagrams are there as the block has data shards, no two of one number
pub record HasEnough (rs : List Received) (frame block data_shards : ℕ) : Type 0 where
  pub chosen : List Received
  pub count : length chosen ≡ data_shards
  pub distinct : AllPairs (λ r s. r.head.index ≢ s.head.index) chosen
  pub of_block : All (λ r. is_of_block frame block r ≡ true) chosen
  pub came : All (Contains rs) chosen

-- Where the frame isn't left yet, it is complete once enough datagrams of each of its blocks came, any of them in any
-- order.
abbrev pub EnoughCompleteFrame : Type 0
EnoughCompleteFrame =
    (client : ClientSettings) (out : OutgoingFrame) (rs : List Received)
    → IsSent client.stream out → ComesFrom (frame_shards client.stream out) out.frame rs
    → All (λ r. r.head.frame < out.frame + client.window) rs
    → ((block : ℕ) (plan : BlockPlan) → slice_get (unit_plan client.stream out.unit) block ≡ Some plan
    → HasEnough rs out.frame block plan.data_shards)
    → IsComplete client rs out.frame (record { kind = out.kind; unit = out.unit })
