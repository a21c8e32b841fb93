-- What is received of the datagrams of a frame: the shards that they were made of.
use Rattle.std.specs.Prelude.{◌≡◌, ◌≤◌, length, map, Some, All}
use Rattle.gs_gf256.specs.Field.{IsByte}
use Rattle.gs_bytes.specs.Limits.{most_unit}
use Rattle.gs_rtp.specs.Limits.{most_frame}
use Rattle.gs_rtp.specs.Stream.{StreamSettings, AreSettingsWithinLimits}
use Rattle.gs_frames.specs.ImageLaws.{IsWrittenKind}
use Rattle.gs_frames.specs.Received.{received}
use Rattle.gs_frames.specs.Datagrams.{OutgoingFrame, frame_shards, frame_datagrams}

-- a frame that a host sends: its settings are within their limits, and its number is in the grammar
pub record IsSent (settings : StreamSettings) (out : OutgoingFrame) : Type 0 where
  pub limits : AreSettingsWithinLimits settings
  pub frame_least : 1 ≤ out.frame
  pub frame_greatest : out.frame ≤ most_frame
  pub written : IsWrittenKind out.kind
  pub unit_greatest : length out.unit ≤ most_unit
  pub unit_bytes : All IsByte out.unit

-- each datagram of a frame is received as the shard that it was made of
abbrev pub FrameIsReceived : Type 0
FrameIsReceived =
    (settings : StreamSettings) (out : OutgoingFrame) → IsSent settings out
    → map (received settings) (frame_datagrams settings out) ≡ map (λ r. Some r) (frame_shards settings out)
