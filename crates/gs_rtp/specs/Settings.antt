-- The settings of a session's streams as plain numbers, which definitions are stated over, and their limits.
use Rattle.std.specs.Prelude.{◌≤◌, ℕ}
use Rattle.gs_bytes.specs.Limits.{most_audio, IsDuration}
use Rattle.gs_rtp.specs.Limits.{least_packet, most_packet, most_percentage, most_minimum, least_fps, most_fps}
use Rattle.gs_rtp.specs.Limits.{least_ssrc, most_ssrc}

-- packet size in bytes, percentage of parity and least number of parity shards of a block, frames per
-- second, duration of an audio unit in milliseconds and its length in bytes, and the session's number
pub record StreamSettings : Type 0 where
  pub packet : ℕ
  pub percentage : ℕ
  pub minimum : ℕ
  pub fps : ℕ
  pub duration : ℕ
  pub audio : ℕ
  pub ssrc : ℕ

pub record AreSettingsWithinLimits (s : StreamSettings) : Type 0 where
  pub packet_least : least_packet ≤ s.packet
  pub packet_greatest : s.packet ≤ most_packet
  pub percentage_greatest : s.percentage ≤ most_percentage
  pub minimum_greatest : s.minimum ≤ most_minimum
  pub fps_least : least_fps ≤ s.fps
  pub fps_greatest : s.fps ≤ most_fps
  pub duration_known : IsDuration s.duration
  pub audio_greatest : s.audio ≤ most_audio
  pub ssrc_least : least_ssrc ≤ s.ssrc
  pub ssrc_greatest : s.ssrc ≤ most_ssrc
