-- The settings that a stream is made with, as plain numbers.
pub use Rattle.gs_rtp.specs.Settings.{StreamSettings, AreSettingsWithinLimits}
use Rattle.gs_rtp.specs.declared.settings.Settings.{Settings}

abbrev pub numbers_of : Settings → StreamSettings
numbers_of s = record {
  packet = s.packet;
  percentage = s.percentage;
  minimum = s.minimum;
  fps = s.fps;
  duration = s.duration;
  audio = s.audio;
  ssrc = s.ssrc;
}
