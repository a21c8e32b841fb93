-- The attributes that name a stream's settings.
use Rattle.std.specs.Prelude.{◌≡◌, ℕ, ◌++◌, nat_le, List, codes, decimal, Option, Some, None, IsSome, option_and_then}
use Rattle.std.specs.Prelude.{if◌then◌else◌}
use Rattle.gs_bytes.specs.Numbers.{decimal_up_to}
use Rattle.gs_rtp.specs.Limits.{least_packet, most_packet, least_fps, most_fps, most_minimum}
use Rattle.gs_rtp.specs.declared.settings.Settings.{Settings}
use Rattle.gs_sdp.specs.declared.attributes.SettingName.{SettingName}
use Rattle.gs_sdp.specs.declared.attributes.SettingName.TheVariants.{PacketSize, MaxFps, Minimum, Duration}
use Rattle.gs_sdp.specs.Lines.{last_value, line_text}

abbrev pub setting_name : SettingName → List ℕ
setting_name PacketSize = codes "x-nv-video[0].packetSize"
setting_name MaxFps = codes "x-nv-video[0].maxFPS"
setting_name Minimum = codes "x-nv-vqos[0].fec.minRequiredFecPackets"
setting_name Duration = codes "x-nv-aqos.packetDuration"

-- the decimal number of a value within a range, and another number where the name is missing
abbrev pub in_range : ℕ → ℕ → ℕ → Option ℕ
in_range least most n = if nat_le least n then Some n else None

abbrev pub number_in : ℕ → ℕ → ℕ → Option (List ℕ) → Option ℕ
number_in least most missing None = Some missing
number_in least most missing (Some value) = option_and_then (in_range least most) (decimal_up_to most value)

-- each setting that a body names, with its range and what it is where its name is missing
abbrev pub setting : SettingName → List ℕ → Settings → Option ℕ
setting PacketSize body offer = number_in least_packet most_packet 1392 (last_value (setting_name PacketSize) body)
setting MaxFps body offer = number_in least_fps most_fps 60 (last_value (setting_name MaxFps) body)
setting Minimum body offer = number_in 0 most_minimum 2 (last_value (setting_name Minimum) body)
setting Duration body offer = number_in offer.duration offer.duration offer.duration
    (last_value (setting_name Duration) body)

-- the settings by a body over an offer: the others are the offer's
pub record AreSettings (body : List ℕ) (offer s : Settings) : Type 0 where
  pub packet : setting PacketSize body offer ≡ Some s.packet
  pub fps : setting MaxFps body offer ≡ Some s.fps
  pub minimum : setting Minimum body offer ≡ Some s.minimum
  pub duration : setting Duration body offer ≡ Some s.duration
  pub percentage : s.percentage ≡ offer.percentage
  pub audio : s.audio ≡ offer.audio
  pub ssrc : s.ssrc ≡ offer.ssrc

-- the first of the four, in this order, that is out of range or no number
abbrev pub IsFirstBad : List ℕ → Settings → SettingName → Type 0
IsFirstBad body offer PacketSize = setting PacketSize body offer ≡ None
IsFirstBad body offer MaxFps = IsSome (setting PacketSize body offer) × (setting MaxFps body offer ≡ None)
IsFirstBad body offer Minimum = IsSome (setting PacketSize body offer) × IsSome (setting MaxFps body offer)
    × (setting Minimum body offer ≡ None)
IsFirstBad body offer Duration = IsSome (setting PacketSize body offer) × IsSome (setting MaxFps body offer)
    × IsSome (setting Minimum body offer) × (setting Duration body offer ≡ None)

-- the body that names the settings
abbrev pub body_text : Settings → List ℕ
body_text s = line_text (setting_name PacketSize) (decimal s.packet) ++ line_text (setting_name MaxFps) (decimal s.fps)
    ++ line_text (setting_name Minimum) (decimal s.minimum) ++ line_text (setting_name Duration) (decimal s.duration)

-- what is written is read again, over an offer with the same duration
abbrev pub IsReadAgain : Type 0
IsReadAgain = (s offer : Settings) → offer.duration ≡ s.duration → offer.percentage ≡ s.percentage
    → offer.audio ≡ s.audio → offer.ssrc ≡ s.ssrc → AreSettings (body_text s) offer s
