-- What is played of a sender's datagrams.
use Rattle.std.specs.Prelude.{ℕ, ◌≡◌, ◌<◌, ◌≤◌, List, length, Some, All, AllPairs, Contains}
use Rattle.std.specs.List.{slice_get}
use Rattle.gs_gf256.specs.Field.{IsByte}
use Rattle.gs_rtp.specs.Stream.{StreamSettings, AreSettingsWithinLimits}
use Rattle.gs_rtp.specs.Audio.{units_end}
use Rattle.gs_rtp.specs.AudioDatagrams.{audio_datagrams}
use Rattle.gs_audio.specs.Played.{PlayedUnit, played}

-- units that a session may have: of bytes, each as long as the settings say, and not too many
pub record AreSessionUnits (settings : StreamSettings) (units : List (List ℕ)) : Type 0 where
  pub sizes : All (λ unit. length unit ≡ settings.audio) units
  pub bytes : All (All IsByte) units
  pub few : length units ≤ units_end

-- each is one of the datagrams of these units
abbrev pub AreOfUnits : StreamSettings → List (List ℕ) → List (List ℕ) → Type 0
AreOfUnits settings units came = All (Contains (audio_datagrams settings units)) came

-- it is the unit of its number
abbrev pub IsUnitOf : List (List ℕ) → PlayedUnit → Type 0
IsUnitOf units unit = slice_get units unit.number ≡ Some unit.bytes

-- Whichever of the datagrams of these units came, however often and in whatever order, each unit that is played is the
-- unit of its number.
abbrev pub PlayedUnitsWereSent : Type 0
PlayedUnitsWereSent =
    (settings : StreamSettings) (units came : List (List ℕ)) → AreSettingsWithinLimits settings
    → AreSessionUnits settings units → AreOfUnits settings units came
    → All (IsUnitOf units) (played settings came)

-- the numbers of units rise
abbrev pub HaveRisingNumbers : List PlayedUnit → Type 0
HaveRisingNumbers units = AllPairs (λ p q. p.number < q.number) units

-- Whatever came, of any bytes, those of the units that are played do.
abbrev pub PlayedUnitsRise : Type 0
PlayedUnitsRise = (settings : StreamSettings) (came : List (List ℕ)) → HaveRisingNumbers (played settings came)
