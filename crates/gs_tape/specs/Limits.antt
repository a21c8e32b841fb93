-- The limits of a capture file and of its ticks.
use Rattle.std.specs.Prelude.{ℕ, ◌≡◌, ◌+◌, ◌^◌, ◌<◌, ◌≤◌, List, [], ◌∷◌, length}
use Rattle.std.specs.List.{All, sum_by}
pub use Rattle.gs_bytes.specs.Limits.{most_unit, most_audio, most_generated, short_duration, long_duration, IsDuration}
use Rattle.gs_tape.specs.declared.limits.TheConstants.{MOST_TICKS, MOST_BYTES, MOST_COUNT}
use Rattle.gs_tape.specs.declared.limits.TheConstants.{GENERATED_AUDIO, GENERATED_DURATION}
use Rattle.gs_tape.specs.Tick.{Tick, Delta, unit_bytes}

-- ticks of a file
abbrev pub most_ticks : ℕ
most_ticks = MOST_TICKS

-- bytes of all units of a file together
abbrev pub most_bytes : ℕ
most_bytes = MOST_BYTES

-- deltas of one tick, and audio units of one tick
abbrev pub most_count : ℕ
most_count = MOST_COUNT

-- what is generated has audio units of 240 bytes and 5 ms
abbrev pub generated_audio : ℕ
generated_audio = GENERATED_AUDIO

abbrev pub generated_duration : ℕ
generated_duration = GENERATED_DURATION

-- deltas whose named ticks rise, from above one number to below another, with units in their limit
abbrev pub AreDeltasBetween : ℕ → ℕ → List Delta → Type 0
AreDeltasBetween above below [] = Unit {0}
AreDeltasBetween above below (d ∷ ds) =
    (above < d.named) × (d.named < below) × (length d.unit ≤ most_unit) × AreDeltasBetween d.named below ds

-- a tick of this number in a file with audio units of this length, where the tick before has this time
pub record IsWithinLimits (audio number time : ℕ) (t : Tick) : Type 0 where
  pub number_is : t.number ≡ number
  pub number_most : number ≤ most_ticks
  pub not_earlier : time ≤ t.time
  pub time_fits : t.time < 2 ^ 32
  pub idr_most : length t.idr ≤ most_unit
  pub deltas_most : length t.deltas ≤ most_count
  pub deltas_between : AreDeltasBetween 0 number t.deltas
  pub audio_most : length t.audio ≤ most_count
  pub silent : audio ≡ 0 → length t.audio ≡ 0
  pub audio_whole : All (λ unit. length unit ≡ audio) t.audio

-- ticks numbered on from a number, whose times never fall
abbrev pub AreWithinLimits : ℕ → ℕ → ℕ → List Tick → Type 0
AreWithinLimits audio number time [] = Unit {0}
AreWithinLimits audio number time (t ∷ ts) =
    IsWithinLimits audio number time t × AreWithinLimits audio (number + 1) t.time ts

-- the k-th tick has number k, and keeps the limits
pub record IsTickWithinLimits (audio k : ℕ) (t : Tick) : Type 0 where
  pub before : ℕ
  pub within : IsWithinLimits audio k before t

-- each unit of a tick is a list of bytes
pub record HoldsBytes (t : Tick) : Type 0 where
  pub idr : All (λ b. b < 2 ^ 8) t.idr
  pub deltas : All (λ d. All (λ b. b < 2 ^ 8) d.unit) t.deltas
  pub audio : All (All (λ b. b < 2 ^ 8)) t.audio

-- ticks that a file with this head can hold
pub record AreWritable (audio duration : ℕ) (ticks : List Tick) : Type 0 where
  pub audio_most : audio ≤ most_audio
  pub duration_known : IsDuration duration
  pub within : AreWithinLimits audio 1 0 ticks
  pub bytes_most : sum_by unit_bytes ticks ≤ most_bytes
