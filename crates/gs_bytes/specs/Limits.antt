-- The limits that crates share which don't stand on each other.
use Rattle.std.specs.Prelude.{ℕ, ◌≡◌, ◌⊎◌}
use Rattle.gs_bytes.specs.declared.limits.TheConstants.{MOST_UNIT, MOST_AUDIO, MOST_ON_LINK, MOST_GENERATED}
use Rattle.gs_bytes.specs.declared.limits.TheConstants.{DURATION_SHORT, DURATION_LONG}

-- bytes of one video unit
abbrev pub most_unit : ℕ
most_unit = MOST_UNIT

-- bytes of one audio unit
abbrev pub most_audio : ℕ
most_audio = MOST_AUDIO

-- the two durations of an audio unit in milliseconds
abbrev pub short_duration : ℕ
short_duration = DURATION_SHORT

abbrev pub long_duration : ℕ
long_duration = DURATION_LONG

abbrev pub IsDuration : ℕ → Type 0
IsDuration duration = (duration ≡ short_duration) ⊎ (duration ≡ long_duration)

-- bytes of one datagram on a link
abbrev pub most_on_link : ℕ
most_on_link = MOST_ON_LINK

-- ticks of a generated capture
abbrev pub most_generated : ℕ
most_generated = MOST_GENERATED
