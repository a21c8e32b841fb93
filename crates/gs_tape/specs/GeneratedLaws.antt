-- What a number generates keeps the limits of a capture file.
use Rattle.std.specs.Prelude.{ℕ, ◌≤◌}
use Rattle.gs_tape.specs.Limits.{AreWritable, generated_audio, generated_duration, most_generated}
use Rattle.gs_tape.specs.Generated.{generated}

-- a file with audio units of their length and duration can hold these ticks
abbrev pub GeneratedTicksAreWritable : Type 0
GeneratedTicksAreWritable =
    (number ticks : ℕ) → ticks ≤ most_generated
    → AreWritable generated_audio generated_duration (generated number ticks)
