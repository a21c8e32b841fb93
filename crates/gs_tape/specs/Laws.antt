-- What the ticks of any bytes keep, and that reading and writing undo each other.
use Rattle.std.specs.Prelude.{ℕ, ◌≡◌, ◌^◌, ◌<◌, ◌≤◌, List, Some, None}
use Rattle.std.specs.List.{All}
use Rattle.gs_tape.specs.Tick.{Tick, tick_numbered}
use Rattle.gs_tape.specs.Limits.{most_audio, AreWithinLimits, IsTickWithinLimits, HoldsBytes, AreWritable}
use Rattle.gs_tape.specs.Capture.{file}
use Rattle.gs_tape.specs.Reading.{read_tape, ticks_of, first_fault, audio_length, audio_duration}

-- the ticks of any bytes are numbered from 1, within the limits
abbrev pub TicksKeepLimits : Type 0
TicksKeepLimits =
    (bytes : List ℕ) → All (λ b. b < 2 ^ 8) bytes → AreWithinLimits (audio_length bytes) 1 0 (ticks_of bytes)

abbrev pub AudioLengthKeepsLimit : Type 0
AudioLengthKeepsLimit = (bytes : List ℕ) → All (λ b. b < 2 ^ 8) bytes → audio_length bytes ≤ most_audio

abbrev pub EachTickIsWithinLimits : Type 0
EachTickIsWithinLimits =
    (bytes : List ℕ) (k : ℕ) (t : Tick) → All (λ b. b < 2 ^ 8) bytes → tick_numbered (ticks_of bytes) k ≡ Some t
    → IsTickWithinLimits (audio_length bytes) k t

abbrev pub TicksHoldBytes : Type 0
TicksHoldBytes = (bytes : List ℕ) → All (λ b. b < 2 ^ 8) bytes → All HoldsBytes (ticks_of bytes)

-- a file that is written of ticks within the limits is read as these ticks, with no fault
abbrev pub FilesAreRead : Type 0
FilesAreRead =
    (audio duration : ℕ) (ticks : List Tick) → AreWritable audio duration ticks
    → read_tape (file audio duration ticks) ≡ record { ticks = ticks; fault = None }

-- bytes are the file of the ticks that they give, and a file can hold these
pub record IsFile (bytes : List ℕ) : Type 0 where
  pub spelled : bytes ≡ file (audio_length bytes) (audio_duration bytes) (ticks_of bytes)
  pub writable : AreWritable (audio_length bytes) (audio_duration bytes) (ticks_of bytes)

-- bytes without a fault are a file
abbrev pub FaultlessBytesAreFiles : Type 0
FaultlessBytesAreFiles = (bytes : List ℕ) → All (λ b. b < 2 ^ 8) bytes → first_fault bytes ≡ None → IsFile bytes
