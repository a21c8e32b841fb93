-- What a run is given of a capture file.
use Rattle.std.specs.Prelude.{ℕ, List, Option, Some, None, Result, Ok, Err, length}
use Rattle.gs_tape.specs.Tick.{Tick}
use Rattle.gs_tape.specs.Reading.{Fault, CaptureHead, head_at, ticks_of, first_fault, audio_length, audio_duration}
use Rattle.gs_tape.specs.Generated.{generated}
pub use Rattle.gs_tape.specs.Limits.{generated_audio, generated_duration}

-- Its head, which may have a fault; the length in bytes and the duration in ms of its audio units; its ticks, and the
-- fault behind them where there is one.
pub record CaptureFile : Type 0 where
  pub head : Option Fault
  pub audio : ℕ
  pub duration : ℕ
  pub ticks : List Tick
  pub fault : Option Fault

abbrev pub fault_of_head : Result (CaptureHead × List ℕ) Fault → Option Fault
fault_of_head (Err fault) = Some fault
fault_of_head (Ok head) = None

-- the file with these bytes
abbrev pub file_of : List ℕ → CaptureFile
file_of bytes = record {
  head = fault_of_head (head_at (length bytes) bytes);
  audio = audio_length bytes;
  duration = audio_duration bytes;
  ticks = ticks_of bytes;
  fault = first_fault bytes;
}

-- the file of so many ticks that a number generates
abbrev pub generated_file : ℕ → ℕ → CaptureFile
generated_file number ticks = record {
  head = None;
  audio = generated_audio;
  duration = generated_duration;
  ticks = generated number ticks;
  fault = None;
}
