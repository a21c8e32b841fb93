-- What a writer of capture files has written, and what it may write next.
use Rattle.std.specs.Prelude.{ℕ, ◌+◌, ◌≤◌}
use Rattle.gs_bytes.specs.declared.failed.Failed.{Failed}
use Rattle.gs_bytes.specs.declared.failed.Failed.TheVariants.{Fault, NoMemory}
use Rattle.gs_tape.specs.Tick.{Tick, unit_bytes}
use Rattle.gs_tape.specs.Limits.{most_bytes, IsWithinLimits}
use Rattle.gs_tape.specs.Reading.{Before, before_first}
use Rattle.gs_tape.specs.Tape.{known_behind}
use Rattle.gs_tape.specs.declared.write_error.WriteError.{WriteError}
use Rattle.gs_tape.specs.declared.write_error.WriteError.TheVariants as error

abbrev pub write_error : Failed → WriteError
write_error Fault = error.WriteFault
write_error NoMemory = error.OutOfMemory

-- a file with audio units of this length, and what is known before its next tick
pub record TapeWriting : Type 0 where
  pub audio : ℕ
  pub next : Before

-- a file of which the head was written
abbrev pub opened_writing : ℕ → TapeWriting
opened_writing audio = record { audio = audio; next = before_first }

-- the tick may be written next
pub record IsNextTick (w : TapeWriting) (t : Tick) : Type 0 where
  pub within : IsWithinLimits w.audio w.next.number w.next.time t
  pub room : w.next.held + unit_bytes t ≤ most_bytes

abbrev pub after_tick : TapeWriting → Tick → TapeWriting
after_tick w t = record { audio = w.audio; next = known_behind w.next t }
