-- A capture file that is read tick by tick.
use Rattle.std.specs.Prelude.{◌≡◌, ◌+◌, ℕ, List, length, Option, Some, None, Result, Ok, Err, IfSome, ⊤}
use Rattle.gs_reader.specs.Buffered.{to_come}
use Rattle.gs_tape.specs.Tick.{Tick, unit_bytes}
use Rattle.gs_tape.specs.Reading.{Before, Fault, ReadTape, and_then, audio_duration, audio_length, ends_with, head_at}
use Rattle.gs_tape.specs.Reading.{read_tape}
use Rattle.gs_tape.specs.Reading.{ticks_at}
use Rattle.gs_tape.specs.declared.error.TapeError.{TapeError}
use Rattle.gs_tape.specs.declared.stage.Stage.{Stage}
use Rattle.gs_tape.specs.declared.stage.Stage.TheVariants.{Open, Ended, Failed}
use Rattle.gs_tape.specs.Errors.{fault_of}

-- what is read of the rest of a file from a place on, where this is known before its next tick
abbrev pub reading : ℕ → ℕ → Before → List ℕ → ReadTape
reading place audio before rest = ticks_at (length rest) (place + length rest) audio before rest

-- the same of the bytes to come, where the source tells them
abbrev pub to_read : ℕ → ℕ → Before → Option (List ℕ) → Option ReadTape
to_read place audio before None = None
to_read place audio before (Some rest) = Some (reading place audio before rest)

-- what is known behind a tick
abbrev pub known_behind : Before → Tick → Before
known_behind before t = record { number = before.number + 1; time = t.time; held = before.held + unit_bytes t }

abbrev pub stage_of : Result (Option Tick) TapeError → Stage
stage_of (Ok (Some t)) = Open
stage_of (Ok None) = Ended
stage_of (Err e) = Failed e

-- An open file: the length and the duration of its audio units, how many bytes were handed on, what is known before the
-- next tick, the bytes that were read ahead, and whether it is read on.
pub record Opened : Type 0 where
  pub audio : ℕ
  pub duration : ℕ
  pub place : ℕ
  pub before : Before
  pub held : List ℕ
  pub stage : Stage

-- nothing is to be read, behind this fault if one is told
abbrev pub failed_read : Option Fault → Option ReadTape
failed_read None = None
failed_read (Some fault) = Some (ends_with (Some fault))

abbrev pub unread_at : Stage → Option ReadTape → Option ReadTape
unread_at Open rest = rest
unread_at Ended rest = Some (ends_with None)
unread_at (Failed e) rest = failed_read (fault_of e)

-- what is still to be read of a file, where it is told: its ticks, and the fault behind them if there is one
abbrev pub unread_tape : Opened → Option (List ℕ) → Option ReadTape
unread_tape tape left = unread_at tape.stage (to_read tape.place tape.audio tape.before (to_come tape.held left))

-- The answer is the first of what was to be read: the first tick, with the others still to be read, or the end, or the
-- fault.
abbrev pub IsFirstTick : Option ReadTape → Option ReadTape → Result (Option Tick) TapeError → Type 0
IsFirstTick None after r = ⊤
IsFirstTick (Some all) after (Ok (Some t)) = (rest : ReadTape) × (after ≡ Some rest) × (all ≡ and_then t rest)
IsFirstTick (Some all) after (Ok None) = all ≡ ends_with None
IsFirstTick (Some all) after (Err e) = IfSome (fault_of e) (λ fault. all ≡ ends_with (Some fault))

-- what an opened file is of bytes that the source tells
pub record OpensAs (bytes : List ℕ) (tape : Opened) (left : Option (List ℕ)) : Type 0 where
  pub unread_is : unread_tape tape left ≡ Some (read_tape bytes)
  pub audio_is : tape.audio ≡ audio_length bytes
  pub duration_is : tape.duration ≡ audio_duration bytes

-- a file that can't be opened has its fault in its head
abbrev pub Opens : Option (List ℕ) → Option (List ℕ) → Result Opened TapeError → Type 0
Opens None left r = ⊤
Opens (Some bytes) left (Ok tape) = OpensAs bytes tape left
Opens (Some bytes) left (Err e) = IfSome (fault_of e) (λ fault. head_at (length bytes) bytes ≡ Err fault)
