-- How far a capture file's bytes were taken, and what was read of them where a read of its source failed.
use Rattle.std.specs.Prelude.{◌≡◌, ◌+◌, ◌++◌, ℕ, List, length, Bool, true, false, Option, Some, Result, Ok, Err}
use Rattle.std.specs.Prelude.{IfSome, ⊤}
use Rattle.std.specs.Io.KnownBytes.{Consumes}
use Rattle.gs_reader.specs.Buffered.{to_come}
use Rattle.gs_tape.specs.Tick.{Tick}
use Rattle.gs_tape.specs.Reading.{Malformed, ReadTape, head_at, read_tape, ticks_of, first_fault}
use Rattle.gs_tape.specs.Tape.{Opened, reading}
use Rattle.gs_tape.specs.Cuts.{MayGoOn}
use Rattle.gs_tape.specs.declared.error.TapeError.{TapeError}
use Rattle.gs_tape.specs.declared.error.TapeError.TheVariants as error
use Rattle.gs_feed.specs.Feeding.{Feeding}

abbrev pub behind_ticks : List Tick → ReadTape → ReadTape
behind_ticks ticks rest = record { ticks = ticks ++ rest.ticks; fault = rest.fault }

-- Of a file with these bytes some were taken: whatever comes behind them, they are its head and so many ticks.
pub record HasTaken (bytes : List ℕ) (tape : Opened) (count : ℕ) (left : Option (List ℕ)) : Type 0 where
  pub taken : List ℕ
  pub ticks : List Tick
  pub rest : Consumes (Some bytes) (to_come tape.held left) taken
  pub place : tape.place ≡ length taken
  pub count_is : length ticks ≡ count
  pub reads : (more : List ℕ)
      → read_tape (taken ++ more) ≡ behind_ticks ticks (reading tape.place tape.audio tape.before more)

-- The bytes that were read of a file end inside its head.
pub record StopsInHead (bytes : List ℕ) (left : Option (List ℕ)) : Type 0 where
  pub front : List ℕ
  pub rest : Consumes (Some bytes) left front
  pub cut : head_at (length front) front ≡ Err (Malformed 6 (length front))

-- The bytes that were read of a file have so many ticks, and end too early behind them or with the end mark.
pub record StopsBehind (bytes : List ℕ) (left : Option (List ℕ)) (count : ℕ) : Type 0 where
  pub front : List ℕ
  pub rest : Consumes (Some bytes) left front
  pub count_is : length (ticks_of front) ≡ count
  pub cut : MayGoOn (length front) (first_fault front)

-- the same behind so many ticks and more
abbrev pub StopsInRest : List ℕ → Option (List ℕ) → ℕ → Type 0
StopsInRest bytes left count = (more : ℕ) × StopsBehind bytes left (count + more)

-- a file that was opened, or whose source failed
abbrev pub OpensBytes : (old new : Option (List ℕ)) → Result Feeding TapeError → Type 0
OpensBytes old new (Ok feed) = IfSome old (λ bytes. HasTaken bytes feed.tape 0 new)
OpensBytes old new (Err error.TapeFault) = IfSome old (λ bytes. StopsInHead bytes new)
OpensBytes old new (Err _) = ⊤

-- a tick was captured behind so many, or the source failed
abbrev pub CapturesBytes : List ℕ → ℕ → Opened → Option (List ℕ) → Result Bool TapeError → Type 0
CapturesBytes bytes count tape left (Ok true) = HasTaken bytes tape (count + 1) left
CapturesBytes bytes count tape left (Ok false) = ⊤
CapturesBytes bytes count tape left (Err error.TapeFault) = StopsBehind bytes left count
CapturesBytes bytes count tape left (Err _) = ⊤
