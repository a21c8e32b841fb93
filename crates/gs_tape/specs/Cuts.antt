-- What a call took of a capture file's bytes: those of the head or of a tick, or, where the source failed, some that
-- end too early.
use Rattle.std.specs.Prelude.{◌≡◌, ◌⊎◌, ◌+◌, ◌++◌, ℕ, List, length, Option, Some, None, Result, Ok, Err, IfSome, ⊤}
use Rattle.std.specs.Io.KnownBytes.{Consumes}
use Rattle.gs_reader.specs.Buffered.{to_come}
use Rattle.gs_tape.specs.Tick.{Tick}
use Rattle.gs_tape.specs.Reading.{Before, Fault, Malformed, and_then, ends_with, head_at, read_tape}
use Rattle.gs_tape.specs.declared.error.TapeError.{TapeError}
use Rattle.gs_tape.specs.declared.error.TapeError.TheVariants as error
use Rattle.gs_tape.specs.Tape.{Opened, reading}

-- Bytes up to this place may be the front of a file: they end too early, or with the end mark.
abbrev pub MayGoOn : ℕ → Option Fault → Type 0
MayGoOn place fault = (fault ≡ Some (Malformed 6 place)) ⊎ (fault ≡ None)

-- The bytes that were taken of those to come are, whatever comes behind them, a tick. Where the source failed they have
-- no whole tick, and end too early or with the end mark.
abbrev pub TakesTick : ℕ → ℕ → Before → (old new : Option (List ℕ)) → ℕ → Before → Result (Option Tick) TapeError
    → Type 0
TakesTick place audio before old new place' before' (Ok (Some t)) = IfSome old (λ _. (front : List ℕ)
    × Consumes old new front × (place' ≡ place + length front)
    × ((more : List ℕ) → reading place audio before (front ++ more) ≡ and_then t (reading place' audio before' more)))
TakesTick place audio before old new place' before' (Ok None) = ⊤
TakesTick place audio before old new place' before' (Err error.TapeFault) = IfSome old (λ _. (front : List ℕ)
    × Consumes old new front × (fault : Option Fault) × (reading place audio before front ≡ ends_with fault)
    × MayGoOn (place + length front) fault)
TakesTick place audio before old new place' before' (Err _) = ⊤

-- the same of an open file
abbrev pub Takes : Opened → Option (List ℕ) → Opened → Option (List ℕ) → Result (Option Tick) TapeError → Type 0
Takes old left new left' r =
    TakesTick old.place old.audio old.before (to_come old.held left) (to_come new.held left') new.place new.before r

-- The bytes that were taken are, whatever comes behind them, a head. Where the source failed they end inside one.
abbrev pub TakesHead : (old new : Option (List ℕ)) → Result Opened TapeError → Type 0
TakesHead old new (Ok tape) = IfSome old (λ _. (front : List ℕ) × Consumes old (to_come tape.held new) front
    × (tape.place ≡ length front)
    × ((more : List ℕ) → read_tape (front ++ more) ≡ reading tape.place tape.audio tape.before more))
TakesHead old new (Err error.TapeFault) = IfSome old (λ _. (front : List ℕ) × Consumes old new front
    × (head_at (length front) front ≡ Err (Malformed 6 (length front))))
TakesHead old new (Err _) = ⊤
