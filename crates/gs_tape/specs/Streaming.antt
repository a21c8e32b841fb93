-- Cited by private contracts alone: reading a capture file from a source, step by step.
use Rattle.std.specs.Prelude.{◌≡◌, ◌≢◌, ◌+◌, ◌≤◌, ◌++◌, ℕ, Bool, List, length, Option, Some, None}
use Rattle.std.specs.Prelude.{Result, Ok, Err, IfSome, ⊤}
use Rattle.std.specs.Io.KnownBytes.{Consumes, Keeps}
use Rattle.gs_bytes.specs.Outside.{KeepsFlag, Rose}
use Rattle.gs_tape.specs.declared.error.TapeError.{TapeError}
use Rattle.gs_tape.specs.declared.error.TapeError.TheVariants as error
use Rattle.gs_tape.specs.Errors.{TellsFault}
use Rattle.gs_tape.specs.Reading.{Malformed}
use Rattle.gs_tape.specs.Steps.{StepOf}

-- What was read of bytes from a place on is what the step reads of them. Of bytes that the source doesn't tell nothing
-- is known.
abbrev pub ReadsTold : {A : Type 0} → StepOf A → Option (List ℕ) → Option (List ℕ) → ℕ → ℕ → Result A TapeError → Type 0
ReadsTold step None new place place' r = ⊤
ReadsTold step (Some bytes) new place place' (Ok x) =
    (rest : List ℕ) × (new ≡ Some rest) × (place + length bytes ≡ place' + length rest)
    × (step (place + length bytes) bytes ≡ Ok (x, rest))
ReadsTold step (Some bytes) new place place' (Err e) = TellsFault e (step (place + length bytes) bytes)

-- these bytes end inside what the step reads
abbrev pub IsCut : {A : Type 0} → StepOf A → List ℕ → Type 0
IsCut step bytes = (size : ℕ) → step size bytes ≡ Err (Malformed 6 size)

-- Where the source failed, the bytes that were taken of those to come are cut.
abbrev pub StopsInside : {A : Type 0} → StepOf A → (old new : Option (List ℕ)) → TapeError → Type 0
StopsInside step old new error.TapeFault =
    IfSome old (λ _. (front : List ℕ) × Consumes old new front × IsCut step front)
StopsInside step old new _ = ⊤

-- Where a value was read, the step reads it of the bytes that were taken, whatever comes behind them.
abbrev pub TakesFront : {A : Type 0} → StepOf A → (old new : Option (List ℕ)) → Result A TapeError → Type 0
TakesFront step old new (Ok x) = IfSome old (λ _. (front : List ℕ) × Consumes old new front
    × ((size : ℕ) (behind : List ℕ) → step size (front ++ behind) ≡ Ok (x, behind)))
TakesFront step old new (Err e) = StopsInside step old new e

-- the bytes to come before and after a call, its places before and after, and its answer
pub record ReadsStep {A : Type 0} (step : StepOf A) (old new : Option (List ℕ)) (place place' : ℕ)
    (r : Result A TapeError)
    : Type 0 where
  pub told : ReadsTold step old new place place' r
  pub front : TakesFront step old new r

-- What a call did to its source beside reading: a fault is answered exactly where one was counted, and where the
-- call gives a value no read met the end.
pub record LeavesSource {A : Type 0} (faults faults' : ℕ) (met met' : Option Bool) (written written' : Option (List ℕ))
    (r : Result A TapeError) : Type 0 where
  pub never_falls : faults ≤ faults'
  pub fault : r ≡ Err error.TapeFault → Rose faults faults'
  pub counted : faults' ≢ faults → r ≡ Err error.TapeFault
  pub keeps : Keeps written written'
  pub not_met : (x : A) → r ≡ Ok x → KeepsFlag met met'

-- The same of a call that may have met the end.
pub record MeetsSource {A : Type 0} (faults faults' : ℕ) (written written' : Option (List ℕ)) (r : Result A TapeError)
    : Type 0 where
  pub never_falls : faults ≤ faults'
  pub fault : r ≡ Err error.TapeFault → Rose faults faults'
  pub counted : faults' ≢ faults → r ≡ Err error.TapeFault
  pub keeps : Keeps written written'
