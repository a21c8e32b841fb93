-- What putting an event does to the list of the events that were put, where it is told, and to the
-- count of faults.
use Rattle.std.specs.Prelude.{◌≡◌, ℕ, List, [], ◌∷◌, ◌++◌, Option, None, Some, Result, Ok, Err, ⊤}
use Rattle.gs_bytes.specs.declared.failed.Failed.{Failed}
use Rattle.gs_bytes.specs.declared.failed.Failed.TheVariants.{Fault, NoMemory}
use Rattle.gs_bytes.specs.Outside.{Rose}
use Rattle.gs_bytes.specs.Memory.{Calls, no_calls}
use Rattle.gs_input.specs.declared.sink.Input.{Input}

-- a list that is told is now this one
abbrev pub TellsInputs : Option (List Input) → List Input → Type 0
TellsInputs None inputs = ⊥
TellsInputs (Some told) inputs = told ≡ inputs

-- a put that succeeds appends the event, and one that fails appends nothing
abbrev pub PutsInput : Option (List Input) → Option (List Input) → Result (Unit {0}) Failed → Input → Type 0
PutsInput None now result input = ⊤
PutsInput (Some before) now (Ok done) input = TellsInputs now (before ++ input ∷ [])
PutsInput (Some before) now (Err e) input = TellsInputs now before

-- a put counts a fault that it answers, and nothing else
abbrev pub IsCountedPut : ℕ → ℕ → Result (Unit {0}) Failed → Type 0
IsCountedPut before now (Ok done) = now ≡ before
IsCountedPut before now (Err Fault) = Rose before now
IsCountedPut before now (Err NoMemory) = now ≡ before

-- events in memory, with calls that are to fail
pub record FailingInput : Type 0 where
  pub inputs : List Input
  pub calls : Calls

-- nothing was put yet, and the calls of these numbers are to fail
abbrev pub no_inputs : List ℕ → FailingInput
no_inputs fails = record { inputs = []; calls = no_calls fails }
