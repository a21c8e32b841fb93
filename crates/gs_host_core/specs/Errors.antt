-- What is answered where a part of a call was refused.
use Rattle.std.specs.Prelude.{ℕ, ◌≡◌, ◌⊎◌, List, Result, Ok, Err}
use Rattle.gs_bytes.specs.declared.failed.Failed.{Failed}
use Rattle.gs_bytes.specs.declared.failed.Failed.TheVariants.{Fault, NoMemory}
use Rattle.gs_bytes.specs.Outside.{Rose}
use Rattle.gs_tape.specs.Tick.{Tick}
use Rattle.gs_refs.specs.declared.entry.Entry.{Entry}
use Rattle.gs_refs.specs.declared.sent.Sent.{Sent}
use Rattle.gs_refs.specs.Answers.{choose_answer}
use Rattle.gs_refs.specs.declared.error.ChooseError.{ChooseError}
use Rattle.gs_refs.specs.declared.error.ChooseError.TheVariants as choose_error
use Rattle.gs_refs.specs.declared.error.InvalidError.{InvalidError}
use Rattle.gs_refs.specs.declared.error.InvalidError.TheVariants as invalid_error
use Rattle.gs_host_core.specs.declared.error.TurnError.{TurnError}
use Rattle.gs_host_core.specs.declared.error.TurnError.TheVariants as turn_error
use Rattle.gs_host_core.specs.declared.error.ToldError.{ToldError}
use Rattle.gs_host_core.specs.declared.error.ToldError.TheVariants as told_error

abbrev pub turn_error_of : ChooseError → TurnError
turn_error_of choose_error.Ended = turn_error.Ended
turn_error_of (choose_error.OldTick last) = turn_error.OldTick last

abbrev pub link_error : Failed → TurnError
link_error Fault = turn_error.LinkFault
link_error NoMemory = turn_error.OutOfMemory

abbrev pub told_error_of : InvalidError → ToldError
told_error_of invalid_error.Ended = told_error.Ended
told_error_of (invalid_error.BadRange sent) = told_error.BadRange sent

-- what a turn answers where neither a link nor an allocation fails
abbrev pub turn_result : Result Sent ChooseError → Result Sent TurnError
turn_result (Ok sent) = Ok sent
turn_result (Err error) = Err (turn_error_of error)

abbrev pub turn_answer : List Entry → Tick → Result Sent TurnError
turn_answer h t = turn_result (choose_answer h t)

-- A turn counts the fault that it answers, on the link that failed, and no other: its two links by their counts before
-- and after.
abbrev pub IsCountedTurn : ℕ → ℕ → ℕ → ℕ → Result Sent TurnError → Type 0
IsCountedTurn v v' a a' (Err turn_error.LinkFault) = (Rose v v' × (a' ≡ a)) ⊎ ((v' ≡ v) × Rose a a')
IsCountedTurn v v' a a' result = (v' ≡ v) × (a' ≡ a)
