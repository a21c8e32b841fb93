-- Which of the trial program's words names which file.
use Rattle.std.specs.Prelude.{ℕ, List, [], Option, Some, unwrap_or, slice_get}
use Rattle.gs_command.specs.Words.{command_of}
use Rattle.gs_command.specs.declared.command.TrialCommand.{TrialCommand}
use Rattle.gs_command.specs.declared.command.TrialCommand.TheVariants.{Script}

-- the word at a place, from 0, which is empty where there is none
abbrev pub word_at : List (List ℕ) → ℕ → List ℕ
word_at words place = unwrap_or (slice_get words place) []

-- the third word names the capture file, and the fourth the schedule
abbrev pub tape_name : List (List ℕ) → List ℕ
tape_name words = word_at words 2

abbrev pub schedule_name : List (List ℕ) → List ℕ
schedule_name words = word_at words 3

-- the name of a file that a run of a schedule reads; the other commands read none
abbrev pub name_for : Option TrialCommand → List ℕ → List ℕ
name_for (Some (Script detail)) name = name
name_for _ name = []

abbrev pub tape_of : List (List ℕ) → List ℕ
tape_of words = name_for (command_of words) (tape_name words)

abbrev pub schedule_of : List (List ℕ) → List ℕ
schedule_of words = name_for (command_of words) (schedule_name words)
