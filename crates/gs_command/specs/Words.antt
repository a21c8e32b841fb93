-- The words of a trial's command: which fit, and what they say.
use Rattle.std.specs.Prelude.{ℕ, ◌≡◌, ◌+◌, Bool, ◌&&◌, ◌||◌, not, List, [], ◌∷◌, length, Option, Some, None, Result, Ok}
use Rattle.std.specs.Prelude.{Err, ⊤, is_some, nat_eq, ◌==◌, if◌then◌else◌, codes}
use Rattle.std.specs.Option.{option_map}
use Rattle.std.specs.Cmp.Lexicographic.{pointwise}
use Rattle.gs_bytes.specs.Limits.{most_generated}
use Rattle.gs_bytes.specs.Numbers.{decimal_up_to}
use Rattle.gs_command.specs.declared.command.TrialCommand.{TrialCommand}
use Rattle.gs_command.specs.declared.command.TrialCommand.TheVariants.{Script, Make, Tape}
use Rattle.gs_command.specs.declared.command.Detail.{Detail}
use Rattle.gs_command.specs.declared.command.Detail.TheVariants.{Bytes, Brief}
use Rattle.gs_command.specs.declared.command.Generated.{Generated}
use Rattle.gs_command.specs.declared.limits.TheConstants.{MOST_NUMBER}

-- ---- single words

abbrev pub is_word : List ℕ → List ℕ → Bool
is_word text word = pointwise nat_eq word text

abbrev pub at_least_one : Option ℕ → Option ℕ
at_least_one None = None
at_least_one (Some n) = if n == 0 then None else Some n

-- a number from 1 up to another
abbrev pub number_in_word : ℕ → List ℕ → Option ℕ
number_in_word most word = at_least_one (decimal_up_to most word)

abbrev pub detail_of : List ℕ → Option Detail
detail_of word =
    if is_word (codes "bytes") word then Some Bytes
    else if is_word (codes "brief") word then Some Brief
    else None

abbrev pub is_name : List ℕ → Bool
is_name word = not (length word == 0)

-- ---- which words fit

-- what a word has to be, at each place behind the first
abbrev pub Places : Type 0
Places = List (List ℕ → Bool)

abbrev pub script_places : Places
script_places = (λ w. is_some (detail_of w)) ∷ is_name ∷ is_name ∷ []

abbrev pub ticks_places : Places
ticks_places = (λ w. is_some (number_in_word most_generated w)) ∷ []

abbrev pub generated_places : Places
generated_places = (λ w. is_some (number_in_word MOST_NUMBER w)) ∷ ticks_places

-- the first place, from this one on, where a word doesn't fit, is missing, or is one too many
abbrev pub misfit_from : ℕ → Places → List (List ℕ) → Option ℕ
misfit_from place [] [] = None
misfit_from place [] (word ∷ words) = Some place
misfit_from place (fits ∷ rest) [] = Some place
misfit_from place (fits ∷ rest) (word ∷ words) =
    if fits word then misfit_from (place + 1) rest words else Some place

-- the number, from 1, of the first word that doesn't fit, or of the first that is missing
abbrev pub first_misfit : List (List ℕ) → Option ℕ
first_misfit [] = Some 1
first_misfit (first ∷ rest) =
    if is_word (codes "script") first then misfit_from 2 script_places rest
    else if is_word (codes "make") first || is_word (codes "tape") first then misfit_from 2 generated_places rest
    else Some 1

-- ---- what they say

abbrev pub generated_by : Option ℕ → Option ℕ → Option Generated
generated_by (Some number) (Some ticks) = Some (record { number = number; ticks = ticks })
generated_by _ _ = None

-- said by the words behind `make` and `tape`
abbrev pub ticks_in_words : List (List ℕ) → Option ℕ
ticks_in_words (ticks ∷ []) = number_in_word most_generated ticks
ticks_in_words _ = None

abbrev pub generated_of : List (List ℕ) → Option Generated
generated_of [] = None
generated_of (number ∷ rest) = generated_by (number_in_word MOST_NUMBER number) (ticks_in_words rest)

-- how much is written, said by the words behind `script`
abbrev pub script_of : List (List ℕ) → Option Detail
script_of (detail ∷ tape ∷ schedule ∷ []) = if is_name tape && is_name schedule then detail_of detail else None
script_of _ = None

-- the command that the words are
abbrev pub command_of : List (List ℕ) → Option TrialCommand
command_of [] = None
command_of (first ∷ rest) =
    if is_word (codes "script") first then option_map Script (script_of rest)
    else if is_word (codes "make") first then option_map Make (generated_of rest)
    else if is_word (codes "tape") first then option_map Tape (generated_of rest)
    else None

-- a command is read where all words fit, and else the first that doesn't is told
abbrev pub ReadsCommand : List (List ℕ) → Result TrialCommand ℕ → Type 0
ReadsCommand words (Ok command) = (first_misfit words ≡ None) × (command_of words ≡ Some command)
ReadsCommand words (Err word) = (first_misfit words ≡ Some word) × (command_of words ≡ None)

-- the same of the words from a place on, of which a value is read
abbrev pub ReadsFrom : {A : Type 0} → ℕ → Places → List (List ℕ) → Option A → Result A ℕ → Type 0
ReadsFrom place places words value (Ok read) = (misfit_from place places words ≡ None) × (value ≡ Some read)
ReadsFrom place places words value (Err word) = (misfit_from place places words ≡ Some word) × (value ≡ None)

-- the same of words of which none is read
abbrev pub FitsFrom : ℕ → Places → List (List ℕ) → Result ⊤ ℕ → Type 0
FitsFrom place places words (Ok read) = misfit_from place places words ≡ None
FitsFrom place places words (Err word) = misfit_from place places words ≡ Some word
