-- The lines of a text, and what a reader of them gives.
use Rattle.std.specs.Prelude.{◌≡◌, ◌≢◌, ℕ, ◌+◌, ◌-◌, ◌^◌, ◌<◌, ◌≤◌, ◌⊎◌, ◌==◌, ◌||◌, nat_lt, Bool, if◌then◌else◌, ⊤}
use Rattle.std.specs.Prelude.{List, [], ◌∷◌, length, take, drop, Option, Some, None, Result, Ok, Err}
use Rattle.std.specs.List.{AllByRecursion, list_any, onto_first}
use Rattle.std.specs.Io.KnownBytes.{IsAtEnd, prepend_known}
use Rattle.gs_schedule.specs.declared.limits.TheConstants.{MOST_LINE}
use Rattle.gs_schedule.specs.declared.line.Line.{Line}
use Rattle.gs_schedule.specs.declared.lines_error.LinesError.{LinesError}
use Rattle.gs_schedule.specs.declared.lines_error.LinesError.TheVariants.{ReadFault, TooLong, OutOfMemory}

abbrev pub newline : ℕ
newline = 10

-- the lines of a text: each ends with a newline, which the last may lack
unfoldable pub lines_of : List ℕ → List (List ℕ)
lines_of [] = []
lines_of (byte ∷ bytes) = if byte == newline then [] ∷ lines_of bytes else onto_first byte (lines_of bytes)

-- a reader of lines: how many it gave, and the bytes that it read ahead
pub record LinesState : Type 0 where
  pub given : ℕ
  pub held : List ℕ

-- where it is told, what is to come: what was read ahead, and then what the source has left
abbrev pub lines_to_come : LinesState → Option (List ℕ) → Option (List ℕ)
lines_to_come lines left = prepend_known lines.held left

-- the most bytes of a line, without its newline
abbrev pub most_line : ℕ
most_line = MOST_LINE

-- What is held has the next line whole, or so much of it that it is refused: a newline stands in it, or it has more
-- bytes than a line may have.
abbrev pub holds_line : List ℕ → Bool
holds_line held = nat_lt most_line (length held) || list_any (λ byte. byte == newline) held

-- a flag that is told stays told
abbrev pub TellsFlag : Option Bool → Option Bool → Type 0
TellsFlag None now = ⊤
TellsFlag (Some b) None = ⊥
TellsFlag (Some b) (Some c) = ⊤

-- Behind so many lines, what is given of the lines that are to come: none at the end, the first with its number,
-- or that number alone, where the line is too long or the number the last of 32 bits.
abbrev pub next_line : ℕ → List (List ℕ) → Result (Option Line) ℕ
next_line given [] = Ok None
next_line given (line ∷ lines) =
    if nat_lt most_line (length line) || given + 1 == 2 ^ 32 - 1 then Err (given + 1)
    else Ok (Some (record { number = given + 1; bytes = line }))

-- a reader answered so, unless a read failed or memory ran out
abbrev pub AnswersLine : Result (Option Line) LinesError → Result (Option Line) ℕ → Type 0
AnswersLine (Ok found) expected = expected ≡ Ok found
AnswersLine (Err (TooLong line)) expected = expected ≡ Err line
AnswersLine (Err ReadFault) expected = ⊤
AnswersLine (Err OutOfMemory) expected = ⊤

-- where the bytes to come are told: this line was the first of them, and the others are still to come
abbrev pub LosesLine : Option (List ℕ) → Option (List ℕ) → List ℕ → Type 0
LosesLine None after line = ⊤
LosesLine (Some before) None line = ⊥
LosesLine (Some before) (Some after) line = lines_of before ≡ line ∷ lines_of after

-- no byte ends a line
abbrev pub IsUnbroken : List ℕ → Type 0
IsUnbroken bytes = AllByRecursion (λ byte. byte ≢ newline) bytes

-- So many of the bytes held are the first line that is to come, where the source has left what it tells: a newline
-- stands behind them, or nothing is held behind them and they are the last line or already too many.
pub record IsFront (held : List ℕ) (left : Option (List ℕ)) (count : ℕ) : Type 0 where
  pub within : count ≤ length held
  pub unbroken : IsUnbroken (take count held)
  pub ends : (drop count held ≡ newline ∷ drop (count + 1) held)
      ⊎ ((0 < count) × (count ≡ length held) × ((most_line < count) ⊎ IsAtEnd left))
