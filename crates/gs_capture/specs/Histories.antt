-- Cited by private contracts alone: the rule of a capture's history, and what a step on it tells.
use Rattle.std.specs.Prelude.{◌≡◌, ◌==◌, ℕ, true, List, [], ◌∷◌, ◌++◌, length, IsTrue}
use Rattle.logbook.specs.Pages.{Cell, Step, View, Book, Named}
use Rattle.gs_tape.specs.Tick.{Tick}

-- the first word is the length of the history; a second one, which each book has, stays 0
abbrev pub AreCounted : List Cell → List Tick → Type 0
AreCounted cells log = cells ≡ (length log, true) ∷ (0, true) ∷ []

-- the word of a history
abbrev pub book_head : Book → Named
book_head b = record { tracked = true; key = 0; book = b }

-- where the word was found as expected, the tick came behind all that had been seen
abbrev pub Adds : Step Tick → View Tick ℕ → ℕ → View Tick ℕ → Type 0
Adds s v found w = IsTrue (found == s.old) → w.0 ≡ v.0 ++ s.ask ∷ []
