-- What repeated calls of a reader of capture files answer.
use Rattle.std.specs.Prelude.{◌≡◌, ◌++◌, ℕ, List, [], ◌∷◌, Option, Some, None, Result, Ok, Err}
use Rattle.gs_tape.specs.Tick.{Tick}
use Rattle.gs_tape.specs.Reading.{Fault, ReadTape, read_tape, ticks_of, first_fault}
use Rattle.gs_tape.specs.declared.error.TapeError.{TapeError}
use Rattle.gs_tape.specs.Errors.{fault_of}
use Rattle.gs_tape.specs.Tape.{IsFirstTick}

-- calls that answered these ticks, one after another
abbrev pub AreAnswers : Option ReadTape → List Tick → Option ReadTape → Type 0
AreAnswers before [] after = before ≡ after
AreAnswers before (t ∷ ts) after =
    (between : Option ReadTape) × IsFirstTick before between (Ok (Some t)) × AreAnswers between ts after

-- the ticks answered so far are the front of the file's ticks, and the others are still to be read
abbrev pub AnswersAreAFront : Type 0
AnswersAreAFront =
    (bytes : List ℕ) (ts : List Tick) (after : Option ReadTape) → AreAnswers (Some (read_tape bytes)) ts after
    → (rest : ReadTape) × (after ≡ Some rest) × (ticks_of bytes ≡ ts ++ rest.ticks) × (first_fault bytes ≡ rest.fault)

-- where the end is answered behind them, they are the file's ticks, and it has no fault
abbrev pub AnswersEnd : Type 0
AnswersEnd =
    (bytes : List ℕ) (ts : List Tick) (last after : Option ReadTape) → AreAnswers (Some (read_tape bytes)) ts last
    → IsFirstTick last after (Ok None) → (ticks_of bytes ≡ ts) × (first_fault bytes ≡ None)

-- where a fault is answered behind them, they are the ticks that end before the file's first fault, and it is that
abbrev pub AnswersFail : Type 0
AnswersFail =
    (bytes : List ℕ) (ts : List Tick) (last after : Option ReadTape) (e : TapeError) (fault : Fault)
    → AreAnswers (Some (read_tape bytes)) ts last → IsFirstTick last after (Err e) → fault_of e ≡ Some fault
    → (ticks_of bytes ≡ ts) × (first_fault bytes ≡ Some fault)
