-- Repeated calls answer a file's ticks, and then its end or its first fault.
use Rattle.std.proofs.Common.{◌≡◌, ◌++◌, ℕ, List, [], ◌∷◌, Option, Some, None, Result, Ok, Err, refl, sym, ap, subst, ◌∙◌, append-nil}
use Rattle.std.specs.Prelude.{IfSome}
use Rattle.gs_tape.specs.Tick.{Tick}
use Rattle.gs_tape.specs.Reading.{Fault, ReadTape, ends_with, and_then, read_tape}
use Rattle.gs_tape.specs.declared.error.TapeError.{TapeError}
use Rattle.gs_tape.specs.Errors.{fault_of}
use Rattle.gs_tape.specs.Tape.{IsFirstTick}
use Rattle.gs_tape.specs.TapeLaws.{AreAnswers, AnswersAreAFront, AnswersEnd, AnswersFail}

front : (all : ReadTape) (ts : List Tick) (after : Option ReadTape) → AreAnswers (Some all) ts after
    → (rest : ReadTape) × (after ≡ Some rest) × (all.ticks ≡ ts ++ rest.ticks) × (all.fault ≡ rest.fault)
front all [] after h = (all, sym h, refl, refl)
front all (t ∷ ts) after h =
    let first = h.1 in
    let between : ReadTape = first.0 in
    let Answers : Option ReadTape → Type 0 = λ o. AreAnswers o ts after in
    let more = front between ts after (subst Answers first.1 h.2) in (
      more.0,
      more.1,
      ap (λ (r : ReadTape). r.ticks) first.2 ∙ ap (λ (l : List Tick). t ∷ l) more.2,
      ap (λ (r : ReadTape). r.fault) first.2 ∙ more.3,
    )

pub answers_are_a_front : AnswersAreAFront
answers_are_a_front bytes ts after h = front (read_tape bytes) ts after h

pub answers_end : AnswersEnd
answers_end bytes ts last after h end =
    let f = front (read_tape bytes) ts last h in
    let Ends : Option ReadTape → Type 0 = λ o. IsFirstTick o after (Ok None) in
    let is : f.0 ≡ ends_with None = subst Ends f.1 end in (
      f.2 ∙ ap (λ (r : ReadTape). ts ++ r.ticks) is ∙ append-nil ts,
      f.3 ∙ ap (λ (r : ReadTape). r.fault) is,
    )

pub answers_fail : AnswersFail
answers_fail bytes ts last after e fault h failed known =
    let f = front (read_tape bytes) ts last h in
    let Fails : Option ReadTape → Type 0 = λ o. IsFirstTick o after (Err e) in
    let Told : Option Fault → Type 0 = λ o. IfSome o (λ why. f.0 ≡ ends_with (Some why)) in
    let is : f.0 ≡ ends_with (Some fault) = subst Told known (subst Fails f.1 failed) in (
      f.2 ∙ ap (λ (r : ReadTape). ts ++ r.ticks) is ∙ append-nil ts,
      f.3 ∙ ap (λ (r : ReadTape). r.fault) is,
    )
