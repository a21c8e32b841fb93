use Rattle.std.proofs.Common.{sym, ◌∙◌, ap, ◌∷◌, List, ℕ}
use Rattle.gs_schedule.specs.Keyword.{keyword_text}
use Rattle.gs_schedule.proofs.Steps.{input_only, none_by, reads_line}
use Rattle.gs_schedule.proofs.step_line.read_line.Goals as goal

pub returns-in-Some : goal.returns-in-Some
returns-in-Some c =
    let rest = c.next_word.new.self in
    let words = sym c.of-words.ensures ∙ c.in_ok-name.ensures ∙ ap (λ (word : List ℕ). word ∷ rest) c.in-Some.ensures.found in
    reads_line c.args.line.now (keyword_text c.in-Some.keyword) rest c.read_numbered.result
    (λ blank. absurd (let yes = c.is_blank.ensures.1 blank in let no = c.if-is_blank.false in cc))
    words c.read_numbered.ensures.found c.read_numbered.ensures.none

pub returns-in-None : goal.returns-in-None
returns-in-None c =
    let rest = c.next_word.new.self in
    let read = c.read_input.ensures in
    reads_line c.args.line.now c.in_ok-name.name.now rest c.read_input.result
    (λ blank. absurd (let yes = c.is_blank.ensures.1 blank in let no = c.if-is_blank.false in cc))
    (sym c.of-words.ensures ∙ c.in_ok-name.ensures) read.found
    (none_by _ _ _ (input_only c.in_ok-name.name.now rest c.in-None.ensures.none) read.none)
