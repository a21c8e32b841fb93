use Rattle.std.proofs.Common.{List, [], Option, ℕ, Bor, ap, sym, ◌∙◌}
use Rattle.std.specs.Option.{option_copied, option_map_or}
use Rattle.std.proofs.lemmas.List.{take_rest}
use Rattle.gs_bytes.specs.Words.{words_of}
use Rattle.gs_bytes.proofs.WordLemmas.{words_split, words_single}
use Rattle.gs_bytes.proofs.words.Words.next_word.Goals as goal

pub returns-in-Some : goal.returns-in-Some
returns-in-Some c =
    let whole = sym c.self.view_is ∙ ap (λ (rest : Option (Bor (List ℕ))). option_map_or words_of (option_copied rest) []) c.in_ok-line.was in
    rw take_rest (whole ∙ words_split c.in_ok-line.line.now c.in-Some.at (sym c.in-Some.ensures))

pub returns-in-None : goal.returns-in-None
returns-in-None c =
    let whole = sym c.self.view_is ∙ ap (λ (rest : Option (Bor (List ℕ))). option_map_or words_of (option_copied rest) []) c.in_ok-line.was in
    whole ∙ words_single c.in_ok-line.line.now (sym c.in-None.ensures)
