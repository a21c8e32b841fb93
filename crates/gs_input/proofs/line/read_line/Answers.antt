use Rattle.std.proofs.Common.{sym, ◌∙◌}
use Rattle.gs_input.proofs.Lines.{reads_line}
use Rattle.gs_input.proofs.line.read_line.Goals as goal

pub returns-clause-line : goal.returns-clause-line
returns-clause-line c = reads_line c.args.line.now c.in_ok-name.name.now c.next_word.new.self c.read_arguments.result
    (sym c.of-words.ensures ∙ c.in_ok-name.ensures) c.read_arguments.ensures.found c.read_arguments.ensures.none
