use Rattle.gs_tape.proofs.Answered.{answers_are_a_front, answers_end, answers_fail}
use Rattle.gs_tape.proofs.tape_laws.answers_are_the_file.Goals as goal

pub returns : goal.returns
returns c = record { front = answers_are_a_front; end = answers_end; fault = answers_fail }
