use Rattle.std.proofs.Common.{map, subst, sym, ◌∙◌}
use Rattle.std.specs.Prelude.{string_bytes}
use Rattle.gs_command.specs.declared.command.TrialCommand.TheVariants.{Make, Script, Tape}
use Rattle.gs_trial.specs.Trial.{CompletesGenerated, CompletesIfTold}
use Rattle.gs_trial.proofs.Commands.{command_few}
use Rattle.gs_trial.proofs.Completing.{completes, completes_make, completes_tape, of_command}
use Rattle.gs_trial.proofs.Heads.{never, never_written, of_answer}
use Rattle.gs_trial.proofs.top.trial_main.Goals as goal

pub make-requires : goal.make-requires
make-requires g c =
    let read = rw c.in-Ok-Make.field-0-is at c.in-Ok-Make.ensures in
    record { few = command_few (map string_bytes c.args.words.now) (Make c.in-Ok-Make.generated) read.1 }

pub write_tape-requires : goal.write_tape-requires
write_tape-requires g c =
    let read = rw c.in-Ok-Tape.field-0-is at c.in-Ok-Tape.ensures in
    record { few = command_few (map string_bytes c.args.words.now) (Tape c.in-Ok-Tape.generated) read.1 }

pub returns-in-Ok-Script-clause-complete : goal.returns-in-Ok-Script-clause-complete
returns-in-Ok-Script-clause-complete g c = λ detail is no_tape no_schedule no_write.
    let ran = c.run_script.ensures in
    subst (CompletesIfTold (g.S.Outside.left c.args.tape.now) (g.T.Outside.left c.args.schedule.now)) (sym c.status_of.ensures)
    (completes c.in-Ok-Script.detail _ _ _ _ c.run_script.result _ _ _ _ _ _ ran.answers ran.cause ran.tape_faults ran.schedule_faults ran.write_faults
    no_tape no_schedule no_write)

pub returns-in-Ok-Script-clause-head_first : goal.returns-in-Ok-Script-clause-head_first
returns-in-Ok-Script-clause-head_first g c = λ is.
    of_answer c.run_script.result _ c.run_script.ensures.head_first (sym c.status_of.ensures ∙ is)

pub returns-in-Ok-Make-clause-head_first : goal.returns-in-Ok-Make-clause-head_first
returns-in-Ok-Make-clause-head_first g c = λ is. never c.make.result _ c.make.ensures.not_schedule (sym c.status_of-in-Ok-Make.ensures ∙ is)

pub returns-in-Ok-Tape-clause-head_first : goal.returns-in-Ok-Tape-clause-head_first
returns-in-Ok-Tape-clause-head_first g c = λ is. never_written c.write_tape.result _ c.write_tape.ensures.cause (sym c.status_of-in-Ok-Tape.ensures ∙ is)

pub returns-in-Ok-Script-clause-complete_generated : goal.returns-in-Ok-Script-clause-complete_generated
returns-in-Ok-Script-clause-complete_generated g c = λ command is no_write.
    let read = rw c.in-Ok-Script.field-0-is at c.in-Ok-Script.ensures in
    of_command _ (Script c.in-Ok-Script.detail) command _ read.1 is tt

pub returns-in-Ok-Make-clause-complete_generated : goal.returns-in-Ok-Make-clause-complete_generated
returns-in-Ok-Make-clause-complete_generated g c = λ command is no_write.
    let made = c.make.ensures in
    let read = rw c.in-Ok-Make.field-0-is at c.in-Ok-Make.ensures in
    let generated = c.in-Ok-Make.generated in
    of_command _ (Make generated) command _ read.1 is
    (subst (CompletesGenerated (Make generated)) (sym c.status_of-in-Ok-Make.ensures)
    (completes_make generated.number generated.ticks _ _ c.make.result _ _ (command_few (map string_bytes c.args.words.now) (Make generated) read.1)
    made.answers made.cause made.not_tape made.not_schedule made.write_faults no_write))

pub returns-in-Ok-Tape-clause-complete_generated : goal.returns-in-Ok-Tape-clause-complete_generated
returns-in-Ok-Tape-clause-complete_generated g c = λ command is no_write.
    let wrote = c.write_tape.ensures in
    let read = rw c.in-Ok-Tape.field-0-is at c.in-Ok-Tape.ensures in
    let generated = c.in-Ok-Tape.generated in
    of_command _ (Tape generated) command _ read.1 is
    (subst (CompletesGenerated (Tape generated)) (sym c.status_of-in-Ok-Tape.ensures)
    (completes_tape c.write_tape.result _ _ wrote.cause wrote.write_faults no_write))
