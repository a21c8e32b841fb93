use Rattle.std.proofs.Common.{◌∙◌, subst, List, ℕ}
use Rattle.std.specs.Io.KnownBytes.{Appends}
use Rattle.gs_bytes.specs.Outside.{AppendsPart}
use Rattle.gs_bytes.proofs.Cases.{on_err}
use Rattle.gs_tape.proofs.writer.TapeWriter.put.Goals as goal

pub returns-in_err-write_part-clause-err : goal.returns-in_err-write_part-clause-err
returns-in_err-write_part-clause-err g c =
    let told = g.K.Outside in
    let Part : List ℕ → Type 0 = λ bytes. AppendsPart (told.written c.args.out.now) (told.written c.write_part.new.out) bytes in
    on_err _ _ (subst Part (c.as_slice.ensures.value ∙ c.in_ok-bytes.ensures) c.in_err-write_part.ensures.err)

pub returns-clause-ok : goal.returns-clause-ok
returns-clause-ok g c =
    let told = g.K.Outside in
    let Whole : List ℕ → Type 0 = λ bytes. Appends (told.written c.args.out.now) (told.written c.write_part.new.out) bytes in
    subst Whole (c.as_slice.ensures.value ∙ c.in_ok-bytes.ensures) c.in_ok-write_part.ensures.ok
