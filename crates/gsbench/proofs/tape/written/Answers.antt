use Rattle.std.proofs.Common.{◌≡◌, List, ℕ, [], Some, rules, subst}
use Rattle.std.specs.Io.KnownBytes.{Appends}
use Rattle.gs_tape.specs.Capture.{file}
use Rattle.gs_tape.specs.Generated.{generated}
use Rattle.gsbench.proofs.Captures.{generated_read}
use Rattle.gsbench.proofs.tape.written.Goals as goal

pub returns-clause-ticks : goal.returns-clause-ticks
returns-clause-ticks c =
    let after = c.write_generated.new.out.written in
    let From : List ℕ → Type 0 = λ before. Appends (Some before) (Some after) (file 240 5 (generated c.args.number c.args.ticks)) in
    let empty : c.in_ok-sink.sink.written ≡ [] = search rules in
    generated_read c.args.number c.args.ticks after c.requires (subst From empty c.in_ok-write_generated.ensures.ok)
