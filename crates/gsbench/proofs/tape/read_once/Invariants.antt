use Rattle.std.proofs.Common.{Some}
use Rattle.gs_tape.specs.Tape.{unread_tape}
use Rattle.gsbench.proofs.Captures.{ReadSoFar, ticks_left}
use Rattle.gsbench.proofs.tape.read_once.Given as goal

abbrev pub invariant-ticks : goal.invariant-ticks
invariant-ticks l = ReadSoFar l.file l.seen.units l.seen.last (unread_tape l.tape (Some l.source))

abbrev pub decreases-ticks : goal.decreases-ticks
decreases-ticks l = ticks_left (unread_tape l.tape (Some l.source))
