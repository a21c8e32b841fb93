use Rattle.std.proofs.Common.{arith, refl}
use Rattle.std.proofs.lemmas.Bool.{lt-ltb, le-ltb}
use Rattle.gs_tape.proofs.Streams.{fails, fails_read, fails_first, fails_then, fails_tested, fails_test, handed_on, reads_passed, reads_then}
use Rattle.gs_tape.proofs.StepReads.{unit_length_read}
use Rattle.gs_tape.proofs.cursor.Cursor.unit.Goals as goal

pub returns-in_err-length-clause-read : goal.returns-in_err-length-clause-read
returns-in_err-length-clause-read g c =
    handed_on c.from_residual.ensures.1 (fails_first _ (fails_tested _ _ (fails_tested _ _ (fails c.in_err-length.ensures.read))))

pub returns-then-length-gt-MOST_UNIT-clause-read : goal.returns-then-length-gt-MOST_UNIT-clause-read
returns-then-length-gt-MOST_UNIT-clause-read g c =
    fails_read (fails_first _ (fails_tested _ _ (fails_test _ _ c.in_ok-length.ensures.read (lt-ltb _ _ (omega arith)) refl)))

pub returns-then-held-from-gt-MOST_BYTES-clause-read : goal.returns-then-held-from-gt-MOST_BYTES-clause-read
returns-then-held-from-gt-MOST_BYTES-clause-read g c =
    fails_read (fails_first _ (fails_test _ _ (reads_passed _ _ c.in_ok-length.ensures.read (le-ltb _ _ (omega arith))) (lt-ltb _ _ (omega arith)) refl))

pub returns-in_err-bytes-clause-read : goal.returns-in_err-bytes-clause-read
returns-in_err-bytes-clause-read g c =
    handed_on c.from_residual-in_err-bytes.ensures.1
    (fails_then _ (unit_length_read c.args.tick c.args.held c.in_ok-length.ensures.read (omega arith) (omega arith)) (fails c.in_err-bytes.ensures.read))

pub returns-clause-read : goal.returns-clause-read
returns-clause-read g c =
    rw c.from_bytes.ensures
    (reads_then _ (unit_length_read c.args.tick c.args.held c.in_ok-length.ensures.read (omega arith) (omega arith)) c.in_ok-bytes.ensures.read)
