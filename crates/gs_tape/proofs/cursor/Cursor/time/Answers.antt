use Rattle.std.proofs.Common.{arith, refl}
use Rattle.std.proofs.lemmas.Bool.{lt-ltb, le-ltb}
use Rattle.gs_tape.proofs.Streams.{fails, fails_read, fails_tested, fails_test, handed_on, reads_passed}
use Rattle.gs_tape.proofs.cursor.Cursor.time.Goals as goal

pub returns-in_err-time-clause-read : goal.returns-in_err-time-clause-read
returns-in_err-time-clause-read g c = handed_on c.from_residual.ensures.1 (fails_tested _ _ (fails c.in_err-time.ensures.read))

pub returns-then-time-earliest-clause-read : goal.returns-then-time-earliest-clause-read
returns-then-time-earliest-clause-read g c =
    fails_read (fails_test _ _ c.in_ok-time.ensures.read (lt-ltb _ _ c.if-time-earliest.true) refl)

pub returns-clause-read : goal.returns-clause-read
returns-clause-read g c = reads_passed _ _ c.in_ok-time.ensures.read (le-ltb _ _ c.if-time-earliest.false)
