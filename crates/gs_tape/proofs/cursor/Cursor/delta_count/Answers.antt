use Rattle.std.proofs.Common.{arith, refl}
use Rattle.std.proofs.lemmas.Bool.{lt-ltb, le-ltb}
use Rattle.gs_tape.proofs.Streams.{fails, fails_read, fails_tested, fails_test, handed_on, reads_passed}
use Rattle.gs_tape.proofs.cursor.Cursor.delta_count.Goals as goal

pub returns-in_err-count-clause-read : goal.returns-in_err-count-clause-read
returns-in_err-count-clause-read g c = handed_on c.from_residual.ensures.1 (fails_tested _ _ (fails c.in_err-count.ensures.read))

pub returns-then-count-gt-MOST_COUNT-clause-read : goal.returns-then-count-gt-MOST_COUNT-clause-read
returns-then-count-gt-MOST_COUNT-clause-read g c =
    fails_read (fails_test _ _ c.in_ok-count.ensures.read (lt-ltb _ _ c.if-count-gt-MOST_COUNT.true) refl)

pub returns-clause-read : goal.returns-clause-read
returns-clause-read g c = reads_passed _ _ c.in_ok-count.ensures.read (le-ltb _ _ c.if-count-gt-MOST_COUNT.false)
