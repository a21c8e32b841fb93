use Rattle.std.proofs.Common.{refl, sym, ap, ◌≡◌, Bool, true, false, not, ℕ}
use Rattle.std.specs.Prelude.{◌==◌}
use Rattle.gs_bytes.proofs.Cases.{not_zero}
use Rattle.gs_tape.proofs.Streams.{fails, fails_read, fails_tested, fails_test, handed_on, reads_passed}
use Rattle.gs_tape.proofs.StepReads.{is_zero}
use Rattle.gs_tape.proofs.cursor.Cursor.last.Goals as goal

pub returns-in_err-last-clause-read : goal.returns-in_err-last-clause-read
returns-in_err-last-clause-read g c = handed_on c.from_residual.ensures.1 (fails_tested _ _ (fails c.in_err-last.ensures.read))

pub returns-then-last-ne0-clause-read : goal.returns-then-last-ne0-clause-read
returns-then-last-ne0-clause-read g c = fails_read (fails_test _ _ c.in_ok-last.ensures.read (not_zero _ c.if-last-ne0.true) refl)

pub returns-clause-read : goal.returns-clause-read
returns-clause-read g c = reads_passed _ _ c.in_ok-last.ensures.read (is_zero _ c.if-last-ne0.false)
