use Rattle.std.proofs.Common.{refl, sym, ap, ◌∙◌, Bool, not}
use Rattle.gs_tape.proofs.Streams.{fails, fails_read, fails_tested, fails_test, handed_on, reads_passed}
use Rattle.gs_tape.proofs.cursor.Cursor.duration.Goals as goal

pub returns-in_err-duration-clause-read : goal.returns-in_err-duration-clause-read
returns-in_err-duration-clause-read g c = handed_on c.from_residual.ensures.1 (fails_tested _ _ (fails c.in_err-duration.ensures.read))

pub returns-then-is_unknown-clause-read : goal.returns-then-is_unknown-clause-read
returns-then-is_unknown-clause-read g c =
    fails_read (fails_test _ _ c.in_ok-duration.ensures.read (sym c.is_unknown.ensures ∙ c.if-is_unknown.true) refl)

pub returns-clause-read : goal.returns-clause-read
returns-clause-read g c = reads_passed _ _ c.in_ok-duration.ensures.read (sym c.is_unknown.ensures ∙ c.if-is_unknown.false)
