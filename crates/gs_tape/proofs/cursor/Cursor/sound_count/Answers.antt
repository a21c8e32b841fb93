use Rattle.std.proofs.Common.{arith, refl, sym, ◌∙◌}
use Rattle.std.proofs.lemmas.Bool.{lt-ltb, le-ltb}
use Rattle.gs_tape.proofs.Streams.{fails, fails_read, fails_tested, fails_test, handed_on, reads_passed}
use Rattle.gs_tape.proofs.cursor.Cursor.sound_count.Goals as goal

pub returns-in_err-heard-clause-read : goal.returns-in_err-heard-clause-read
returns-in_err-heard-clause-read g c =
    handed_on c.from_residual.ensures.1 (fails_tested _ _ (fails_tested _ _ (fails c.in_err-heard.ensures.read)))

pub returns-then-are_too_many-clause-read : goal.returns-then-are_too_many-clause-read
returns-then-are_too_many-clause-read g c =
    fails_read (fails_tested _ _ (fails_test _ _ c.in_ok-heard.ensures.read (sym c.are_too_many.ensures ∙ c.if-are_too_many.true) refl))

pub returns-then-known-heard_bytes-gt-MOST_BYTES-clause-read : goal.returns-then-known-heard_bytes-gt-MOST_BYTES-clause-read
returns-then-known-heard_bytes-gt-MOST_BYTES-clause-read g c =
    fails_read
    (fails_test _ _ (reads_passed _ _ c.in_ok-heard.ensures.read (sym c.are_too_many.ensures ∙ c.if-are_too_many.false)) (lt-ltb _ _ (omega arith)) refl)

pub returns-clause-read : goal.returns-clause-read
returns-clause-read g c =
    reads_passed _ _ (reads_passed _ _ c.in_ok-heard.ensures.read (sym c.are_too_many.ensures ∙ c.if-are_too_many.false)) (le-ltb _ _ (omega arith))
