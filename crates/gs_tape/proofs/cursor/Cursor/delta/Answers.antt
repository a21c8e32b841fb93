use Rattle.std.proofs.Common.{arith, refl, sym, ◌∙◌}
use Rattle.gs_tape.proofs.Streams.{fails, fails_read, fails_first, fails_then, fails_tested, fails_test, handed_on}
use Rattle.gs_tape.proofs.StepReads.{named_read, delta_read}
use Rattle.gs_tape.proofs.cursor.Cursor.delta.Goals as goal

pub returns-in_err-named-clause-read : goal.returns-in_err-named-clause-read
returns-in_err-named-clause-read g c =
    handed_on c.from_residual.ensures.1 (fails_first _ (fails_tested _ _ (fails c.in_err-named.ensures.read)))

pub returns-then-is_misnamed-clause-read : goal.returns-then-is_misnamed-clause-read
returns-then-is_misnamed-clause-read g c =
    fails_read (fails_first _ (fails_test _ _ c.in_ok-named.ensures.read (sym c.is_misnamed.ensures ∙ c.if-is_misnamed.true) refl))

pub returns-in_err-unit-clause-read : goal.returns-in_err-unit-clause-read
returns-in_err-unit-clause-read g c =
    handed_on c.from_residual-in_err-unit.ensures.1
    (fails_then _ (named_read c.args.tick c.args.after c.in_ok-named.ensures.read (sym c.is_misnamed.ensures ∙ c.if-is_misnamed.false))
    (fails_first _ (fails c.in_err-unit.ensures.read)))

pub returns-clause-read : goal.returns-clause-read
returns-clause-read g c =
    delta_read c.args.tick c.args.after c.args.held
    (named_read c.args.tick c.args.after c.in_ok-named.ensures.read (sym c.is_misnamed.ensures ∙ c.if-is_misnamed.false)) c.in_ok-unit.ensures.read
