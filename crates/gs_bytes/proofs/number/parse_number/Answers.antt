use Rattle.std.proofs.Common.{◌∙◌, arith}
use Rattle.gs_bytes.proofs.Decimals.{answers_none, answers_some, answers_value, none_is_far, some_is_far}
use Rattle.gs_bytes.proofs.number.parse_number.Goals as goal

pub returns-in_err-number-clause-value : goal.returns-in_err-number-clause-value
returns-in_err-number-clause-value c =
    c.from_residual.ensures ∙ answers_value c.args.most c.args.word.now _ (omega arith)
    (answers_none _ _ _ (omega arith) c.whole_number.ensures (none_is_far c.args.most _ c.in_err-number.was))

pub returns-then-number-most-clause-value : goal.returns-then-number-most-clause-value
returns-then-number-most-clause-value c =
    answers_value c.args.most c.args.word.now _ (omega arith)
    (answers_none _ _ _ (omega arith) c.whole_number.ensures (some_is_far c.args.most _ _ c.in_ok-number.was c.if-number-most.true))

pub returns-clause-value : goal.returns-clause-value
returns-clause-value c =
    answers_value c.args.most c.args.word.now _ (omega arith)
    (answers_some _ _ _ _ (omega arith) c.whole_number.ensures c.in_ok-number.was (omega arith))
