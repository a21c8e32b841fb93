use Rattle.std.proofs.Common.{arith}
use Rattle.std.proofs.lemmas.Grind.{common_steps}
use Rattle.gs_bytes.proofs.NumberLemmas.{minus_spells_none, minus_spells_one}
use Rattle.gs_bytes.proofs.number.parse_signed.Goals as goal

pub returns-in_err-whole_number-in-45 : goal.returns-in_err-whole_number-in-45
returns-in_err-whole_number-in-45 c =
    minus_spells_none c.args.word.now _ c.whole_number.result c.from_residual.result (grind (arith, common_steps)) c.in_err-whole_number-in-45.was
    c.from_residual.ensures c.whole_number.ensures

pub returns-in_ok-whole_number-in-45 : goal.returns-in_ok-whole_number-in-45
returns-in_ok-whole_number-in-45 c =
    minus_spells_one c.args.word.now _ c.in_ok-whole_number-in-45.field-0 c.whole_number.result c.negative.result
    (grind (arith, common_steps)) c.in_ok-whole_number-in-45.was c.whole_number.ensures c.negative.ensures
