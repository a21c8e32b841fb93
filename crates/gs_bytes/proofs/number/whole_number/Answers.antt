use Rattle.std.proofs.Common.{ℕ, List, refl, subst}
use Rattle.std.specs.Str.Parse.{ParsesUnsigned}
use Rattle.gs_bytes.proofs.NumberLemmas.{parsed_is_spelled, not_plain_spells_none, not_text_spells_none, kept, dropped, none_is_spelled}
use Rattle.gs_bytes.proofs.number.whole_number.Goals as goal

pub returns-then-not-begins_plainly : goal.returns-then-not-begins_plainly
returns-then-not-begins_plainly c = none_is_spelled c.args.word.now _ refl (not_plain_spells_none c.args.word.now (cc))

pub returns-in_err-ok : goal.returns-in_err-ok
returns-in_err-ok c =
    let fault = dropped _ _ c.from_utf8.result c.ok.result c.ok.ensures.value c.in_err-ok.was c.from_utf8.ensures.cases in
    none_is_spelled c.args.word.now c.from_residual.result c.from_residual.ensures (not_text_spells_none c.args.word.now fault.1.0)

pub returns : goal.returns
returns c = λ n.
    let text = kept _ _ c.from_utf8.result c.ok.result c.in_ok-ok.field-0 c.ok.ensures.value c.in_ok-ok.was c.from_utf8.ensures.cases in
    rw c.ok-2.ensures.value (parsed_is_spelled c.args.word.now c.parse.result (cc)
    (subst (λ (bs : List ℕ). ParsesUnsigned 32 10 bs c.parse.result) text.0 c.parse.ensures.value.0) n)
