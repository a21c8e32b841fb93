use Rattle.std.proofs.Common.{sym, ◌∙◌}
use Rattle.gs_loopback.proofs.Numbers.{none_next, second_kept}
use Rattle.gs_loopback.proofs.pumping.next_kept.Goals as goal

pub returns-then-every-eq1 : goal.returns-then-every-eq1
returns-then-every-eq1 c = none_next c.args.every c.args.above c.args.to c.then-every-eq1.either

pub returns : goal.returns
returns c =
    c.next_above.ensures
    ∙ sym (second_kept c.args.every c.args.above c.args.to c.if-above-to.false c.if-every-eq1.false (sym c.is_kept.ensures ∙ c.if-is_kept.false))
