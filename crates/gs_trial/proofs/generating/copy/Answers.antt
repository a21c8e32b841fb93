use Rattle.std.proofs.Common.{◌∙◌, arith, take}
use Rattle.gs_trial.proofs.Copies.{copied_front, copied_more, copied_part}
use Rattle.gs_trial.proofs.generating.copy.Goals as goal

pub pieces-preserved : goal.pieces-preserved
pieces-preserved g c =
    let inv = c.pieces.invariant in
    let wrote = c.in_default-write_all.ensures in
    record {
      some = omega (arith, c.read.auto.into, inv.some);
      copied = copied_more _ _ _ (take c.in-Ok.count c.read.new.into) _ _ _ inv.copied c.in-Ok.ensures.left.0 wrote.ok;
      faults = wrote.none_counted ∙ inv.faults;
    }

pub returns-in_default-clause-front : goal.returns-in_default-clause-front
returns-in_default-clause-front g c = copied_front _ _ _ _ c.pieces.invariant.copied

pub returns-in-Err-clause-front : goal.returns-in-Err-clause-front
returns-in-Err-clause-front g c =
    copied_part _ _ _ (take c.in-Ok.count c.read.new.into) _ _ _ c.pieces.invariant.copied c.in-Ok.ensures.left.0 c.in-Err.ensures.err
