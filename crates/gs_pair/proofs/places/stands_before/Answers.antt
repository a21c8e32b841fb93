use Rattle.gs_pair.proofs.Cuts.{look_decides}
use Rattle.gs_pair.proofs.places.stands_before.Goals as goal

pub returns : goal.returns
returns c =
    let from = c.least_together-from in
    look_decides c.args.handed.now c.args.cuts.now from.result c.args.place c.args.frame c.contains.result
    (record { within = from.ensures.within; least = from.ensures.least }) c.requires.within c.contains.ensures.cases
