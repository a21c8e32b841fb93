use Rattle.gs_pair.proofs.Cuts.{search_decides}
use Rattle.std.proofs.lemmas.Bool.Decides.{Decides-at}
use Rattle.gs_pair.proofs.places.stands_before_in_order.Goals as goal

pub returns : goal.returns
returns c =
    let from = c.least_together-from in
    Decides-at c.is_ok.result _ c.is_ok.ensures.value
    (search_decides c.args.handed.now c.args.cuts.now from.result c.args.place c.args.frame c.binary_search.result
    (record { within = from.ensures.within; least = from.ensures.least }) c.requires.within c.requires.order c.binary_search.ensures.position)
