use Rattle.std.proofs.Common.{◌≡◌, length, rules}
use Rattle.gs_client_core.proofs.Units.{places_four}
use Rattle.gs_client_core.proofs.hand.units_of.Goals as goal

pub returns : goal.returns
returns c = λ client came hs packet queue ready e.
    let four : length c.args.frames.now ≡ 4 = search rules in
    places_four client came hs c.args.frames.now _ _ _ _ four ready (c.unit_in.ensures client came packet queue)
    (c.unit_in-2.ensures client came packet queue) (c.unit_in-3.ensures client came packet queue) (c.unit_in-4.ensures client came packet queue) e
