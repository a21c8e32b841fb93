use Rattle.std.proofs.Common.{refl, arith}
use Rattle.std.proofs.lemmas.Result.{on_ok_weaker}
use Rattle.gs_client_end.proofs.Ends.{settles}
use Rattle.gs_client_end.proofs.end.ClientEnd.settle.Goals as goal

pub returns : goal.returns
returns c =
    on_ok_weaker c.write_out.result (λ writes session part h.
    settles c.args.self.now _ c.give_owed.new.self session c.args.now c.in_ok-given.given part h (c.in_ok-given.ensures part.client h.side) writes
    refl refl (omega (arith, c.in-Some.ensures, c.from.ensures)) refl) c.write_out.ensures
