use Rattle.std.proofs.Common.{ℕ, refl, sym, subst}
use Rattle.gs_enet.specs.Record.{connecting}
use Rattle.gs_enet.specs.Sides.{new_side}
use Rattle.gs_sides.specs.Standing.{IsSideOf}
use Rattle.gs_client_end.proofs.Streams.{no_sums}
use Rattle.gs_client_end.proofs.end.ClientEnd.open.Goals as goal

pub returns : goal.returns
returns c = λ host_id settings stream ssrc window. record {
  session_is = refl;
  client = c.in_ok-new.ensures settings stream window;
  side = subst (λ (id : ℕ). IsSideOf c.in_ok-connect.field-0 (new_side (connecting 0 id id c.args.now))) (sym ssrc) c.in_ok-connect.ensures;
  asker = c.new-2.ensures;
  owed = refl;
  sums = no_sums host_id c.args.now settings;
}
