use Rattle.std.proofs.Common.{refl}
use Rattle.std.proofs.lemmas.Result.{on_ok_weaker}
use Rattle.gs_host_end.proofs.Standing.{settles}
use Rattle.gs_host_end.proofs.end.HostEnd.settle.Goals as goal

pub returns-clause-settled : goal.returns-clause-settled
returns-clause-settled c =
    on_ok_weaker c.write_out.result (λ written session ticks part s.
    settles c.args.self.now _ session c.args.now ticks part s written refl refl refl refl refl refl) c.write_out.ensures
