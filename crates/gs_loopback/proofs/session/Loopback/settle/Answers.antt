use Rattle.std.proofs.Common.{sym, ◌∙◌}
use Rattle.std.proofs.lemmas.Result.{on_ok_weaker}
use Rattle.gs_loopback.proofs.Parts.{settled_marks}
use Rattle.gs_loopback.proofs.session.Loopback.settle.Goals as goal

pub returns-clause-settled : goal.returns-clause-settled
returns-clause-settled c =
    on_ok_weaker c.settle-2.result
    (λ settles session ticks part h. record {
      host = settles session ticks part h.host;
      client = c.in_ok-settle.ensures session part h.client;
      marks = h.marks ∙ sym (settled_marks c.args.now part);
    })
    c.settle-2.ensures.settled
