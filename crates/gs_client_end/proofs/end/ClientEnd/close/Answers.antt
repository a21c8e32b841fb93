use Rattle.std.proofs.Common.{refl, sym, ◌∙◌}
use Rattle.gs_client_end.proofs.Ends.{closes}
use Rattle.gs_client_end.proofs.end.ClientEnd.close.Goals as goal

pub returns-clause-closes : goal.returns-clause-closes
returns-clause-closes c = λ session part h. (
  sym (c.is_open.ensures session part h) ∙ c.if-not-is_open.false,
  closes c.args.self.now _ session part h (record { session = refl; client = refl; asker = refl; owed = refl; sums = refl })
      (c.close.ensures part.client h.side),
)
