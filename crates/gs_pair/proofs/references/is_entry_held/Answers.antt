use Rattle.std.proofs.Common.{◌+◌, refl, arith}
use Rattle.gs_pair.proofs.InOrder.{unsent_refers_to_none}
use Rattle.gs_pair.proofs.references.is_entry_held.Goals as goal

pub returns-in-Invalid : goal.returns-in-Invalid
returns-in-Invalid c h count = (
  λ e place reference within at refers.
      absurd (unsent_refers_to_none c.args.entry h (c.args.sent + 1) reference c.in-Invalid.is (omega arith) refers),
  λ held. refl,
)
