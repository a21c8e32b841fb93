use Rattle.std.proofs.Common.{List, ℕ, ap, ◌∙◌}
use Rattle.std.specs.List.{concat}
use Rattle.gs_generated.proofs.Parting.{concat_one}
use Rattle.gs_generated.proofs.tick_parts.put.Goals as goal

pub returns : goal.returns
returns c =
    ap (λ (l : List (List ℕ)). concat l) c.in_ok-push_back.ensures.items ∙ concat_one c.args.parts.now.items c.args.part
