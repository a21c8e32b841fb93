use Rattle.std.proofs.Common.{◌≡◌, ◌∙◌, Bor, List, MatchOption, None, Option, Some, ap, option_copied, sym}
use Rattle.std.specs.Prelude.{◌==◌}
use Rattle.std.specs.List.{find}
use Rattle.gs_tape.specs.Tick.{Tick, Delta}
use Rattle.gs_host_core.proofs.unit.delta_against.Goals as goal

found : {X : Type 0} (r : Option (Bor X)) (o : Option X) → option_copied r ≡ o → MatchOption r (o ≡ None) (λ d. o ≡ Some d.now)
found None o e = sym e
found (Some d) o e = sym e

pub returns : goal.returns
returns c =
    let same = c.as_slice-deltas.ensures ∙ ap (λ (t : Tick). t.deltas) c.tick.view_is in
    found c.find_delta.result (find (λ (d : Delta). d.named == c.args.named) c.args.tick.now.deltas)
    (c.find_delta.ensures ∙ ap (λ (ds : List Delta). find (λ (d : Delta). d.named == c.args.named) ds) same)
