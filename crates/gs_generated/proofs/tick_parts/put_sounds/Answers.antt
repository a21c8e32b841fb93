use Rattle.std.proofs.Common.{◌≡◌, ℕ, List, ◌++◌, append_assoc, ap, sym, take, ◌∙◌, rules}
use Rattle.std.specs.List.{concat}
use Rattle.gs_bytes.proofs.Lists.{concat_more}
use Rattle.gs_generated.proofs.tick_parts.put_sounds.Goals as goal

pub units-preserved : goal.units-preserved
units-preserved c =
    let old = concat c.args.parts.now.items in
    let before = concat (take c.units.unit-index c.args.units.now) in
    let same : c.in_ok-clone.field-0 ≡ c.unit-item.result = search rules in
    c.in_ok-put.ensures ∙ ap (λ (l : List ℕ). l ++ c.in_ok-clone.field-0) c.units.invariant
    ∙ append_assoc old before c.in_ok-clone.field-0
    ∙ ap (λ (b : List ℕ). old ++ (before ++ b)) (same ∙ c.unit-item.is)
    ∙ ap (λ (l : List ℕ). old ++ l) (sym (concat_more c.args.units.now c.units.unit-index c.unit-item.result c.units-test.true))
