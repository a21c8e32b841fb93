use Rattle.std.proofs.Common.{ℕ, List, ◌++◌, append_assoc, ap, sym, take, ◌∙◌}
use Rattle.std.specs.List.{concat}
use Rattle.gs_bytes.proofs.Lists.{concat_more}
use Rattle.gs_tape.proofs.layout.put_sounds.Goals as goal

pub units-preserved : goal.units-preserved
units-preserved c =
    let before = concat (take c.units.unit-index c.args.units.now) in
    c.in_ok-extend_from_slice.ensures.items
    ∙ ap (λ (l : List ℕ). l ++ c.as_bytes.result.now) c.units.invariant
    ∙ append_assoc c.args.bytes.now.items before c.as_bytes.result.now
    ∙ ap (λ (l : List ℕ). c.args.bytes.now.items ++ l) (ap (λ (b : List ℕ). before ++ b) (c.as_bytes.ensures ∙ c.unit-item.is)
    ∙ sym (concat_more c.args.units.now c.units.unit-index c.unit-item.result c.units-test.true))
