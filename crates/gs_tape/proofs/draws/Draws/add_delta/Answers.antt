use Rattle.std.proofs.Common.{ℕ, ◌-◌, List, [], ◌∷◌, ◌++◌, ap, sym, ◌∙◌}
use Rattle.gs_tape.specs.Tick.{Delta}
use Rattle.gs_tape.specs.Generated.{Drawn}
use Rattle.gs_tape.proofs.Parts.{delta_none, delta_some}
use Rattle.gs_tape.proofs.draws.Draws.add_delta.Goals as goal

pub returns-then-back-t : goal.returns-then-back-t
returns-then-back-t c =
    let same = sym (delta_none c.args.t c.args.back (record { value = c.args.deltas.now.items; state = c.args.self.now.state }) c.if-back-t.true) in (
      ap (λ (d : Drawn (List Delta)). d.value) same,
      ap (λ (d : Drawn (List Delta)). d.state) same,
    )

pub returns : goal.returns
returns c =
    let some = sym (delta_some c.args.t c.args.back (record { value = c.args.deltas.now.items; state = c.args.self.now.state }) c.if-back-t.false) in
    let make : List ℕ → Delta = λ (unit : List ℕ). record { named = c.args.t - c.args.back; unit = unit } in (
      c.in_ok-push.ensures.items ∙ ap (λ (unit : List ℕ). c.args.deltas.now.items ++ make unit ∷ []) c.in_ok-unit.ensures.unit
          ∙ ap (λ (d : Drawn (List Delta)). d.value) some,
      c.in_ok-unit.ensures.state ∙ ap (λ (d : Drawn (List Delta)). d.state) some,
    )
