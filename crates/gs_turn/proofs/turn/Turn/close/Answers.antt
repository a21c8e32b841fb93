use Rattle.std.proofs.Common.{◌≡◌, Some, sym, ◌∙◌, subst}
use mathlib.Core.Option.{some-injective}
use Rattle.gs_turn.specs.History.{Leaves}
use Rattle.gs_turn.specs.Cells.{opening_of}
use Rattle.gs_turn.proofs.Keeping.{outside_is}
use Rattle.gs_turn.proofs.Closing.{closes}
use Rattle.gs_turn.proofs.turn.Turn.close.Goals as goal

pub unreachable-requires : goal.unreachable-requires
unreachable-requires g c =
    let end = closes g.S.Turned.steps c.args.self.table.shared.key _ _
    (outside_is _ c.args.pass.outside) c.requires.all _ _ c.close_with-closed.ensures.values.2 in
    let found : c.take-state.result ≡ Some end.state = some-injective _ _ (sym c.take-state.ensures.value ∙ end.slot) in
    cc (found, c.in-None.is)

pub returns : goal.returns
returns g c =
    let end = closes g.S.Turned.steps c.args.self.table.shared.key _ _
    (outside_is _ c.args.pass.outside) c.requires.all _ _ c.close_with-closed.ensures.values.2 in
    let found : c.take-state.result ≡ Some end.state = some-injective _ _ (sym c.take-state.ensures.value ∙ end.slot) in
    let same : end.state ≡ c.in-Some.state = cc (found, c.in-Some.is) in
    (end.log, subst (λ (t : g.row.S.Denot). Leaves g.S.Turned.steps (opening_of c.args.self) end.log t) same end.legal, end.front, end.calls)
