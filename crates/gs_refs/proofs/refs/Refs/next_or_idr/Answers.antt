use Rattle.std.proofs.Common.{◌∙◌, sym, subst}
use Rattle.gs_refs.specs.Answers.{References}
use Rattle.gs_refs.specs.Standing.{Chooses, next_or_idr}
use Rattle.gs_refs.proofs.Standings.{next-idr}
use Rattle.gs_refs.proofs.refs.Refs.next_or_idr.Goals as goal

pub returns-then-not-names : goal.returns-then-not-names
returns-then-not-names c =
    subst (λ (r : References). Chooses r.history (next_or_idr r.history c.args.tick.now) (record { kind = 2; reference = 0; named = 0 })) c.self.view_is
    (next-idr _ c.args.tick.now c.self.inside.last_tick c.self.invariant.tick (sym c.names.ensures ∙ c.if-not-names.true))
