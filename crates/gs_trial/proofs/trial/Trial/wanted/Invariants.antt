use Rattle.std.proofs.Common.{◌≤◌, ◌<◌, ℕ}
use Rattle.std.specs.Prelude.{IfSome, slice_index_or}
use Rattle.gs_host_end.specs.Outcomes.{tick_sent}
use Rattle.gs_loopback.specs.declared.session.Loopback.{Loopback}
use Rattle.gs_trial.proofs.trial.Trial.wanted.Given as goal

abbrev pub invariant-sessions : goal.invariant-sessions
invariant-sessions l = (k : ℕ) (d : Loopback) → k < l.session-index
    → IfSome (tick_sent (slice_index_or l.fn.self.sessions.items k d).host) (λ last. l.wanted ≤ last)
