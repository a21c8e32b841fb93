use Rattle.std.proofs.Common.{◌∙◌, ap}
use Rattle.gs_rtp.specs.Stream.{StreamSettings}
use Rattle.gs_refs.specs.History.{last_tick}
use Rattle.gs_joined.proofs.tests.sending.open.Goals as goal

pub returns-clause-silent : goal.returns-clause-silent
returns-clause-silent c = ap (λ (s : StreamSettings). s.audio) c.in_ok-open.ensures.settings ∙ c.requires

pub returns-clause-last : goal.returns-clause-last
returns-clause-last c = ap last_tick c.in_ok-open.ensures.history
