use Rattle.std.proofs.Common.{sym, ◌∙◌}
use Rattle.gs_loopback.proofs.tests.opened.Goals as goal

pub returns : goal.returns
returns c = λ feed same. c.in_ok-open.ensures.keeps feed (same ∙ sym c.in-Some.ensures.audio)
