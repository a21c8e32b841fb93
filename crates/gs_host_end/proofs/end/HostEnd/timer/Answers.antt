use Rattle.std.proofs.Common.{refl, ◌∙◌}
use Rattle.gs_enet.specs.World.{Time, acted}
use Rattle.gs_run.proofs.Uses.{kept_timed}
use Rattle.gs_host_end.proofs.Standing.{both-ok, hears}
use Rattle.gs_host_end.proofs.end.HostEnd.timer.Goals as goal

pub returns-clause-timed : goal.returns-clause-timed
returns-clause-timed c =
    both-ok c.hear_all.result (λ heard inputs session ticks part s.
    let tells = c.in_ok-timer.ensures part.host s.side in
    hears c.args.self.now _ session ticks part (acted (Time c.args.now) part.host) c.deref.result.now c.args.reporter.now c.hear_all.new.reporter s
    (kept_timed c.args.now part.host.peer).told (c.deref.ensures.value ∙ tells.events_are) tells.stands c.hear_all.ensures.keeps heard inputs
    refl refl refl refl)
    c.hear_all.ensures.heard c.hear_all.ensures.inputs
