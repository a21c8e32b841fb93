use Rattle.std.proofs.Common.{◌-◌, refl, ◌∙◌}
use Rattle.std.specs.Prelude.{slice_get}
use Rattle.gs_enet.specs.World.{came}
use Rattle.gs_run.proofs.Uses.{kept_came}
use Rattle.gs_host_end.specs.Standing.{IsHostEndOf}
use Rattle.gs_host_end.proofs.Standing.{took-none, took-one, hears, hears-up}
use Rattle.gs_host_end.proofs.end.HostEnd.take_up.Goals as goal

pub returns-then-not-branch-clause-took : goal.returns-then-not-branch-clause-took
returns-then-not-branch-clause-took c = λ session ticks part s other. (
  took-none c.in_ok-take.field-0 part.host part.client c.args.number c.args.now c.take.new.events.items c.take.new.self c.if-not-branch.true
      (c.in_ok-take.ensures part.host part.client s.side other),
  refl,
)

pub returns-clause-took : goal.returns-clause-took
returns-clause-took c = λ session ticks part s other.
    let took = took-one c.in_ok-take.field-0 part.host part.client c.args.number c.args.now c.take.new.events.items c.take.new.self c.if-not-branch.false
    (c.in_ok-take.ensures part.host part.client s.side other) in
    let w = slice_get part.client.wrote (c.args.number - 1) in (
      took.0,
      hears-up (IsHostEndOf _ session ticks) session c.args.now c.args.number part c.args.reporter.now c.hear_all.new.reporter
          (hears c.args.self.now _ session ticks part (came w c.args.now part.host) c.deref.result.now c.args.reporter.now c.hear_all.new.reporter s
          (kept_came w c.args.now part.host).told (c.deref.ensures.value ∙ took.1.events_are) took.1.stands c.in_ok-hear_all.ensures.keeps
          c.in_ok-hear_all.ensures.heard c.in_ok-hear_all.ensures.inputs refl refl refl refl),
    )
