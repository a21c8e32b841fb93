use Rattle.std.proofs.Common.{Bool, List, refl, subst, ap, ◌∙◌}
use Rattle.std.specs.List.{flat_map}
use Rattle.gs_enet.specs.declared.event.PeerEvent.{PeerEvent}
use Rattle.gs_sides.specs.Outcomes.{SideTakes}
use Rattle.gs_run.specs.Hearing.{client_reports}
use Rattle.gs_report.specs.Reporting.{with_reports}
use Rattle.gs_client_end.proofs.Ends.{takes_down}
use Rattle.gs_client_end.proofs.end.ClientEnd.take_down.Goals as goal

pub returns-then-not-branch : goal.returns-then-not-branch
returns-then-not-branch c = λ session part h other.
    let took = subst (λ (b : Bool). SideTakes part.client part.host c.args.number c.args.now b c.take.new.events.items c.take.new.self)
    c.if-not-branch.true (c.in_ok-take.ensures part.client part.host h.side other) in
    (took.0, refl)

pub returns : goal.returns
returns c = λ session part h other.
    takes_down c.args.self.now _ session c.args.now c.args.number part c.take.new.events.items c.args.reporter.now c.report_events.new.reporter h
    (record { session = refl; client = refl; asker = refl; owed = refl; sums = refl })
    (subst (λ (b : Bool). SideTakes part.client part.host c.args.number c.args.now b c.take.new.events.items c.take.new.self) c.if-not-branch.false
    (c.in_ok-take.ensures part.client part.host h.side other))
    (c.in_ok-report_events.ensures
    ∙ ap (λ (es : List PeerEvent). with_reports c.args.reporter.now (flat_map (client_reports c.args.self.now.session) es)) c.deref.ensures.value)
