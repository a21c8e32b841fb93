use Rattle.std.proofs.Common.{◌≡◌, drop}
use Rattle.std.specs.List.{flat_map}
use Rattle.gs_run.specs.Hearing.{client_reports}
use Rattle.gs_report.specs.Reporting.{with_reports}
use Rattle.gs_client_end.proofs.reports.report_events.Given as goal

-- what is reported so far, and then of the rest, is all
abbrev pub invariant-events : goal.invariant-events
invariant-events l =
    with_reports l.reporter (flat_map (client_reports l.session) (drop l.event-index l.events))
    ≡ with_reports l.fn.reporter (flat_map (client_reports l.session) l.events)
