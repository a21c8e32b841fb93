use Rattle.std.proofs.Common.{List, refl, ap, ◌∙◌}
use Rattle.std.specs.List.{flat_map}
use Rattle.std.proofs.lemmas.Result.{on_ok_weaker}
use Rattle.gs_enet.specs.declared.event.PeerEvent.{PeerEvent}
use Rattle.gs_enet.specs.World.{Time, acted}
use Rattle.gs_run.specs.Hearing.{client_reports}
use Rattle.gs_report.specs.Reporting.{with_reports}
use Rattle.gs_client_end.proofs.Ends.{hears}
use Rattle.gs_client_end.proofs.end.ClientEnd.timer.Goals as goal

pub returns : goal.returns
returns c =
    on_ok_weaker c.report_events.result (λ text session part h.
    hears c.args.self.now _ session part (acted (Time c.args.now) part.client) c.timer.new.events.items c.args.reporter.now
    c.report_events.new.reporter h (record { session = refl; client = refl; asker = refl; owed = refl; sums = refl })
    (c.in_ok-timer.ensures part.client h.side)
    (text
    ∙ ap (λ (es : List PeerEvent). with_reports c.args.reporter.now (flat_map (client_reports c.args.self.now.session) es)) c.deref.ensures.value))
    c.report_events.ensures
