use Rattle.std.proofs.Common.{[], ◌∷◌, sym, ap, subst, ◌∙◌}
use Rattle.gs_frames.specs.Client.{Reset}
use Rattle.gs_schedule.specs.declared.output.Output.TheVariants as output
use Rattle.gs_client_core.specs.declared.client.Client.{Client}
use Rattle.gs_client_core.specs.Standing.{IsClientOf}
use Rattle.gs_run.specs.Report.{plain}
use Rattle.gs_report.specs.Reporting.{with_reports}
use Rattle.gs_client_end.specs.declared.end.ClientEnd.{ClientEnd}
use Rattle.gs_client_end.proofs.Streams.{reset_done}
use Rattle.gs_client_end.proofs.end.ClientEnd.reset.Goals as goal

pub returns : goal.returns
returns c = λ session part h.
    let owes = c.in_ok-owe_idr.ensures in
    reset_done c.args.self.now _ session part c.args.reporter.now _ h (sym (c.is_open.ensures session part h) ∙ c.if-not-is_open.false)
    (sym (c.has_made_most.ensures session part h) ∙ c.if-has_made_most.false)
    (subst (λ (client : Client). IsClientOf client part.settings (Reset ∷ part.came) part.sound) (sym (ap (λ (e : ClientEnd). e.client) owes))
    (c.reset.ensures part.settings part.came part.sound h.client)) (ap (λ (e : ClientEnd). e.session) owes) (ap (λ (e : ClientEnd). e.asker) owes)
    (ap (λ (e : ClientEnd). e.owed) owes) (ap (λ (e : ClientEnd). e.side) owes) (ap (λ (e : ClientEnd). e.sums) owes)
    (c.in_ok-report.ensures.ok
    ∙ ap (λ (e : ClientEnd). with_reports c.args.reporter.now (plain (output.Reset e.session) ∷ [])) owes)
