use Rattle.std.proofs.Common.{ℕ, List, map, subst}
use Rattle.std.proofs.lemmas.Result.{IfOk-weaker}
use Rattle.gs_audio.specs.Played.{PlayedUnit}
use Rattle.gs_audio.specs.Units.{played_units}
use Rattle.gs_frames.specs.Client.{ClientSettings, Arrival}
use Rattle.gs_client_core.specs.Standing.{IsClientOf}
use Rattle.gs_run.specs.Report.{play_report}
use Rattle.gs_client_end.specs.Steps.{Reported, Plays}
use Rattle.gs_client_end.proofs.streaming.give_audio.Goals as goal

pub returns : goal.returns
returns c =
    IfOk-weaker c.report_units.result
    (λ count. Reported (map (play_report c.args.session) (played_units c.play.result)) count c.args.reporter.now c.report_units.new.reporter)
    (λ count. (settings : ClientSettings) (came : List Arrival) (sound : List (List ℕ)) → IsClientOf c.args.client.now settings came sound
    → Plays c.args.session settings came sound c.args.datagram.now count c.play.follows.lender-at-none c.args.reporter.now
    c.report_units.new.reporter)
    (λ count reported settings came sound stands. record {
      stands = c.play.follows.holds-at-none settings came sound stands;
      played = subst (λ (units : List PlayedUnit). Reported (map (play_report c.args.session) units) count c.args.reporter.now c.report_units.new.reporter)
          (c.play.ensures.units settings came sound stands) reported;
    }) c.report_units.ensures
