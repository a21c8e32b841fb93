use Rattle.std.proofs.Common.{rules}
use Rattle.gs_client_end.proofs.Texts.{units_counted}
use Rattle.gs_client_end.proofs.reports.report_units.Goals as goal

pub returns : goal.returns
returns c =
    units_counted c.args.session c.args.number c.args.units c.in_ok-one.one c.in_ok-two.field-0 c.in_ok-three.field-0
    c.in_ok-report_unit.field-0 c.args.reporter.now c.report_unit.new.reporter c.report_unit-2.new.reporter c.report_unit-3.new.reporter
    c.report_unit-4.new.reporter (search rules) c.in_ok-one.ensures.reported c.in_ok-two.ensures.reported c.in_ok-three.ensures.reported
    c.in_ok-report_unit.ensures.reported
