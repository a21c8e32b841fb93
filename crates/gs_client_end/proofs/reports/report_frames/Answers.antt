use Rattle.std.proofs.Common.{rules}
use Rattle.gs_client_end.proofs.Texts.{frames_counted}
use Rattle.gs_client_end.proofs.reports.report_frames.Goals as goal

pub returns : goal.returns
returns c =
    frames_counted c.args.session c.args.frames c.in_ok-one.one c.in_ok-two.field-0 c.in_ok-three.field-0 c.in_ok-report_frame.field-0 c.args.reporter.now
    c.report_frame.new.reporter c.report_frame-2.new.reporter c.report_frame-3.new.reporter c.report_frame-4.new.reporter (search rules)
    c.in_ok-one.ensures.reported c.in_ok-two.ensures.reported c.in_ok-three.ensures.reported c.in_ok-report_frame.ensures.reported
