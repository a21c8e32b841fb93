use Rattle.std.proofs.Common.{sym, ◌∙◌}
use Rattle.gs_client_end.proofs.Streams.{is_given, isnt_given}
use Rattle.gs_client_end.proofs.streaming.give_video.Goals as goal

pub returns : goal.returns
returns c = λ settings came sound stands.
    is_given c.args.session settings came sound c.args.datagram.now c.args.may_ask c.take.result.ask c.take.result.units c.in_ok-handed.handed
    c.take.follows.lender-at-none c.args.reporter.now c.report_ask.new.reporter c.report_frames.new.reporter (c.take.ensures.ask settings came sound stands)
    (c.take.ensures.units settings came sound stands) (sym c.is_refused.ensures ∙ c.if-is_refused.false)
    (c.take.follows.holds-at-none settings came sound stands) c.in_ok-report_ask.ensures c.in_ok-handed.ensures

pub returns-then-is_refused : goal.returns-then-is_refused
returns-then-is_refused c = λ settings came sound stands.
    isnt_given c.args.session settings came sound c.args.datagram.now c.args.may_ask c.take.result.ask c.args.client.now c.args.reporter.now
    (c.take.ensures.ask settings came sound stands) (sym c.is_refused.ensures ∙ c.if-is_refused.true)
