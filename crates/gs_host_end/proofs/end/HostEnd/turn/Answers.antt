use Rattle.std.specs.Prelude.{option_copied}
use Rattle.std.proofs.Common.{ap, map}
use Rattle.std.specs.Arc.{arc_value}
use Rattle.std.proofs.lemmas.Result.{on_ok_weaker}
use Rattle.gs_host_end.proofs.Turning.{sendable, all-sendable, of-capture, turns-none, turns-refused, turns-sent}
use Rattle.gs_host_end.proofs.end.HostEnd.turn.Goals as goal

pub returns-in_default-clause-turned : goal.returns-in_default-clause-turned
returns-in_default-clause-turned c = λ scene part is s.
    turns-none c.args.self.now scene part c.args.feed.now (option_copied c.newest.result) c.args.reporter.now (ap option_copied c.in_default.is)
    c.newest.ensures.of is s

pub send_newest-requires-clause-newest : goal.send_newest-requires-clause-newest
send_newest-requires-clause-newest c =
    sendable c.args.self.now.host.settings c.args.feed.now.tape.audio c.in-Some.newest.now.number c.in-Some.newest.now c.requires.keeps.audio
    c.in-Some.ensures.within

pub send_newest-requires-clause-between : goal.send_newest-requires-clause-between
send_newest-requires-clause-between c =
    all-sendable (λ t. t.value) c.args.self.now.host.settings c.args.feed.now.tape.audio c.ticks_between-between.result.now c.requires.keeps.audio
    c.ticks_between-between.ensures.within

pub returns-in_default-2-clause-turned : goal.returns-in_default-2-clause-turned
returns-in_default-2-clause-turned c = λ scene part is s.
    let feed = c.args.feed.now in
    let newest = c.in-Some.newest.now in
    let between = map arc_value c.ticks_between-between.result.now in
    let finds = c.in-Some.ensures.of in
    turns-refused c.send_newest.new.self scene part feed newest c.in_ok-sent.field-0 c.args.reporter.now c.in_default-2.is finds c.in-Some.ensures.number is
    (c.in_ok-sent.ensures.sent scene.session scene.ticks part
    (of-capture feed scene newest between is c.in-Some.ensures.number finds c.ticks_between-between.ensures.of) s)

pub returns-clause-turned : goal.returns-clause-turned
returns-clause-turned c =
    on_ok_weaker c.report_sent.result (λ reported scene part is s.
    let feed = c.args.feed.now in
    let newest = c.in-Some.newest.now in
    let between = map arc_value c.ticks_between-between.result.now in
    let finds = c.in-Some.ensures.of in
    turns-sent c.send_newest.new.self scene part feed newest c.in_ok-sent.field-0 c.in-Some-2.sent c.args.reporter.now c.report_sent.new.reporter c.in-Some-2.is
    finds c.in-Some.ensures.number reported is
    (c.in_ok-sent.ensures.sent scene.session scene.ticks part
    (of-capture feed scene newest between is c.in-Some.ensures.number finds c.ticks_between-between.ensures.of) s))
    c.report_sent.ensures
