use Rattle.std.proofs.Common.{◌≡◌, ◌+◌, ◌∙◌, Bool, true, false, None, Ok, refl, subst, ap}
use Rattle.gs_feed.specs.Feeding.{Captures, count_behind}
use Rattle.gs_tape.specs.Tape.{Opened}
use Rattle.gs_trial.specs.declared.error.StepError.TheVariants as step_error
use Rattle.gs_trial.proofs.Captures.{at_end, captured, fails_as}
use Rattle.gs_trial.proofs.Taking.{takes_failed, takes_tick}
use Rattle.gs_trial.proofs.trial.Trial.capture.Goals as goal

pub returns-in_err-capture-clause-ran : goal.returns-in_err-capture-clause-ran
returns-in_err-capture-clause-ran g c = λ file state stands.
    fails_as c.args.self.now _ file _ _ state c.in_err-capture.field-0.0 c.from_residual.result c.from_residual.ensures.1 stands
    (c.in_err-capture.ensures.captures file.ticks file.fault stands.feed.stands) refl

pub returns-then-not-branch-clause-ran : goal.returns-then-not-branch-clause-ran
returns-then-not-branch-clause-ran g c = λ file state stands.
    let old = c.args.self.now in
    let none : c.in_ok-capture.field-0 ≡ false = c.if-not-branch.true in
    let ended = subst (λ (b : Bool). Captures old.feed.count file.ticks file.fault (Ok b)) none
    (c.in_ok-capture.ensures.captures file.ticks file.fault stands.feed.stands) in
    at_end old old file _ (g.S.Outside.left c.capture.new.source) state step_error.BadLine None stands ended.0 ended.1 refl refl

pub returns-clause-ran : goal.returns-clause-ran
returns-clause-ran g c = λ file state stands.
    let old = c.args.self.now in
    let is = c.in_ok-capture.ensures in
    let some : c.in_ok-capture.field-0 ≡ true = c.if-not-branch.false in
    let less = subst (λ (b : Bool). Captures old.feed.count file.ticks file.fault (Ok b)) some (is.captures file.ticks file.fault stands.feed.stands) in
    let reads = is.stands file.ticks file.fault stands.feed.stands in
    let forget = c.forget.ensures in
    let count : c.forget.new.self.count ≡ old.feed.count + 1 =
    forget.count ∙ is.count ∙ ap (λ (b : Bool). count_behind old.feed.count (Ok b)) some in
    captured old _ file _ _ state stands less (forget.stands _ file.ticks file.fault reads) count
    (ap (λ (t : Opened). t.audio) forget.tape.0 ∙ is.head.0) (ap (λ (t : Opened). t.duration) forget.tape.0 ∙ is.head.1) refl refl refl

pub returns-in_err-capture-clause-bytes : goal.returns-in_err-capture-clause-bytes
returns-in_err-capture-clause-bytes g c = λ bytes had.
    takes_failed bytes c.args.self.now.feed.count c.capture.new.self.tape c.capture.new.self _ c.in_err-capture.field-0.0 c.from_residual.result
    c.from_residual.ensures.1 (c.in_err-capture.ensures.bytes bytes c.requires.ready.stage had)

pub returns-then-not-branch-clause-bytes : goal.returns-then-not-branch-clause-bytes
returns-then-not-branch-clause-bytes g c = λ bytes had. tt

pub returns-clause-bytes : goal.returns-clause-bytes
returns-clause-bytes g c = λ bytes had.
    let old = c.args.self.now in
    let is = c.in_ok-capture.ensures in
    let some : c.in_ok-capture.field-0 ≡ true = c.if-not-branch.false in
    let forget = c.forget.ensures in
    let count : c.forget.new.self.count ≡ old.feed.count + 1 =
    forget.count ∙ is.count ∙ ap (λ (b : Bool). count_behind old.feed.count (Ok b)) some in
    takes_tick bytes old.feed.count c.capture.new.self.tape c.forget.new.self _ c.in_ok-capture.field-0 some
    (is.bytes bytes c.requires.ready.stage had) forget.tape.0 count
