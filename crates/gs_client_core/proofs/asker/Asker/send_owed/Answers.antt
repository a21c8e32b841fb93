use Rattle.std.proofs.Common.{◌≡◌, ◌+◌, suc, arith}
use Rattle.gs_client_core.proofs.Gone.{more-rest, more-gone, stopped, failed, owed-failed, finished}
use Rattle.gs_client_core.proofs.asker.Asker.send_owed.Goals as goal

pub returns-in_err-send_front : goal.returns-in_err-send_front
returns-in_err-send_front c = λ r stands.
    let so_far = c.owed.invariant in
    let front = c.in_err-send_front.ensures in
    let gone = so_far.1 r stands in
    owed-failed r c.args.self.now c.send_front.new.self c.from_residual.result c.send_front.new.peer c.from_residual.ensures.0
    (failed r c.args.self.now c.owed.self c.send_front.new.self c.owed.gone c.owed.peer c.send_front.new.peer c.in_err-send_front.field-0.0 so_far.0
    front.rest front.some gone (front.gone _ gone.stands))

pub returns-then-not-branch : goal.returns-then-not-branch
returns-then-not-branch c = λ r stands.
    let so_far = c.owed.invariant in
    let front = c.in_ok-send_front.ensures in
    let gone = so_far.1 r stands in
    stopped r c.args.self.now c.owed.self c.send_front.new.self c.owed.gone c.owed.peer c.send_front.new.peer c.in_ok-send_front.field-0
    c.if-not-branch.true so_far.0 front.rest gone (front.gone _ gone.stands)

pub owed-preserved : goal.owed-preserved
owed-preserved c =
    let so_far = c.owed.invariant in
    let front = c.in_ok-send_front.ensures in
    let more : c.owed.gone + 1 ≡ suc c.owed.gone = omega arith in (
      more-rest c.args.self.now c.owed.self c.send_front.new.self c.owed.gone (c.owed.gone + 1) c.in_ok-send_front.field-0 c.if-not-branch.false more
          so_far.0 front.rest,
      λ r stands.
          let gone = so_far.1 r stands in
          more-gone r c.args.self.now c.owed.self c.send_front.new.self c.owed.gone (c.owed.gone + 1) c.owed.peer c.send_front.new.peer
          c.in_ok-send_front.field-0 c.if-not-branch.false more so_far.0 front.fewer gone (front.gone _ gone.stands),
    )

pub returns : goal.returns
returns c = λ r stands.
    let so_far = c.owed.invariant in
    finished r c.args.self.now c.owed.self c.owed.gone c.count-all.result c.owed.peer c.count-all.ensures c.owed-test.false c.owed.auto.gone-end
    so_far.0 (so_far.1 r stands)
