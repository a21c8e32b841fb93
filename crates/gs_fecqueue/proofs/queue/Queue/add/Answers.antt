use Rattle.std.proofs.Common.{◌≤◌, ◌<◌, ◌+◌, ap, subst, arith, ℕ}
use Rattle.gs_fecqueue.specs.declared.queue.Queue.{Queue}
use Rattle.gs_fecqueue.proofs.Adding.{gives-foreign, gives-old, gives-taken}
use Rattle.gs_fecqueue.proofs.queue.Queue.add.Goals as goal

pub returns-in-Err-clause-verdict : goal.returns-in-Err-clause-verdict
returns-in-Err-clause-verdict c = λ s came stands.
    (gives-foreign c.args.self.now s came c.args.datagram.now c.in-Err.why stands c.in-Err.ensures.is).what_is

pub returns-in-Err-clause-moved : goal.returns-in-Err-clause-moved
returns-in-Err-clause-moved c = λ s came stands.
    (gives-foreign c.args.self.now s came c.args.datagram.now c.in-Err.why stands c.in-Err.ensures.is).moved_is

pub returns-in-Err-clause-stands : goal.returns-in-Err-clause-stands
returns-in-Err-clause-stands c = λ s came stands.
    (gives-foreign c.args.self.now s came c.args.datagram.now c.in-Err.why stands c.in-Err.ensures.is).stands

pub returns-then-head-from-clause-verdict : goal.returns-then-head-from-clause-verdict
returns-then-head-from-clause-verdict c = λ s came stands.
    let q = c.args.self.now in
    (gives-old q s came c.args.datagram.now c.in-Ok.head stands c.in-Ok.ensures.is c.in-Ok.ensures.grammar
    (omega (arith, c.if-head-from.true, c.from.ensures))).what_is

pub returns-then-head-from-clause-moved : goal.returns-then-head-from-clause-moved
returns-then-head-from-clause-moved c = λ s came stands.
    let q = c.args.self.now in
    (gives-old q s came c.args.datagram.now c.in-Ok.head stands c.in-Ok.ensures.is c.in-Ok.ensures.grammar
    (omega (arith, c.if-head-from.true, c.from.ensures))).moved_is

pub returns-then-head-from-clause-stands : goal.returns-then-head-from-clause-stands
returns-then-head-from-clause-stands c = λ s came stands.
    let q = c.args.self.now in
    (gives-old q s came c.args.datagram.now c.in-Ok.head stands c.in-Ok.ensures.is c.in-Ok.ensures.grammar
    (omega (arith, c.if-head-from.true, c.from.ensures))).stands

pub returns-clause-verdict : goal.returns-clause-verdict
returns-clause-verdict c = λ s came stands.
    let q = c.args.self.now in
    let near : q.greatest < c.in-Ok.head.frame + q.window = omega (arith, c.if-head-from.false, c.from.ensures) in
    (gives-taken q c.take.new.self s came c.args.datagram.now c.in-Ok.head c.payload_size.result c.take.result.what c.take.result.moved stands
    c.in-Ok.ensures.is c.in-Ok.ensures.room near c.payload_size.ensures.is (c.take.ensures s)).what_is

pub returns-clause-moved : goal.returns-clause-moved
returns-clause-moved c = λ s came stands.
    let q = c.args.self.now in
    let near : q.greatest < c.in-Ok.head.frame + q.window = omega (arith, c.if-head-from.false, c.from.ensures) in
    (gives-taken q c.take.new.self s came c.args.datagram.now c.in-Ok.head c.payload_size.result c.take.result.what c.take.result.moved stands
    c.in-Ok.ensures.is c.in-Ok.ensures.room near c.payload_size.ensures.is (c.take.ensures s)).moved_is

pub returns-clause-stands : goal.returns-clause-stands
returns-clause-stands c = λ s came stands.
    let q = c.args.self.now in
    let near : q.greatest < c.in-Ok.head.frame + q.window = omega (arith, c.if-head-from.false, c.from.ensures) in
    (gives-taken q c.take.new.self s came c.args.datagram.now c.in-Ok.head c.payload_size.result c.take.result.what c.take.result.moved stands
    c.in-Ok.ensures.is c.in-Ok.ensures.room near c.payload_size.ensures.is (c.take.ensures s)).stands
