use Rattle.std.proofs.Common.{sym, ◌∙◌, arith}
use Rattle.gs_tape.specs.Generated.{generated}
use Rattle.gs_generated.proofs.Spelling.{keeps_limits, rest_one, few_spelled, at_hand}
use Rattle.gs_generated.proofs.unspelled.Unspelled.next_piece.Goals as goal

pub parts_of-requires-clause-audio : goal.parts_of-requires-clause-audio
parts_of-requires-clause-audio c =
    let u = c.generate.new.self in
    omega (arith, (keeps_limits u c.in-Some.tick _ c.generate.ensures.sound (at_hand u c.in-Some.tick c.in-Some.is)).audio)

pub parts_of-requires-clause-deltas : goal.parts_of-requires-clause-deltas
parts_of-requires-clause-deltas c =
    let u = c.generate.new.self in
    omega (arith, (keeps_limits u c.in-Some.tick _ c.generate.ensures.sound (at_hand u c.in-Some.tick c.in-Some.is)).deltas)

pub parts_of-requires-clause-idr : goal.parts_of-requires-clause-idr
parts_of-requires-clause-idr c =
    let u = c.generate.new.self in
    omega (arith, (keeps_limits u c.in-Some.tick _ c.generate.ensures.sound (at_hand u c.in-Some.tick c.in-Some.is)).idr)

pub parts_of-requires-clause-units : goal.parts_of-requires-clause-units
parts_of-requires-clause-units c =
    let u = c.generate.new.self in
    (keeps_limits u c.in-Some.tick _ c.generate.ensures.sound (at_hand u c.in-Some.tick c.in-Some.is)).units

pub overflow_add-self : goal.overflow_add-self
overflow_add-self c =
    let u = c.generate.new.self in
    omega (arith, few_spelled u c.in-Some.tick _ c.generate.ensures.sound (at_hand u c.in-Some.tick c.in-Some.is))

pub returns-clause-sound : goal.returns-clause-sound
returns-clause-sound c =
    let u = c.generate.new.self in
    let all = generated u.number u.ticks in
    let is = sym c.generate.ensures.sound.left ∙ at_hand u c.in-Some.tick c.in-Some.is in
    record {
      few = c.generate.ensures.sound.few;
      left = sym (rest_one all u.spelled c.in-Some.tick _ is);
    }
