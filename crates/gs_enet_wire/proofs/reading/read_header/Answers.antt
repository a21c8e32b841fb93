use Rattle.std.proofs.Common.{◌≡◌, ◌/◌, ◌%◌, arith}
use Rattle.gs_bytes.specs.Field.{big_from}
use Rattle.gs_enet_wire.proofs.Faults.{fault_compressed, fault_time}
use Rattle.gs_enet_wire.proofs.HeaderReaders.{word_taken, compressed_bit, takes_header}
use Rattle.gs_enet_wire.proofs.reading.read_header.Goals as goal

pub returns-then-word-ne0-clause-fault : goal.returns-then-word-ne0-clause-fault
returns-then-word-ne0-clause-fault c = λ short.
    let word = word_taken c.in-Ok.word c.args.cursor.now c.u16.new.self c.in-Ok.ensures.taken in
    let bit = compressed_bit c.in-Ok.word in
    let one : big_from 0 2 c.args.cursor.now / 16384 % 2 ≡ 1 = rw word (omega (arith, c.if-word-ne0.true)) in
    fault_compressed c.args.cursor.now short one

pub returns-in_default-sent_time-clause-fault : goal.returns-in_default-sent_time-clause-fault
returns-in_default-sent_time-clause-fault c = λ short.
    let word = word_taken c.in-Ok.word c.args.cursor.now c.u16.new.self c.in-Ok.ensures.taken in
    let bit = compressed_bit c.in-Ok.word in
    let plain : big_from 0 2 c.args.cursor.now / 16384 % 2 ≡ 0 = rw word (omega (arith, c.if-word-ne0.false)) in
    let cut = c.in_default-sent_time.ensures.cut in
    fault_time c.args.cursor.now short (omega (arith, c.in-Ok.ensures.count)) (omega (arith, cut, c.in-Ok.ensures.count)) plain
    (rw word c.in_default-sent_time.ensures.timed)

pub returns-clause-taken : goal.returns-clause-taken
returns-clause-taken c =
    takes_header c.in-Ok.word c.in-Ok-sent_time.sent c.args.cursor.now c.u16.new.self c.sent_time.new.cursor c.in-Ok.ensures.taken c.if-word-ne0.false
    c.in-Ok-sent_time.ensures.taken
