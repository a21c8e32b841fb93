use Rattle.std.proofs.Common.{◌≡◌, ◌+◌, ◌*◌, ◌-◌, min, arith}
use Rattle.gs_rs.specs.GroupRows.{row_value}
use Rattle.gs_rs.proofs.RowWrites.{Written, no_rows, four_written, rows_apart}
use Rattle.gs_rs.proofs.encode.encode_four.Goals as goal

pub loop-block-init : goal.loop-block-init
loop-block-init c = no_rows 4 c.args.len _ _ _ c.args.parity.now (omega arith)

pub loop-block-preserved : goal.loop-block-preserved
loop-block-preserved c =
    let len = c.args.len in
    let row = c.args.row in
    let at = c.min-at.result in
    let sooner = min (c.loop-block.block * 32) len in
    let made = min ((c.loop-block.block + 1) * 32) len in
    let at_is : at ≡ min (c.loop-block.block * 32) (len - 32) = c.min-at.ensures in
    let value = row_value c.args.source.now len c.args.numbers.now c.args.tables.now 4 in
    let w0 : Written c.loop-block.parity c.write_block.new.bytes
    c.sum_four.result.0 (row * len + at) = record {
      written = c.write_block.ensures.written;
      before = c.write_block.ensures.before;
      after = c.write_block.ensures.after;
    } in
    let w1 : Written c.write_block.new.bytes c.write_block-in-loop-block.new.bytes
    c.sum_four.result.1 ((row + 1) * len + at) = record {
      written = c.write_block-in-loop-block.ensures.written;
      before = c.write_block-in-loop-block.ensures.before;
      after = c.write_block-in-loop-block.ensures.after;
    } in
    let w2 : Written c.write_block-in-loop-block.new.bytes c.write_block-in-loop-block-2.new.bytes
    c.sum_four.result.2 ((row + 2) * len + at) = record {
      written = c.write_block-in-loop-block-2.ensures.written;
      before = c.write_block-in-loop-block-2.ensures.before;
      after = c.write_block-in-loop-block-2.ensures.after;
    } in
    let w3 : Written c.write_block-in-loop-block-2.new.bytes c.write_block-in-loop-block-3.new.bytes
    c.sum_four.result.3 ((row + 3) * len + at) = record {
      written = c.write_block-in-loop-block-3.ensures.written;
      before = c.write_block-in-loop-block-3.ensures.before;
      after = c.write_block-in-loop-block-3.ensures.after;
    } in
    four_written len (λ r. (row + r) * len) value at sooner made _ _ _ _
    c.args.parity.now _ _ _ _ _ _ _ _ _ (rows_apart 4 len row)
    (omega (arith, c.requires.block)) (omega arith) (omega (arith, c.requires.block)) (omega (arith, c.requires.block))
    (omega arith) (omega arith) (omega arith) (omega arith)
    c.sum_four.ensures.first.sums c.sum_four.ensures.second.sums c.sum_four.ensures.third.sums c.sum_four.ensures.fourth.sums
    c.loop-block.invariant w0 w1 w2 w3
