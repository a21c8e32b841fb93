use Rattle.std.proofs.Common.{◌≡◌, ◌+◌, ◌*◌, ◌-◌, min, arith}
use Rattle.gs_rs.specs.GroupRows.{row_value}
use Rattle.gs_rs.proofs.RowWrites.{Written, no_rows, two_written, rows_apart}
use Rattle.gs_rs.proofs.encode.encode_two.Goals as goal

pub loop-block-init : goal.loop-block-init
loop-block-init c = no_rows 2 c.args.len _ _ _ c.args.parity.now (omega arith)

pub loop-block-preserved : goal.loop-block-preserved
loop-block-preserved c =
    let len = c.args.len in
    let row = c.args.row in
    let at = c.min-at.result in
    let sooner = min (c.loop-block.block * 32) len in
    let made = min ((c.loop-block.block + 1) * 32) len in
    let at_is : at ≡ min (c.loop-block.block * 32) (len - 32) = c.min-at.ensures in
    let value = row_value c.args.source.now len c.args.numbers.now c.args.tables.now 2 in
    let w0 : Written c.loop-block.parity c.write_block.new.bytes
    c.sum_two.result.0 (row * len + at) = record {
      written = c.write_block.ensures.written;
      before = c.write_block.ensures.before;
      after = c.write_block.ensures.after;
    } in
    let w1 : Written c.write_block.new.bytes c.write_block-in-loop-block.new.bytes
    c.sum_two.result.1 ((row + 1) * len + at) = record {
      written = c.write_block-in-loop-block.ensures.written;
      before = c.write_block-in-loop-block.ensures.before;
      after = c.write_block-in-loop-block.ensures.after;
    } in
    two_written len (λ r. (row + r) * len) value at sooner made _ _
    c.args.parity.now _ _ _ _ _ (rows_apart 2 len row)
    (omega (arith, c.requires.block)) (omega arith) (omega (arith, c.requires.block)) (omega (arith, c.requires.block))
    (omega arith) (omega arith)
    c.sum_two.ensures.first.sums c.sum_two.ensures.second.sums
    c.loop-block.invariant w0 w1
