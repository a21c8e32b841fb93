use Rattle.std.proofs.Common.{◌≡◌, ℕ, ◌+◌, ◌*◌, ◌-◌, ◌≤◌, List, min, get_or, ap, arith}
use Rattle.gs_rs.specs.GroupRows.{row_value}
use Rattle.gs_rs.proofs.RowWrites.{Written, AreSums, no_rows, four_written}
use Rattle.gs_rs.proofs.TargetRows.{targets_apart, sums_before}
use Rattle.gs_rs.proofs.restore.restore_four.Goals as goal

pub loop-block-init : goal.loop-block-init
loop-block-init c = no_rows 4 c.args.len _ _ _ c.args.shards.now (omega arith)

pub loop-block-preserved : goal.loop-block-preserved
loop-block-preserved c =
    let len = c.args.len in
    let chosen = c.args.chosen.now in
    let targets = c.args.targets.now in
    let tables = c.args.tables.now in
    let old = c.args.shards.now in
    let now = c.loop-block.shards in
    let at = c.min-at.result in
    let sooner = min (c.loop-block.block * 32) len in
    let at_is : at ≡ min (c.loop-block.block * 32) (len - 32) = c.min-at.ensures in
    let within : at + 32 ≤ len = omega (arith, c.requires.block) in
    let place = λ (number : ℕ). number * len + at in
    let value = row_value old len chosen tables 4 in
    let sums : (r : ℕ) (block : List ℕ) → AreSums (row_value now len chosen tables 4) r at block → AreSums value r at block
    = λ r block given.
    sums_before 4 len chosen targets tables value sooner r at old now block
    c.requires.four c.requires.others within c.loop-block.invariant given in
    let w0 : Written now c.write_block.new.bytes
    c.sum_four.result.0 (c.from.result * len + at) = record {
      written = c.write_block.ensures.written;
      before = c.write_block.ensures.before;
      after = c.write_block.ensures.after;
    } in
    let w1 : Written c.write_block.new.bytes c.write_block-in-loop-block.new.bytes
    c.sum_four.result.1 (c.from-in-loop-block.result * len + at) = record {
      written = c.write_block-in-loop-block.ensures.written;
      before = c.write_block-in-loop-block.ensures.before;
      after = c.write_block-in-loop-block.ensures.after;
    } in
    let w2 : Written c.write_block-in-loop-block.new.bytes c.write_block-in-loop-block-2.new.bytes
    c.sum_four.result.2 (c.from-in-loop-block-2.result * len + at) = record {
      written = c.write_block-in-loop-block-2.ensures.written;
      before = c.write_block-in-loop-block-2.ensures.before;
      after = c.write_block-in-loop-block-2.ensures.after;
    } in
    let w3 : Written c.write_block-in-loop-block-2.new.bytes c.write_block-in-loop-block-3.new.bytes
    c.sum_four.result.3 (c.from-in-loop-block-3.result * len + at) = record {
      written = c.write_block-in-loop-block-3.ensures.written;
      before = c.write_block-in-loop-block-3.ensures.before;
      after = c.write_block-in-loop-block-3.ensures.after;
    } in
    four_written len (λ r. get_or targets r 0 * len) value at sooner (min ((c.loop-block.block + 1) * 32) len)
    _ _ _ _ old now _ _ _ _ _ _ _ _
    (targets_apart 4 len chosen targets c.requires.four c.requires.others)
    (omega (arith, c.requires.block)) (omega arith) within (omega (arith, c.requires.block))
    (ap place c.from.ensures) (ap place c.from-in-loop-block.ensures) (ap place c.from-in-loop-block-2.ensures) (ap place c.from-in-loop-block-3.ensures)
    (sums 0 _ c.sum_four.ensures.first.sums)
    (sums 1 _ c.sum_four.ensures.second.sums)
    (sums 2 _ c.sum_four.ensures.third.sums)
    (sums 3 _ c.sum_four.ensures.fourth.sums)
    c.loop-block.invariant w0 w1 w2 w3
