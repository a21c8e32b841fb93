use Rattle.std.proofs.Common.{◌≡◌, ℕ, ◌+◌, ◌*◌, ◌/◌, ◌%◌, ◌<◌, get_or, ap, ◌∙◌, arith}
use Rattle.gs_gf256.proofs.RowSums.{no_row, more_row, whole_row}
use Rattle.gs_gf256.proofs.sums.sum_four.Goals as goal

pub loop-i-init : goal.loop-i-init
loop-i-init c = record {
  first = no_row _ c.args.len _ c.args.at _ 4 0;
  second = no_row _ c.args.len _ c.args.at _ 4 1;
  third = no_row _ c.args.len _ c.args.at _ 4 2;
  fourth = no_row _ c.args.len _ c.args.at _ 4 3;
}

pub loop-i-preserved : goal.loop-i-preserved
loop-i-preserved c =
    let i = c.loop-i.i in
    let shards = c.args.shards.now in
    let tables = c.args.tables.now in
    let byte : (j : ℕ) → j < 32 → get_or c.load-block.result j 0 ≡ get_or shards (get_or c.args.numbers.now i 0 * c.args.len + (c.args.at + j)) 0 = λ j h.
    c.load-block.ensures.lanes j h
    ∙ ap (λ m. get_or shards m 0) (ap (λ n. n * c.args.len + c.args.at + j) c.from.ensures ∙ omega arith) in
    let low = λ (j : ℕ) (h : j < 32). c.low_halves-low.ensures.lanes j h ∙ ap (λ x. x % 16) (byte j h) in
    let high = λ (j : ℕ) (h : j < 32). c.high_halves-high.ensures.lanes j h ∙ ap (λ x. x / 16) (byte j h) in
    record {
      first = more_row shards c.args.len c.args.numbers.now c.args.at tables 4 0 _ _ _ _ i _
          c.loop-i.invariant.first c.add_products-first.ensures.size (omega arith) low high c.add_products-first.ensures.lanes;
      second = more_row shards c.args.len c.args.numbers.now c.args.at tables 4 1 _ _ _ _ i _
          c.loop-i.invariant.second c.add_products-second.ensures.size (omega arith) low high c.add_products-second.ensures.lanes;
      third = more_row shards c.args.len c.args.numbers.now c.args.at tables 4 2 _ _ _ _ i _
          c.loop-i.invariant.third c.add_products-third.ensures.size (omega arith) low high c.add_products-third.ensures.lanes;
      fourth = more_row shards c.args.len c.args.numbers.now c.args.at tables 4 3 _ _ _ _ i _
          c.loop-i.invariant.fourth c.add_products-fourth.ensures.size (omega arith) low high c.add_products-fourth.ensures.lanes;
    }

pub returns-clause-first : goal.returns-clause-first
returns-clause-first c = whole_row _ c.args.len _ c.args.at _ 4 0 _ c.loop-i.i c.loop-i.invariant.first (omega arith)

pub returns-clause-second : goal.returns-clause-second
returns-clause-second c = whole_row _ c.args.len _ c.args.at _ 4 1 _ c.loop-i.i c.loop-i.invariant.second (omega arith)

pub returns-clause-third : goal.returns-clause-third
returns-clause-third c = whole_row _ c.args.len _ c.args.at _ 4 2 _ c.loop-i.i c.loop-i.invariant.third (omega arith)

pub returns-clause-fourth : goal.returns-clause-fourth
returns-clause-fourth c = whole_row _ c.args.len _ c.args.at _ 4 3 _ c.loop-i.i c.loop-i.invariant.fourth (omega arith)
