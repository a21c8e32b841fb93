use Rattle.std.proofs.Common.{◌≡◌, ◌+◌, ◌-◌, ◌/◌, ◌%◌, ◌<◌, get_or, bit_xor, sym, ap, ap₂, ◌∙◌, arith}
use Rattle.gs_gf256.proofs.sums.add_block.Goals as goal

pub returns-clause-sums : goal.returns-clause-sums
returns-clause-sums c = λ i from to.
    let j = i - c.args.at in
    let h : j < 32 = omega arith in
    let back : c.args.at + j ≡ i = omega arith in
    let table = c.args.table.now in
    let src = c.load-block.ensures.lanes j h ∙ ap (λ m. get_or c.args.src.now m 0) back in
    let dst = c.load.ensures.lanes j h ∙ ap (λ m. get_or c.args.dst.now m 0) back in
    let low = c.low_halves.ensures.lanes j h ∙ ap (λ x. x % 16) src in
    let high = c.high_halves.ensures.lanes j h ∙ ap (λ x. x / 16) src in
    sym (ap (λ m. get_or c.write_block.new.bytes m 0) back)
    ∙ c.write_block.ensures.written j h
    ∙ c.add_products-made.ensures.lanes j h
    ∙ ap₂ bit_xor dst (ap₂ bit_xor (ap (λ m. get_or table (0 + m) 0) low) (ap (λ m. get_or table (0 + 16 + m) 0) high))
