use Rattle.std.proofs.Common.{rules, ℕ, sym, subst, arith}
use Rattle.gs_turn.specs.Cells.{IsNewPass, AreNewPasses}
use Rattle.gs_turn.proofs.Making.{one_more}
use Rattle.gs_turn.proofs.turn.Turn.others.Goals as goal

pub loop-made-preserved : goal.loop-made-preserved
loop-made-preserved g c =
    let inv = c.loop-made.invariant in
    let count = inv.count in
    let test = c.loop-made-test.true in
    let items = c.in_ok-push.ensures.items in
    let made = c.another.ensures.made in
    record {
      count = (search rules, search rules, search rules, search rules);
      first = c.another.ensures.first;
      others = subst (AreNewPasses c.args.self.now 1) (sym items)
          (one_more c.args.self.now 1 _ _ inv.others (subst (λ (n : ℕ). IsNewPass c.args.self.now n c.another.result) (omega arith) c.another.ensures.next));
    }
