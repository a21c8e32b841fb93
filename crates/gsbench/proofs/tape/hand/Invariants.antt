use Rattle.std.proofs.Common.{◌≡◌, length}
use Rattle.std.specs.Arc.{arc_value}
use Rattle.std.specs.List.{All}
use Rattle.gsbench.proofs.tape.hand.Given as goal

abbrev pub invariant-holders : goal.invariant-holders
invariant-holders l = record {
  count : length l.held.items ≡ l.counter;
  same : All (λ one. arc_value one ≡ arc_value l.first) l.held.items;
}
