-- one pass fewer each time
use Rattle.std.proofs.Common.{length}
use Rattle.gsbench.proofs.turns.+call_by_all+fn-call_by_all-join+arg2.Given as goal

abbrev pub decreases-call_by_all : goal.decreases-call_by_all
decreases-call_by_all g l = length l.passes.items

abbrev pub decreases-join+arg2 : goal.decreases-join+arg2
decreases-join+arg2 g l = length l.passes.items
