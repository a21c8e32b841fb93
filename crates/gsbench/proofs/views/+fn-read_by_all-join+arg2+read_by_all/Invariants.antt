-- one viewer fewer each time
use Rattle.std.proofs.Common.{length}
use Rattle.gsbench.proofs.views.+fn-read_by_all-join+arg2+read_by_all.Given as goal

abbrev pub decreases-join+arg2 : goal.decreases-join+arg2
decreases-join+arg2 g l = length l.viewers.items

abbrev pub decreases-read_by_all : goal.decreases-read_by_all
decreases-read_by_all g l = length l.viewers.items
