use Rattle.std.proofs.Common.{◌≡◌, ◌++◌, None, length, replicate}
use Rattle.gs_enet.proofs.window.skip_empty.Given as goal

abbrev pub invariant-loop-window : goal.invariant-loop-window
invariant-loop-window l = l.initial.window.items ≡ replicate l.skipped None ++ l.window.items

abbrev pub decreases-loop-window : goal.decreases-loop-window
decreases-loop-window l = length l.window.items
