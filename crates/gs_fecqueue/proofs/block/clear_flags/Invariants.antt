use Rattle.std.proofs.Common.{◌≡◌, ◌<◌, ℕ, false, get_or}
use Rattle.gs_fecqueue.proofs.block.clear_flags.Given as goal

-- those before this one are taken back
abbrev pub invariant-loop-i : goal.invariant-loop-i
invariant-loop-i l = (k : ℕ) → k < l.i → get_or l.flags k false ≡ false
