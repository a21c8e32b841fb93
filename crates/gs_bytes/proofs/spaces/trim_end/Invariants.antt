use Rattle.std.proofs.Common.{◌≡◌, length}
use Rattle.gs_bytes.specs.Words.{without_last_spaces}
use Rattle.gs_bytes.proofs.spaces.trim_end.Given as goal

abbrev pub invariant-loop-rest : goal.invariant-loop-rest
invariant-loop-rest l = without_last_spaces l.rest ≡ without_last_spaces l.bytes

abbrev pub decreases-loop-rest : goal.decreases-loop-rest
decreases-loop-rest l = length l.rest
