use Rattle.std.proofs.Common.{◌≡◌, length}
use Rattle.gs_rtsp.specs.Fields.{without_zeros}
use Rattle.gs_rtsp.proofs.field.without_zeros.Given as goal

-- the zeros that were passed over don't count
abbrev pub invariant-loop-rest : goal.invariant-loop-rest
invariant-loop-rest l = without_zeros l.rest ≡ without_zeros l.digits

abbrev pub decreases-loop-rest : goal.decreases-loop-rest
decreases-loop-rest l = length l.rest
