use Rattle.std.proofs.Common.{◌≡◌}
use Rattle.gs_tape.specs.Generated.{pattern}
use Rattle.gs_tape.proofs.draws.period_from.Given as goal

abbrev pub invariant-bytes : goal.invariant-bytes
invariant-bytes l = l.bytes.items ≡ pattern l.i l.base
