use Rattle.std.proofs.Common.{◌≡◌, ◌*◌}
use Rattle.gs_tape.specs.Generated.{pattern}
use Rattle.gs_tape.proofs.draws.pattern.Given as goal

abbrev pub invariant-periods : goal.invariant-periods
invariant-periods l = l.bytes.items ≡ pattern (l.counter * 251) l.base
