use Rattle.std.proofs.Common.{◌≡◌, ◌++◌, take}
use Rattle.std.specs.List.{concat}
use Rattle.gs_generated.proofs.tick_parts.put_sounds.Given as goal

abbrev pub invariant-units : goal.invariant-units
invariant-units l = concat l.parts.items ≡ concat l.initial.parts.items ++ concat (take l.unit-index l.units)
