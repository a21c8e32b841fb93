use Rattle.std.proofs.Common.{◌≡◌, ◌++◌, take}
use Rattle.std.specs.List.{concat}
use Rattle.gs_tape.proofs.layout.put_sounds.Given as goal

abbrev pub invariant-units : goal.invariant-units
invariant-units l = l.bytes.items ≡ l.initial.bytes.items ++ concat (take l.unit-index l.units)
