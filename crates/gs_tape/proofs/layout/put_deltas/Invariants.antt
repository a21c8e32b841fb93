use Rattle.std.proofs.Common.{◌≡◌, ◌++◌, take}
use Rattle.std.specs.List.{flat_map}
use Rattle.gs_tape.specs.Capture.{delta}
use Rattle.gs_tape.proofs.layout.put_deltas.Given as goal

abbrev pub invariant-deltas : goal.invariant-deltas
invariant-deltas l = l.bytes.items ≡ l.initial.bytes.items ++ flat_map delta (take l.delta-index l.deltas)
