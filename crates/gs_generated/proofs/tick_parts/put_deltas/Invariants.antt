use Rattle.std.proofs.Common.{◌≡◌, ◌++◌, take}
use Rattle.std.specs.List.{concat, flat_map}
use Rattle.gs_tape.specs.Capture.{delta}
use Rattle.gs_generated.proofs.tick_parts.put_deltas.Given as goal

abbrev pub invariant-deltas : goal.invariant-deltas
invariant-deltas l = concat l.parts.items ≡ concat l.initial.parts.items ++ flat_map delta (take l.delta-index l.deltas)
