-- Which unit of a tick a frame carries.
use Rattle.std.specs.Prelude.{ℕ, List, Option, Some, ◌==◌, if◌then◌else◌}
use Rattle.std.specs.Option.{option_map}
use Rattle.std.specs.List.{find}
use Rattle.gs_tape.specs.Tick.{Tick}
use Rattle.gs_refs.specs.declared.sent.Sent.{Sent}

-- the IDR unit for kind 2, else the delta against the tick that is named, where the tick has it
abbrev pub sent_unit_of : Tick → Sent → Option (List ℕ)
sent_unit_of t sent =
    if sent.kind == 2 then Some t.idr
    else option_map (λ d. d.unit) (find (λ d. d.named == sent.named) t.deltas)
