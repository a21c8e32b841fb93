use Rattle.std.proofs.Common.{ℕ, List, length}
use Rattle.gs_store.specs.Standing.{IsStoreOf}
use Rattle.gs_host_end.proofs.Boxes.{Stores}
use Rattle.gs_host_end.proofs.outbox.Outbox.store.Given as goal

abbrev pub invariant-entries : goal.invariant-entries
invariant-entries l =
    (all : List (List ℕ)) → IsStoreOf l.fn.store all → Stores l.fn.self l.self-inside.entries.items l.fn.store l.store all

abbrev pub decreases-entries : goal.decreases-entries
decreases-entries l = length l.self-inside.entries.items
