-- Cited by private contracts alone: a command that is written if it fits into a datagram.
use Rattle.std.specs.Prelude.{ℕ, ◌≡◌, ◌≤◌, ◌<◌, ◌+◌, List, length, Option, Some, None}
use Rattle.gs_enet_wire.specs.declared.command.Command.{Command}
use Rattle.gs_enet_wire.specs.Grammar.{command_spelling, all_fields, Fit}
use Rattle.gs_enet_wire.specs.Writing.{PutsText}
use Rattle.gs_enet.specs.Record.{datagram_room}

abbrev pub PutsIfFits : Command → ℕ → Option ℕ → List ℕ → List ℕ → Type 0
PutsIfFits c place None before after = (datagram_room < place + length (command_spelling c)) × (after ≡ before)
PutsIfFits c place (Some end) before after =
    (end ≤ datagram_room) × PutsText (command_spelling c) place end before after
    × Fit (all_fields c)
