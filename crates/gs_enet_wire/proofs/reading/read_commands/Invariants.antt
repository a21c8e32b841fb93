use Rattle.std.proofs.Common.{◌≡◌, length}
use Rattle.gs_enet_wire.specs.ReadingHeader.{TakesCommands}
use Rattle.gs_enet_wire.proofs.reading.read_commands.Given as goal

abbrev pub invariant-commands : goal.invariant-commands
invariant-commands l = record {
  so_far : TakesCommands l.timed l.commands.items l.initial.cursor l.cursor;
  length_kept : l.whole ≡ length l.initial.cursor;
}

abbrev pub decreases-commands : goal.decreases-commands
decreases-commands l = length l.cursor
