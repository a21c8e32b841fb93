use Rattle.std.proofs.Common.{true, take}
use Rattle.std.specs.List.{flat_map}
use Rattle.gs_enet_wire.specs.Grammar.{AreCommands, command_spelling}
use Rattle.gs_enet_wire.specs.Writing.{PutsText}
use Rattle.gs_enet_wire.proofs.writing.put_commands.Given as goal

abbrev pub invariant-loop-command : goal.invariant-loop-command
invariant-loop-command l = record {
  so_far : PutsText (flat_map command_spelling (take l.command-index l.commands)) l.place l.end l.initial.out l.out;
  are : AreCommands true (flat_map command_spelling (take l.command-index l.commands)) (take l.command-index l.commands);
}
