use Rattle.std.proofs.Common.{◌≡◌, ◌+◌, ◌-◌, ◌^◌, length, take}
use Rattle.std.specs.Prelude.{min}
use Rattle.std.specs.List.{flat_map}
use Rattle.gs_enet_wire.specs.Grammar.{command_spelling, fields_bytes, header}
use Rattle.gs_enet_wire.proofs.datagram.Datagram.written_length.Given as goal

-- the length of the header and of the commands so far
abbrev pub invariant-loop-command : goal.invariant-loop-command
invariant-loop-command l =
    l.length ≡ min (length (fields_bytes (header l.fn.self)) + length (flat_map command_spelling (take l.command-index l.command-items))) (2 ^ 64 - 1)
