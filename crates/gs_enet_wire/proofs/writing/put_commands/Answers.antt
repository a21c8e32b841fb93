use Rattle.std.proofs.Common.{◌≡◌, true, ◌+◌, [], ◌∷◌, ◌++◌, take, arith, sym, ap, ◌∙◌}
use Rattle.std.proofs.lemmas.List.{take_more}
use Rattle.gs_enet_wire.specs.declared.command.Command.{Command}
use Rattle.gs_enet_wire.specs.Grammar.{command_spelling}
use Rattle.gs_enet_wire.proofs.HeaderReaders.{commands_push}
use Rattle.gs_enet_wire.proofs.Writers.{puts_then, spellings, spelling_is, room_at, payload_short, spellings_more}
use Rattle.gs_enet_wire.proofs.writing.put_commands.Goals as goal

pub put_command-end-requires-clause-short : goal.put_command-end-requires-clause-short
put_command-end-requires-clause-short c =
    let item = c.command-item.result in
    let room = room_at c.args.commands.now c.loop-command.command-index item c.loop-command-test.true c.command-item.is in
    omega (arith, payload_short item, room)

pub put_command-end-requires-clause-room : goal.put_command-end-requires-clause-room
put_command-end-requires-clause-room c =
    let room = room_at c.args.commands.now c.loop-command.command-index c.command-item.result c.loop-command-test.true c.command-item.is in
    omega (arith, room, c.loop-command.invariant.so_far.ends)

pub loop-command-preserved : goal.loop-command-preserved
loop-command-preserved c =
    let cs = c.args.commands.now in
    let i = c.loop-command.command-index in
    let item = c.command-item.result in
    let more = spellings_more cs i item c.loop-command-test.true c.command-item.is in
    let front : take (i + 1) cs ≡ take i cs ++ item ∷ [] =
    take_more cs i item c.loop-command-test.true ∙ ap (λ (x : Command). take i cs ++ x ∷ []) (sym c.command-item.is) in
    record {
      so_far = rw more (puts_then c.loop-command.invariant.so_far c.put_command-end.ensures.put);
      are = rw (more, front) (commands_push true (spellings (take i cs)) (command_spelling item) (take i cs) item c.loop-command.invariant.are
          (spelling_is item c.put_command-end.ensures.fit));
    }
