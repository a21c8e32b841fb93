use Rattle.gs_enet_wire.specs.Writing.{PutsText}
use Rattle.gs_enet_wire.proofs.Writers.{spellings, put_whole}
use Rattle.gs_enet_wire.proofs.writing.write.Goals as goal

pub returns-clause-written : goal.returns-clause-written
returns-clause-written c =
    let put : PutsText
    (spellings c.args.datagram.now.commands) c.put_header-place.result c.put_commands.result c.put_header-place.new.out c.put_commands.new.out =
    rw (← c.as_slice.ensures) c.put_commands.ensures.put in
    put_whole c.put_header-place.ensures.puts put
