use Rattle.gs_sides.proofs.Standings.{send_known}
use Rattle.gs_sides.proofs.side.offer.Goals as goal

pub returns-clause-known : goal.returns-clause-known
returns-clause-known c =
    send_known _ _ c.args.channel c.args.bytes.now c.send.result c.requires.known c.send.ensures
