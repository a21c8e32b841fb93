use Rattle.gs_sides.proofs.Storing.{keeps}
use Rattle.gs_sides.proofs.writing.keep.Goals as goal

pub returns-clause-known : goal.returns-clause-known
returns-clause-known c =
    keeps _ _ c.args.bytes c.put.result c.requires.known c.requires.written c.put.ensures.put c.put.ensures.refused
