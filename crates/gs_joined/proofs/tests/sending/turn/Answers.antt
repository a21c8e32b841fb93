use Rattle.gs_joined.proofs.Lasts.{none_between}
use Rattle.gs_joined.proofs.tests.sending.turn.Goals as goal

pub turn-requires-clause-newest : goal.turn-requires-clause-newest
turn-requires-clause-newest c = c.requires.newest c.args.host.now.settings c.requires.silent

pub turn-requires-clause-numbers : goal.turn-requires-clause-numbers
turn-requires-clause-numbers c = none_between c.args.host.now.history c.args.newest.now.number c.requires.next
