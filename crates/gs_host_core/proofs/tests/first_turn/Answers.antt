use Rattle.gs_host_core.proofs.tests.first_turn.Goals as goal

pub turn-requires-clause-newest : goal.turn-requires-clause-newest
turn-requires-clause-newest c = c.requires.newest c.args.host.now.settings c.requires.audio
