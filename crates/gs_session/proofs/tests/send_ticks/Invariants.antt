use Rattle.gs_session.specs.Sessions.{HasPlace}
use Rattle.gs_session.proofs.tests.send_ticks.Given as goal

abbrev pub invariant-ticks : goal.invariant-ticks
invariant-ticks g l = record { place : HasPlace l.fn.session 0 l.pass }
