use Rattle.gs_session.specs.Sessions.{HasPlace}
use Rattle.gs_session.proofs.tests.lose_frames.Given as goal

abbrev pub invariant-losses : goal.invariant-losses
invariant-losses g l = record { place : HasPlace l.fn.session 1 l.pass }
