use Rattle.std.proofs.Common.{◌≡◌}
use Rattle.gs_run.specs.Session.{Part}
use Rattle.gs_run.specs.Scene.{Scene}
use Rattle.gs_host_end.specs.Outcomes.{SentNothing}
use Rattle.gs_loopback.specs.Standing.{IsLoopbackOf}
use Rattle.gs_loopback.specs.Running.{run_pumping}
use Rattle.gs_loopback.proofs.Pumps.{PumpSoFar}
use Rattle.gs_loopback.proofs.session.Loopback.pump.Given as goal

-- what was pumped so far, and no frame was sent
abbrev pub invariant-deliveries : goal.invariant-deliveries
invariant-deliveries l =
    record {
      far : (scene : Scene) (part : Part) → scene.moment ≡ l.fn.now → IsLoopbackOf l.fn.self scene.session scene.ticks part
          → PumpSoFar scene l.fn.every part (run_pumping l.pumping) l.fn.reporter l.self l.reporter;
      sent : SentNothing l.fn.self.host l.self.host;
    }
