use Rattle.std.proofs.Common.{◌≡◌, ◌+◌, ◌-◌, ◌≤◌}
use Rattle.gs_run.specs.Session.{Part}
use Rattle.gs_run.specs.Scene.{Scene}
use Rattle.gs_host_end.specs.Outcomes.{SentNothing}
use Rattle.gs_loopback.specs.Standing.{IsLoopbackOf}
use Rattle.gs_loopback.proofs.Videos.{VideosSoFar}
use Rattle.gs_loopback.proofs.session.Loopback.deliver_videos.Given as goal

-- what was delivered so far, and no frame was sent
abbrev pub invariant-videos : goal.invariant-videos
invariant-videos l =
    record {
      begun : l.fn.first ≤ l.number;
      within : l.number - l.fn.first ≤ l.fn.last + 1 - l.fn.first;
      far : (scene : Scene) (part : Part) → scene.moment ≡ l.fn.now → IsLoopbackOf l.fn.self scene.session scene.ticks part
          → VideosSoFar scene l.fn.first l.number part l.fn.reporter l.self l.reporter;
      sent : SentNothing l.fn.self.host l.self.host;
    }
