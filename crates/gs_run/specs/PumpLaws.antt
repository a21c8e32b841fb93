-- Each delivery of a pump lessens a number, so that it ends.
use Rattle.std.specs.Prelude.{ℕ, ◌≢◌, ◌<◌, List}
use Rattle.gs_run.specs.CaptureFile.{CaptureFile}
use Rattle.gs_run.specs.Session.{Part, State}
use Rattle.gs_run.specs.Scene.{Scene}
use Rattle.gs_run.specs.Deed.{SessionDeed, Mark, Deed}
use Rattle.gs_run.specs.Pump.{Pumping, ends_of, next_pumped, moved}
use Rattle.gs_run.specs.Done.{settled_in}
use Rattle.gs_run.specs.Line.{ArePumpDeeds}
use Rattle.gs_run.specs.Deliveries.{most_deliveries}

-- behind a deed of a pump that is so far, fewer deliveries are left
abbrev pub LeavesFewer : Scene → Pumping → Part → SessionDeed → Type 0
LeavesFewer scene pumping part deed =
    most_deliveries scene (moved deed pumping) (settled_in scene deed part).value < most_deliveries scene pumping part

-- the next delivery of any pump over any session leaves fewer
abbrev pub PumpsAdvance : Type 0
PumpsAdvance =
    (scene : Scene) (every : ℕ) (pumping : Pumping) (part : Part)
    → next_pumped every pumping (ends_of scene part) ≢ Mark
    → LeavesFewer scene pumping part (next_pumped every pumping (ends_of scene part))

-- in any state a pump has its deeds: it ends
abbrev pub PumpsEnd : Type 0
PumpsEnd =
    (file : CaptureFile) (session every : ℕ) (pumping : Pumping) (state : State)
    → (deeds : List Deed) × ArePumpDeeds file session every pumping state deeds
