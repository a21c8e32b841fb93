-- What a call of a session did, over a part that it stood for.
use Rattle.std.specs.Prelude.{ℕ, ◌≡◌, Bool, true, false, not, List}
use Rattle.gs_run.specs.Session.{Part}
use Rattle.gs_run.specs.Scene.{Scene}
use Rattle.gs_run.specs.Deed.{SessionDeed}
use Rattle.gs_run.specs.Refusal.{is_allowed}
use Rattle.gs_run.specs.Done.{done_in}
use Rattle.gs_report.specs.Reporting.{Reporting, Did, with_reports}
use Rattle.gs_loopback.specs.declared.session.Loopback.{Loopback}
use Rattle.gs_loopback.specs.Standing.{IsLoopbackOf}
use Rattle.gs_loopback.specs.Running.{RanIn, ran_in, ArePumped, pump_start}

-- Deeds were done, up to one that was refused. Their reports were added. Where none was refused the session stands for
-- what they left.
pub record RanScene (scene : Scene) (ran : RanIn) (done : Bool) (new : Loopback) (before now : Reporting) : Type 0 where
  pub done_is : done ≡ not ran.refused
  pub stands : done ≡ true → IsLoopbackOf new scene.session scene.ticks ran.part
  pub text : now ≡ with_reports before ran.reports

abbrev pub RanAll : Scene → List SessionDeed → Part → Bool → Loopback → Reporting → Reporting → Type 0
RanAll scene deeds part = RanScene scene (ran_in scene deeds part)

-- A deed was done, before anything is written out, exactly where it is allowed. Where it is not, nothing is reported.
abbrev pub Attempts : Scene → SessionDeed → Part → Bool → Loopback → Reporting → Reporting → Type 0
Attempts scene deed part true new before now =
    (is_allowed scene deed part ≡ true)
    × Did (IsLoopbackOf new scene.session scene.ticks) (done_in scene deed part) before now
Attempts scene deed part false new before now = (is_allowed scene deed part ≡ false) × (now ≡ before)

-- the deeds of a pump were done
pub record Pumped (scene : Scene) (every : ℕ) (part : Part) (done : Bool) (new : Loopback) (before now : Reporting)
    : Type 0 where
  pub deeds : List SessionDeed
  pub are_pumped : ArePumped scene every (pump_start part) part deeds
  pub ran : RanAll scene deeds part done new before now
