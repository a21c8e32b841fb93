-- The deeds of one session, one after the other.
use Rattle.std.specs.Prelude.{ℕ, ◌≡◌, ◌+◌, ◌-◌, Bool, true, false, List, [], ◌∷◌, ◌++◌, map, Option, Some, None}
use Rattle.std.specs.Prelude.{if◌then◌else◌}
use Rattle.std.specs.Bool.{MatchBool}
use Rattle.std.specs.List.{range_with_len}
use Rattle.gs_run.specs.Session.{Part}
use Rattle.gs_run.specs.Scene.{Scene}
use Rattle.gs_run.specs.Report.{Report, Acted}
use Rattle.gs_run.specs.Deed.{SessionDeed, TakeVideo, TakeAudio, TakeUp, TakeDown, Mark}
use Rattle.gs_run.specs.Refusal.{is_allowed}
use Rattle.gs_run.specs.Done.{settled_in}
use Rattle.gs_run.specs.Pump.{Pumping, ends_of, next_pumped, moved}
use Rattle.gs_loopback.specs.declared.delivery.Delivery.{Delivery}
use Rattle.gs_loopback.specs.declared.delivery.Delivery.TheVariants as delivery
use Rattle.gs_loopback.specs.declared.pumping.Pumping as rust
use Rattle.gs_loopback.specs.Standing.{run_marks}

-- the deed of a run that a delivery is
abbrev pub run_delivery : Delivery → SessionDeed
run_delivery (delivery.Video k) = TakeVideo k
run_delivery (delivery.Audio k) = TakeAudio k
run_delivery (delivery.Up k) = TakeUp k
run_delivery (delivery.Down k) = TakeDown k

-- where nothing is left to be delivered, the marks move
abbrev pub pumped_deed : Option Delivery → SessionDeed
pumped_deed None = Mark
pumped_deed (Some delivery) = run_delivery delivery

-- the part behind the last deed that was done, all that was reported, and whether the next one was refused
pub record RanIn : Type 0 where
  pub part : Part
  pub reports : List Report
  pub refused : Bool

abbrev pub then_ran_in : Acted Part → RanIn → RanIn
then_ran_in did rest = record rest { reports = did.reports ++ rest.reports }

unfoldable pub ran_in : Scene → List SessionDeed → Part → RanIn
ran_in scene [] part = record { part = part; reports = []; refused = false }
ran_in scene (deed ∷ deeds) part =
    if is_allowed scene deed part
    then then_ran_in (settled_in scene deed part) (ran_in scene deeds (settled_in scene deed part).value)
    else record { part = part; reports = []; refused = true }

-- one video datagram after the other
abbrev pub video_deeds : (first last : ℕ) → List SessionDeed
video_deeds first last = map TakeVideo (range_with_len first (last + 1 - first))

-- These are the deeds of a pump: each is found in the part that the one before it left, and behind the last of them the
-- marks moved, or it was refused.
abbrev pub EndsPump : Scene → ℕ → Pumping → Part → SessionDeed → List SessionDeed → (Pumping → Part → Type 0) → Type 0
EndsPump scene every pumping part Mark deeds IsRest = deeds ≡ []
EndsPump scene every pumping part deed deeds IsRest =
    MatchBool (is_allowed scene deed part) (IsRest (moved deed pumping) (settled_in scene deed part).value) (deeds ≡ [])

abbrev pub ArePumped : Scene → ℕ → Pumping → Part → List SessionDeed → Type 0
ArePumped scene every pumping part [] = ⊥
ArePumped scene every pumping part (deed ∷ deeds) =
    (deed ≡ next_pumped every pumping (ends_of scene part))
    × EndsPump scene every pumping part deed deeds (λ pumping' part'. ArePumped scene every pumping' part' deeds)

-- it begins at the marks
abbrev pub pump_start : Part → Pumping
pump_start part = record { at = part.marks; down_is_next = false }

-- how far a pump is
abbrev pub run_pumping : rust.Pumping → Pumping
run_pumping pumping = record { at = run_marks pumping.at; down_is_next = pumping.down_is_next }
