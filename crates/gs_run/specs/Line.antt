-- Which deeds a line of a schedule stands for.
use Rattle.std.specs.Prelude.{ℕ, ◌≡◌, ◌+◌, ◌-◌, ◌<◌, ◌≤◌, ◌^◌, false, List, [], ◌∷◌, length, map, Option, Some, None}
use Rattle.std.specs.Prelude.{Result, Ok, Err}
use Rattle.std.specs.List.{range_with_len}
use Rattle.gs_schedule.specs.declared.step.Step.{Step}
use Rattle.gs_schedule.specs.declared.step.Step.TheVariants as step
use Rattle.gs_schedule.specs.Step.{Spells}
use Rattle.gs_schedule.specs.Lines.{most_line}
use Rattle.gs_run.specs.CaptureFile.{CaptureFile}
use Rattle.gs_run.specs.Session.{RunSession, State, session_numbered}
use Rattle.gs_run.specs.Report.{Acted}
use Rattle.gs_run.specs.Scene.{Scene, scene_of}
use Rattle.gs_run.specs.Deed.{SessionDeed, Turn, TakeVideo, TakeAudio, TakeUp, TakeDown, Give, AskIdr, Close, Reset}
use Rattle.gs_run.specs.Deed.{Mark, Deed, Open, Capture, Pass, In}
use Rattle.gs_run.specs.Pump.{Pumping, ends_of, next_pumped, moved}
use Rattle.gs_run.specs.Refusal.{Refusal}
use Rattle.gs_run.specs.Done.{done}

-- ---- a line's step

-- a line with this number spells the step: it isn't too long, and the number isn't the last of 32 bits
pub record IsLineOf (number : ℕ) (line : List ℕ) (step : Step) : Type 0 where
  pub spells : Spells line step
  pub short : length line ≤ most_line
  pub numbered : number < 2 ^ 32 - 1

-- its step, or that it has none
abbrev pub HasStep : ℕ → List ℕ → Option Step → Type 0
HasStep number line (Some step) = IsLineOf number line step
HasStep number line None = (step : Step) → IsLineOf number line step → ⊥

-- ---- a pump

-- it begins at the marks
abbrev pub pumping_from : Option RunSession → Pumping
pumping_from None = record { at = record { video = 0; audio = 0; up = 0; down = 0 }; down_is_next = false }
pumping_from (Some session) = record { at = session.part.marks; down_is_next = false }

abbrev pub pump_deed_in : Scene → ℕ → Pumping → Option RunSession → SessionDeed
pump_deed_in scene every pumping None = Mark
pump_deed_in scene every pumping (Some session) = next_pumped every pumping (ends_of scene session.part)

-- the next deed of a pump that is so far
unfoldable pub pump_deed : CaptureFile → (session every : ℕ) → Pumping → State → SessionDeed
pump_deed file session every pumping state =
    pump_deed_in (scene_of file session state) every pumping (session_numbered state session)

-- behind a deed of a pump: nothing, where the marks moved or the deed was refused, and else the rest
abbrev pub GoesOn : SessionDeed → Result (Acted State) Refusal → List Deed → (State → Type 0) → Type 0
GoesOn Mark result deeds IsRest = deeds ≡ []
GoesOn deed (Err why) deeds IsRest = deeds ≡ []
GoesOn deed (Ok acted) deeds IsRest = IsRest acted.value

-- Each deed of a pump is found in the state that the one before it left.
abbrev pub ArePumpDeeds : CaptureFile → (session every : ℕ) → Pumping → State → List Deed → Type 0
ArePumpDeeds file session every pumping state [] = ⊥
ArePumpDeeds file session every pumping state (deed ∷ deeds) =
    (deed ≡ In session (pump_deed file session every pumping state))
    × GoesOn (pump_deed file session every pumping state) (done file deed state) deeds
    (λ behind. ArePumpDeeds file session every
    (moved (pump_deed file session every pumping state) pumping) behind deeds)

-- ---- all steps

-- one video datagram after the other
abbrev pub videos : (session first last : ℕ) → List Deed
videos session first last = map (λ k. In session (TakeVideo k)) (range_with_len first (last + 1 - first))

-- the deeds of a step, in this state
abbrev pub AreDeeds : CaptureFile → Step → State → List Deed → Type 0
AreDeeds file step.Blank state deeds = deeds ≡ []
AreDeeds file (step.Session packet percentage minimum window) state deeds =
    deeds ≡ Open packet percentage minimum window ∷ []
AreDeeds file step.Cap state deeds = deeds ≡ Capture ∷ []
AreDeeds file (step.Send session) state deeds = deeds ≡ In session Turn ∷ []
AreDeeds file (step.Video session k) state deeds = deeds ≡ In session (TakeVideo k) ∷ []
AreDeeds file (step.Audio session k) state deeds = deeds ≡ In session (TakeAudio k) ∷ []
AreDeeds file (step.Videos session first last) state deeds = deeds ≡ videos session first last
AreDeeds file (step.Up session k) state deeds = deeds ≡ In session (TakeUp k) ∷ []
AreDeeds file (step.Down session k) state deeds = deeds ≡ In session (TakeDown k) ∷ []
AreDeeds file (step.Input session event) state deeds = deeds ≡ In session (Give event) ∷ []
AreDeeds file (step.Idr session) state deeds = deeds ≡ In session AskIdr ∷ []
AreDeeds file (step.Time by) state deeds = deeds ≡ Pass by ∷ []
AreDeeds file (step.Pump session every) state deeds =
    ArePumpDeeds file session every (pumping_from (session_numbered state session)) state deeds
AreDeeds file (step.Close session) state deeds = deeds ≡ In session Close ∷ []
AreDeeds file (step.Reset session) state deeds = deeds ≡ In session Reset ∷ []
