-- A pump ends: in any state it has its deeds.
use Rattle.std.proofs.Common.{◌≡◌, ◌≢◌, ◌<◌, ◌-◌, ℕ, zero, suc, List, [], ◌∷◌, Option, Some, None, Result, Ok, Err, refl, sym, ap, subst, ◌∙◌, arith}
use Rattle.std.specs.Prelude.{slice_get}
use Rattle.gs_run.specs.CaptureFile.{CaptureFile}
use Rattle.gs_run.specs.Session.{RunSession, State, session_numbered, replaced, with_session}
use Rattle.gs_run.specs.Report.{Acted}
use Rattle.gs_run.specs.Scene.{Scene, scene_of}
use Rattle.gs_run.specs.Deed.{SessionDeed, Turn, TakeVideo, TakeAudio, TakeUp, TakeDown, Give, AskIdr, Close, Reset, Mark, Deed, In}
use Rattle.gs_run.specs.Pump.{Pumping, ends_of, next_pumped, moved}
use Rattle.gs_run.specs.Refusal.{Refusal, refusal}
use Rattle.gs_run.specs.Done.{settled_in, after_in, after, unless_refused, done}
use Rattle.gs_run.specs.Line.{pump_deed_in, pump_deed, GoesOn, ArePumpDeeds}
use Rattle.gs_run.specs.Deliveries.{most_deliveries}
use Rattle.gs_run.specs.PumpLaws.{PumpsEnd}
use Rattle.gs_run.proofs.StateLines.{here_replaced}
use Rattle.gs_run.proofs.PartDeliveries.{pumps_advance}

-- what is left to a pump of a session, if it is open
abbrev left_of : Scene → Pumping → Option RunSession → ℕ
left_of scene pumping None = 0
left_of scene pumping (Some session) = most_deliveries scene pumping session.part

numbered_again : (n : ℕ) (state : State) (old new : RunSession) → session_numbered state n ≡ Some old
    → session_numbered (with_session n new state) n ≡ Some new
numbered_again zero state old new e = absurd cc
numbered_again (suc k) state old new e =
    ap (λ (place : ℕ). slice_get (replaced state.sessions place new) k) (let same : suc k - 1 ≡ k = omega arith in same)
    ∙ here_replaced state.sessions k old new e

-- behind a delivery fewer are left
left_behind : (file : CaptureFile) (number every : ℕ) (pumping : Pumping) (state : State) (o : Option RunSession) → session_numbered state number ≡ o
    → pump_deed_in (scene_of file number state) every pumping o ≢ Mark
    → left_of (scene_of file number (after_in (scene_of file number state) (pump_deed_in (scene_of file number state) every pumping o) o state).value)
    (moved (pump_deed_in (scene_of file number state) every pumping o) pumping)
    (session_numbered (after_in (scene_of file number state) (pump_deed_in (scene_of file number state) every pumping o) o state).value number)
    < left_of (scene_of file number state) pumping o
left_behind file number every pumping state None there some = absurd (some refl)
left_behind file number every pumping state (Some session) there some =
    let scene : Scene = scene_of file number state in
    let deed : SessionDeed = next_pumped every pumping (ends_of scene session.part) in
    let new : RunSession = record session { part = (settled_in scene deed session.part).value } in
    subst (λ (o : Option RunSession). left_of scene (moved deed pumping) o < most_deliveries scene pumping session.part)
    (sym (numbered_again number state session new there)) (pumps_advance scene every pumping session.part some)

done_is : (o : Option Refusal) (x acted : Acted State) → unless_refused o x ≡ Ok acted → acted ≡ x
done_is None x acted e = cc
done_is (Some why) x acted e = absurd cc

left_done : (file : CaptureFile) (session every : ℕ) (pumping : Pumping) (state : State) (acted : Acted State)
    → pump_deed file session every pumping state ≢ Mark → done file (In session (pump_deed file session every pumping state)) state ≡ Ok acted
    → left_of (scene_of file session acted.value) (moved (pump_deed file session every pumping state) pumping) (session_numbered acted.value session)
    < left_of (scene_of file session state) pumping (session_numbered state session)
unfolding after pump_deed
left_done file session every pumping state acted some ok =
    let o : Option RunSession = session_numbered state session in
    let scene : Scene = scene_of file session state in
    let deed : SessionDeed = pump_deed_in scene every pumping o in
    subst (λ (x : Acted State). left_of (scene_of file session x.value) (moved deed pumping) (session_numbered x.value session) < left_of scene pumping o)
    (sym (done_is (refusal file (In session deed) state) (after_in scene deed o state) acted ok))
    (left_behind file session every pumping state o refl some)

-- the rest of a pump behind its next deed
goes_on : (R : State → List Deed → Type 0) (d : SessionDeed) (result : Result (Acted State) Refusal)
    → ((acted : Acted State) → d ≢ Mark → result ≡ Ok acted → (rest : List Deed) × R acted.value rest)
    → (rest : List Deed) × GoesOn d result rest (λ behind. R behind rest)
goes_on R Mark result more = ([], refl)
goes_on R Turn (Err why) more = ([], refl)
goes_on R Turn (Ok acted) more = more acted (λ e. absurd cc) refl
goes_on R (TakeVideo k) (Err why) more = ([], refl)
goes_on R (TakeVideo k) (Ok acted) more = more acted (λ e. absurd cc) refl
goes_on R (TakeAudio k) (Err why) more = ([], refl)
goes_on R (TakeAudio k) (Ok acted) more = more acted (λ e. absurd cc) refl
goes_on R (TakeUp k) (Err why) more = ([], refl)
goes_on R (TakeUp k) (Ok acted) more = more acted (λ e. absurd cc) refl
goes_on R (TakeDown k) (Err why) more = ([], refl)
goes_on R (TakeDown k) (Ok acted) more = more acted (λ e. absurd cc) refl
goes_on R (Give event) (Err why) more = ([], refl)
goes_on R (Give event) (Ok acted) more = more acted (λ e. absurd cc) refl
goes_on R AskIdr (Err why) more = ([], refl)
goes_on R AskIdr (Ok acted) more = more acted (λ e. absurd cc) refl
goes_on R Close (Err why) more = ([], refl)
goes_on R Close (Ok acted) more = more acted (λ e. absurd cc) refl
goes_on R Reset (Err why) more = ([], refl)
goes_on R Reset (Ok acted) more = more acted (λ e. absurd cc) refl

within : (n : ℕ) (file : CaptureFile) (session every : ℕ) (pumping : Pumping) (state : State)
    → left_of (scene_of file session state) pumping (session_numbered state session) < n
    → (deeds : List Deed) × ArePumpDeeds file session every pumping state deeds
within zero file session every pumping state below = absurd (omega (arith, below))
within (suc n) file session every pumping state below =
    let deed : SessionDeed = pump_deed file session every pumping state in
    let rest = goes_on (λ behind deeds. ArePumpDeeds file session every (moved deed pumping) behind deeds) deed (done file (In session deed) state)
    (λ acted some ok.
    within n file session every (moved deed pumping) acted.value
    (let fewer = left_done file session every pumping state acted some ok in omega (arith, below, fewer))) in
    (In session deed ∷ rest.0, (refl, rest.1))

pub pumps_end : PumpsEnd
pumps_end file session every pumping state =
    let left : ℕ = left_of (scene_of file session state) pumping (session_numbered state session) in
    within (suc left) file session every pumping state (omega arith)
