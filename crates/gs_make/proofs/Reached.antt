-- States that deeds led to, none of which was refused.
use Rattle.std.proofs.Common.{◌≡◌, ℕ, zero, suc, List, [], ◌∷◌, ◌++◌, Option, Some, None, Result, Ok, Err, true, refl, ap, subst, ◌∙◌}
use Rattle.std.specs.Prelude.{slice_get}
use Rattle.std.specs.List.{AllByRecursion}
use Rattle.gs_run.specs.CaptureFile.{CaptureFile}
use Rattle.gs_run.specs.Session.{RunSession, State, start, session_numbered, with_session}
use Rattle.gs_run.specs.Report.{Acted}
use Rattle.gs_run.specs.Scene.{Scene, scene_of}
use Rattle.gs_run.specs.Deed.{SessionDeed, Deed, In}
use Rattle.gs_run.specs.Refusal.{Refusal, is_allowed, refused_unless, refusal_in, refusal}
use Rattle.gs_run.specs.Done.{settled_in, after_in, after, unless_refused, done, Ran, ran_on, ran}
use Rattle.gs_run.specs.Totals.{parts_of}
use Rattle.gs_run.specs.RunLaws.{IsCapture, IsPairedPart}
use Rattle.gs_run.proofs.Runs.{runs_are_paired}

-- ---- one deed

-- the deed isn't refused, and leaves that state
pub record Does (file : CaptureFile) (deed : Deed) (state next : State) : Type 0 where
  pub acted : Acted State
  pub done : done file deed state ≡ Ok acted
  pub value : acted.value ≡ next

pub record RanFirst (first rest : Ran) : Type 0 where
  pub refused : first.refused ≡ rest.refused
  pub state : first.state ≡ rest.state

-- it is done first
pub ran_first : (file : CaptureFile) (deed : Deed) (deeds : List Deed) (state next : State) → Does file deed state next
    → RanFirst (ran file (deed ∷ deeds) state) (ran file deeds next)
unfolding ran
ran_first file deed deeds state next k =
    let did : Result (Acted State) Refusal → Ran = λ r. ran_on r state (ran file deeds) in
    record {
      refused = ap (λ (r : Result (Acted State) Refusal). (did r).refused) k.done ∙ ap (λ (s : State). (ran file deeds s).refused) k.value;
      state = ap (λ (r : Result (Acted State) Refusal). (did r).state) k.done ∙ ap (λ (s : State). (ran file deeds s).state) k.value;
    }

pub ran_none : (file : CaptureFile) (state : State) → ((ran file [] state).refused ≡ None) × ((ran file [] state).state ≡ state)
unfolding ran
ran_none file state = (refl, refl)

-- ---- all deeds from the start

pub record IsReached (file : CaptureFile) (state : State) : Type 0 where
  pub deeds : List Deed
  pub none_refused : (ran file deeds start).refused ≡ None
  pub state_is : (ran file deeds start).state ≡ state

pushed : (file : CaptureFile) (ds : List Deed) (deed : Deed) (from state next : State) → (ran file ds from).refused ≡ None
    → (ran file ds from).state ≡ state → Does file deed state next
    → ((ran file (ds ++ deed ∷ []) from).refused ≡ None) × ((ran file (ds ++ deed ∷ []) from).state ≡ next)
unfolding ran
pushed file [] deed from state next none is k =
    let one = ran_first file deed [] from next
    (record { acted = k.acted; done = ap (λ (s : State). done file deed s) is ∙ k.done; value = k.value }) in
    (one.refused, one.state)
pushed file (d ∷ ds) deed from state next none is k = by (done file d from) none is (λ behind. pushed file ds deed behind state next) where
  by : (r : Result (Acted State) Refusal) → (ran_on r from (ran file ds)).refused ≡ None → (ran_on r from (ran file ds)).state ≡ state
      → ((behind : State) → (ran file ds behind).refused ≡ None → (ran file ds behind).state ≡ state → Does file deed state next
      → ((ran file (ds ++ deed ∷ []) behind).refused ≡ None) × ((ran file (ds ++ deed ∷ []) behind).state ≡ next))
      → ((ran_on r from (ran file (ds ++ deed ∷ []))).refused ≡ None) × ((ran_on r from (ran file (ds ++ deed ∷ []))).state ≡ next)
  by (Err why) none is more = absurd cc
  by (Ok acted) none is more = more acted.value none is k

pub reached_more : (file : CaptureFile) (deed : Deed) (state next : State) → IsReached file state → Does file deed state next → IsReached file next
reached_more file deed state next k does =
    let both = pushed file k.deeds deed start state next k.none_refused k.state_is does in
    record { deeds = k.deeds ++ deed ∷ []; none_refused = both.0; state_is = both.1 }

pub reached_start : (file : CaptureFile) → IsReached file start
unfolding ran
reached_start file = record { deeds = []; none_refused = refl; state_is = refl }

-- ---- a session in its place

-- a session of that number, in a state that is the same but for it
pub record IsPlace (number : ℕ) (put : RunSession → State) : Type 0 where
  pub there : (s : RunSession) → session_numbered (put s) number ≡ Some s
  pub replaced : (s t : RunSession) → with_session number t (put s) ≡ put t
  pub scene : (file : CaptureFile) (s t : RunSession) → scene_of file number (put t) ≡ scene_of file number (put s)

-- the session behind a deed
abbrev pub behind_in : CaptureFile → ℕ → (RunSession → State) → SessionDeed → RunSession → RunSession
behind_in file number put deed s = record s { part = (settled_in (scene_of file number (put s)) deed s.part).value }

-- a deed that is allowed is done
pub does_in : (file : CaptureFile) (number : ℕ) (put : RunSession → State) (deed : SessionDeed) (s : RunSession) → IsPlace number put
    → is_allowed (scene_of file number (put s)) deed s.part ≡ true → Does file (In number deed) (put s) (put (behind_in file number put deed s))
unfolding refusal after
does_in file number put deed s place allowed =
    let scene : Scene = scene_of file number (put s) in
    let none : refusal file (In number deed) (put s) ≡ None =
    ap (λ (o : Option RunSession). refusal_in scene deed o) (place.there s) ∙ ap refused_unless allowed in
    record {
      acted = after file (In number deed) (put s);
      done = ap (λ (o : Option Refusal). unless_refused o (after file (In number deed) (put s))) none;
      value = ap (λ (o : Option RunSession). (after_in scene deed o (put s)).value) (place.there s) ∙ place.replaced s (behind_in file number put deed s);
    }

at_slice : {X : Type 0} (P : X → Type 0) (xs : List X) (n : ℕ) (x : X) → AllByRecursion P xs → slice_get xs n ≡ Some x → P x
at_slice P [] n x all e = absurd cc
at_slice P (y ∷ ys) zero x all e = (let same : y ≡ x = cc in subst P same all.0)
at_slice P (y ∷ ys) (suc n) x all e = at_slice P ys n x all.1 e

at_number : (P : RunSession → Type 0) (state : State) (number : ℕ) (s : RunSession) → AllByRecursion P state.sessions → session_numbered state number ≡ Some s
    → P s
at_number P state zero s all e = absurd cc
at_number P state (suc n) s all e = at_slice P state.sessions n s all e

-- what every run keeps of it
pub reached_paired : (file : CaptureFile) (number : ℕ) (put : RunSession → State) (s : RunSession) → IsCapture file → IsPlace number put
    → IsReached file (put s) → IsPairedPart file.ticks s.part
reached_paired file number put s capture place k =
    let P : RunSession → Type 0 = λ session. AllByRecursion (IsPairedPart file.ticks) (parts_of session) in
    let all : AllByRecursion P (put s).sessions =
    subst (λ (state : State). AllByRecursion P state.sessions) k.state_is (runs_are_paired file k.deeds capture) in
    (at_number P (put s) number s all (place.there s)).0
