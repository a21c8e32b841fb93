-- The deeds of a session are deeds of the run.
use Rattle.std.proofs.Common.{◌≡◌, ◌+◌, ◌-◌, ◌<◌, ◌≤◌, ℕ, zero, suc, Bool, true, false, List, [], ◌∷◌, ◌++◌, map, Option, Some, None, Result, Ok, Err}
use Rattle.std.proofs.Common.{refl, sym, ap, subst, ◌∙◌, arith, append-nil}
use Rattle.std.specs.Prelude.{MatchBool}
use Rattle.std.proofs.Common.{cond}
use Rattle.std.proofs.lemmas.Simd.{map-map}
use Rattle.std.specs.List.{range_with_len}
use Rattle.gs_run.specs.CaptureFile.{CaptureFile}
use Rattle.gs_run.specs.Session.{Part, RunSession, State, session_numbered, with_session}
use Rattle.gs_run.specs.Report.{Report, Acted}
use Rattle.gs_run.specs.Scene.{Scene, scene_of}
use Rattle.gs_run.specs.Deed.{SessionDeed, Turn, TakeVideo, TakeAudio, TakeUp, TakeDown, Give, AskIdr, Close, Reset, Mark, Deed, In}
use Rattle.gs_run.specs.Pump.{Pumping, ends_of, next_pumped, moved}
use Rattle.gs_run.specs.Refusal.{Refusal, BadLine, is_allowed, refusal, refusal_in, refused_unless}
use Rattle.gs_run.specs.Done.{Ran, after, after_in, done, ran, ran_on, settled_in, then_ran, unless_refused}
use Rattle.gs_run.specs.Line.{ArePumpDeeds, GoesOn, pump_deed, pump_deed_in, videos}
use Rattle.gs_loopback.specs.Running.{RanIn, ran_in, then_ran_in, ArePumped, EndsPump, video_deeds}
use Rattle.gs_trial.proofs.Replacing.{numbered_got, numbered_twice, numbered_same}

-- the session with this part
abbrev pub with_part : Part → RunSession → RunSession
with_part part session = record session { part = part }

-- what a session's deeds left, of the whole run
abbrev pub ran_of : ℕ → State → RunSession → RanIn → Ran
ran_of number state session did = record {
  state = with_session number (with_part did.part session) state;
  reports = did.reports;
  refused = cond did.refused (Some BadLine) None;
}

-- ---- one deed

done_allowed : (file : CaptureFile) (number : ℕ) (deed : SessionDeed) (state : State) (s : RunSession) → session_numbered state number ≡ Some s
    → is_allowed (scene_of file number state) deed s.part ≡ true
    → done file (In number deed) state ≡ Ok (record {
      value = with_session number (with_part (settled_in (scene_of file number state) deed s.part).value s) state;
      reports = (settled_in (scene_of file number state) deed s.part).reports;
    })
unfolding refusal after
done_allowed file number deed state s is may =
    let scene = scene_of file number state in
    let did = settled_in scene deed s.part in
    let first : refusal_in scene deed (session_numbered state number) ≡ None =
    ap (refusal_in scene deed) is ∙ ap refused_unless may in
    let second : after_in scene deed (session_numbered state number) state ≡ record {
      value = with_session number (with_part did.value s) state;
      reports = did.reports ++ [];
    } =
    ap (λ (o : Option RunSession). after_in scene deed o state) is in
    let third : did.reports ++ [] ≡ did.reports = append-nil did.reports in
    ap (λ (o : Option Refusal). unless_refused o (after_in scene deed (session_numbered state number) state)) first
    ∙ ap (λ (a : Acted State). let r : Result (Acted State) Refusal = Ok a in r)
    (second ∙ ap (λ (l : List Report). record { value = with_session number (with_part did.value s) state; reports = l }) third)

done_refused : (file : CaptureFile) (number : ℕ) (deed : SessionDeed) (state : State) (s : RunSession) → session_numbered state number ≡ Some s
    → is_allowed (scene_of file number state) deed s.part ≡ false → done file (In number deed) state ≡ Err BadLine
unfolding refusal
done_refused file number deed state s is may =
    let scene = scene_of file number state in
    ap (λ (o : Option Refusal). unless_refused o (after file (In number deed) state))
    (ap (refusal_in scene deed) is ∙ ap refused_unless may)

-- where no session has the number
pub done_nowhere : (file : CaptureFile) (number : ℕ) (deed : SessionDeed) (state : State) → session_numbered state number ≡ None
    → done file (In number deed) state ≡ Err BadLine
unfolding refusal
done_nowhere file number deed state is =
    ap (λ (o : Option Refusal). unless_refused o (after file (In number deed) state))
    (ap (refusal_in (scene_of file number state) deed) is)

pub ran_nowhere : (file : CaptureFile) (number : ℕ) (deed : SessionDeed) (deeds : List Deed) (state : State) → session_numbered state number ≡ None
    → ran file (In number deed ∷ deeds) state ≡ record { state = state; reports = []; refused = Some BadLine }
unfolding ran
ran_nowhere file number deed deeds state is =
    ap (λ (r : Result (Acted State) Refusal). ran_on r state (ran file deeds)) (done_nowhere file number deed state is)

-- ---- one after the other

pub ran_in_session : (file : CaptureFile) (number : ℕ) (deeds : List SessionDeed) (state : State) (s : RunSession) → session_numbered state number ≡ Some s
    → ran file (map (In number) deeds) state ≡ ran_of number state s (ran_in (scene_of file number state) deeds s.part)
unfolding ran ran_in
ran_in_session file number [] state s is =
    ap (λ (t : State). record { state = t; reports = []; refused = None }) (sym (numbered_same state number s is))
ran_in_session file number (deed ∷ deeds) state s is =
    let d = settled_in (scene_of file number state) deed s.part in
    let next = with_session number (with_part d.value s) state in
    by (is_allowed (scene_of file number state) deed s.part) refl
    (ran_in_session file number deeds next (with_part d.value s) (numbered_got state number s (with_part d.value s) is))
  where
    by : (may : Bool) → is_allowed (scene_of file number state) deed s.part ≡ may
        → ran file (map (In number) deeds) (with_session number (with_part (settled_in (scene_of file number state) deed s.part).value s) state)
        ≡ ran_of number (with_session number (with_part (settled_in (scene_of file number state) deed s.part).value s) state)
        (with_part (settled_in (scene_of file number state) deed s.part).value s)
        (ran_in (scene_of file number state) deeds (settled_in (scene_of file number state) deed s.part).value)
        → ran_on (done file (In number deed) state) state (ran file (map (In number) deeds))
        ≡ ran_of number state s (ran_in (scene_of file number state) (deed ∷ deeds) s.part)
    by false e more =
        let scene = scene_of file number state in
        let d = settled_in scene deed s.part in
        let start : RanIn = record { part = s.part; reports = []; refused = true } in
        ap (λ (r : Result (Acted State) Refusal). ran_on r state (ran file (map (In number) deeds))) (done_refused file number deed state s is e)
        ∙ ap (λ (t : State). record { state = t; reports = []; refused = Some BadLine }) (sym (numbered_same state number s is))
        ∙ ap (λ (b : Bool). ran_of number state s (cond b (then_ran_in d (ran_in scene deeds d.value)) start)) (sym e)
    by true e more =
        let scene = scene_of file number state in
        let d = settled_in scene deed s.part in
        let start : RanIn = record { part = s.part; reports = []; refused = true } in
        let next = with_session number (with_part d.value s) state in
        let rest = ran_in scene deeds d.value in
        let once : with_session number (with_part rest.part s) next ≡ with_session number (with_part rest.part s) state =
        numbered_twice state number (with_part d.value s) (with_part rest.part s) in
        let acted : Acted State = record { value = next; reports = d.reports } in
        ap (λ (r : Result (Acted State) Refusal). ran_on r state (ran file (map (In number) deeds))) (done_allowed file number deed state s is e)
        ∙ ap (then_ran acted) more
        ∙ ap (λ (t : State). record { state = t; reports = d.reports ++ rest.reports; refused = cond rest.refused (Some BadLine) None }) once
        ∙ ap (λ (b : Bool). ran_of number state s (cond b (then_ran_in d rest) start)) (sym e)

pub videos_are : (number first last : ℕ) → map (In number) (video_deeds first last) ≡ videos number first last
videos_are number first last = map-map (In number) (λ k. TakeVideo k) (range_with_len first (last + 1 - first))

-- ---- a pump

-- what a pump's deed goes on with, by what it came to
goes : (deed : SessionDeed) (scene : Scene) (every : ℕ) (pumping : Pumping) (part : Part) (ds : List SessionDeed) (IsRest : Pumping → Part → Type 0)
    (r : Result (Acted State) Refusal) (es : List Deed) (R : State → Type 0) → EndsPump scene every pumping part deed ds IsRest
    → (is_allowed scene deed part ≡ true → IsRest (moved deed pumping) (settled_in scene deed part).value
    → (acted : Acted State) × (r ≡ Ok acted) × R acted.value)
    → (is_allowed scene deed part ≡ false → r ≡ Err BadLine) → (ds ≡ [] → es ≡ []) → GoesOn deed r es R
goes deed scene every pumping part ds IsRest r es R ends may not none = cases deed ends may not
  where
    Ok_on : (b : Bool) (IsR : Type 0) → MatchBool b IsR (ds ≡ []) → (b ≡ true → IsR → (acted : Acted State) × (r ≡ Ok acted) × R acted.value)
        → (b ≡ false → r ≡ Err BadLine) → (G : Result (Acted State) Refusal → Type 0) → ((acted : Acted State) → R acted.value → G (Ok acted))
        → ((why : Refusal) → es ≡ [] → G (Err why)) → G r
    Ok_on true IsR ends may not G ok err = let m = may refl ends in subst G (sym m.1) (ok m.0 m.2)
    Ok_on false IsR ends may not G ok err = subst G (sym (not refl)) (err BadLine (none ends))

    cases : (deed : SessionDeed) → EndsPump scene every pumping part deed ds IsRest
        → (is_allowed scene deed part ≡ true → IsRest (moved deed pumping) (settled_in scene deed part).value
        → (acted : Acted State) × (r ≡ Ok acted) × R acted.value)
        → (is_allowed scene deed part ≡ false → r ≡ Err BadLine) → GoesOn deed r es R
    cases Mark ends may not = none ends
    cases Turn ends may not = Ok_on _ _ ends may not (λ q. GoesOn Turn q es R) (λ a x. x) (λ w x. x)
    cases (TakeVideo k) ends may not = Ok_on _ _ ends may not (λ q. GoesOn (TakeVideo k) q es R) (λ a x. x) (λ w x. x)
    cases (TakeAudio k) ends may not = Ok_on _ _ ends may not (λ q. GoesOn (TakeAudio k) q es R) (λ a x. x) (λ w x. x)
    cases (TakeUp k) ends may not = Ok_on _ _ ends may not (λ q. GoesOn (TakeUp k) q es R) (λ a x. x) (λ w x. x)
    cases (TakeDown k) ends may not = Ok_on _ _ ends may not (λ q. GoesOn (TakeDown k) q es R) (λ a x. x) (λ w x. x)
    cases (Give event) ends may not = Ok_on _ _ ends may not (λ q. GoesOn (Give event) q es R) (λ a x. x) (λ w x. x)
    cases AskIdr ends may not = Ok_on _ _ ends may not (λ q. GoesOn AskIdr q es R) (λ a x. x) (λ w x. x)
    cases Close ends may not = Ok_on _ _ ends may not (λ q. GoesOn Close q es R) (λ a x. x) (λ w x. x)
    cases Reset ends may not = Ok_on _ _ ends may not (λ q. GoesOn Reset q es R) (λ a x. x) (λ w x. x)

pump_deed_is : (file : CaptureFile) (number every : ℕ) (pumping : Pumping) (state : State) (s : RunSession) → session_numbered state number ≡ Some s
    → pump_deed file number every pumping state ≡ next_pumped every pumping (ends_of (scene_of file number state) s.part)
unfolding pump_deed
pump_deed_is file number every pumping state s is = ap (pump_deed_in (scene_of file number state) every pumping) is

pub pumped_deeds : (file : CaptureFile) (number every : ℕ) (pumping : Pumping) (deeds : List SessionDeed) (state : State) (s : RunSession)
    → session_numbered state number ≡ Some s → ArePumped (scene_of file number state) every pumping s.part deeds
    → ArePumpDeeds file number every pumping state (map (In number) deeds)
pumped_deeds file number every pumping [] state s is are = are
pumped_deeds file number every pumping (deed ∷ deeds) state s is are =
    let scene = scene_of file number state in
    let named : deed ≡ pump_deed file number every pumping state = are.0 ∙ sym (pump_deed_is file number every pumping state s is) in
    let d = settled_in scene deed s.part in
    let acted : Acted State = record { value = with_session number (with_part d.value s) state; reports = d.reports } in
    let R : SessionDeed → State → Type 0 = λ x behind. ArePumpDeeds file number every (moved x pumping) behind (map (In number) deeds) in
    let on : GoesOn deed (done file (In number deed) state) (map (In number) deeds) (R deed) =
    goes deed scene every pumping s.part deeds (λ p q. ArePumped scene every p q deeds) (done file (In number deed) state) (map (In number) deeds)
    (R deed) are.1
    (λ may rest. (
      acted,
      done_allowed file number deed state s is may,
      pumped_deeds file number every (moved deed pumping) deeds acted.value (with_part d.value s) (numbered_got state number s (with_part d.value s) is) rest,
    ))
    (λ not. done_refused file number deed state s is not)
    (λ none. ap (map (In number)) none) in
    (ap (In number) named, subst (λ (x : SessionDeed). GoesOn x (done file (In number deed) state) (map (In number) deeds) (R x)) named on)

-- the first of them, where there is one
pub videos_first : (number first last : ℕ) → first ≤ last → (rest : List Deed) × (videos number first last ≡ In number (TakeVideo first) ∷ rest)
videos_first number first last order = by (last + 1 - first) (omega arith)
  where
    by : (n : ℕ) → 0 < n → (rest : List Deed) × (map (λ k. In number (TakeVideo k)) (range_with_len first n) ≡ In number (TakeVideo first) ∷ rest)
    by zero some = absurd (omega (arith, some))
    by (suc n) some = (map (λ k. In number (TakeVideo k)) (range_with_len (first + 1) n), refl)
