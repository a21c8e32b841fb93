-- The deeds of a step whose event is proper are proper; so are the steps of lines, and those that are generated.
use Rattle.std.proofs.Common.{◌≡◌, ◌⊎◌, ◌+◌, ◌%◌, ℕ, Bool, true, false, cond, List, [], ◌∷◌, ◌++◌, map, Option, Some, None, Result, Ok, Err, pos, sym, subst}
use Rattle.std.proofs.Common.{inl, inr, arith}
use Rattle.std.specs.Prelude.{◌==◌, unwrap_or}
use Rattle.std.specs.List.{AllByRecursion, flat_map, range_with_len}
use Rattle.std.specs.Option.{IfSome, option_map}
use Rattle.gs_input.specs.declared.event.Event.{Event}
use Rattle.gs_input.specs.declared.event.Event.TheVariants.{KeyDown, KeyUp}
use Rattle.gs_input.specs.Event.{IsEvent}
use Rattle.gs_schedule.specs.declared.step.Step.{Step}
use Rattle.gs_schedule.specs.declared.step.Step.TheVariants as step
use Rattle.gs_schedule.specs.Step.{Spells}
use Rattle.gs_run.specs.CaptureFile.{CaptureFile}
use Rattle.gs_run.specs.Session.{RunSession, State, session_numbered}
use Rattle.gs_run.specs.Report.{Acted}
use Rattle.gs_run.specs.Scene.{Scene, scene_of}
use Rattle.gs_run.specs.Deed.{SessionDeed, Turn, TakeVideo, TakeAudio, TakeUp, TakeDown, Give, AskIdr, Close, Reset, Mark, Deed, Open, Capture, Pass, In}
use Rattle.gs_run.specs.Pump.{Pumping, ends_of, next_kept, next_above, or_else, next_control, moved}
use Rattle.gs_run.specs.Refusal.{Refusal}
use Rattle.gs_run.specs.Done.{done}
use Rattle.gs_run.specs.Line.{HasStep, pumping_from, pump_deed_in, pump_deed, GoesOn, ArePumpDeeds, AreDeeds}
use Rattle.gs_run.specs.Run.{IsStep}
use Rattle.gs_run.specs.Generated.{key_event, tick_steps, generated_steps}
use Rattle.gs_run.specs.UserEvents.{IsProperDeed, IsProperStep}

-- ---- a pump

-- the deed is none of the user's
abbrev IsDelivery : SessionDeed → Type 0
IsDelivery d = (session : ℕ) → IsProperDeed (In session d)

one_of : (first second : Option SessionDeed) → IfSome first IsDelivery → IfSome second IsDelivery → IfSome (or_else first second) IsDelivery
one_of None second a b = b
one_of (Some d) second a b = a

mapped : (f : ℕ → SessionDeed) → ((k : ℕ) → IsDelivery (f k)) → (o : Option ℕ) → IfSome (option_map f o) IsDelivery
mapped f is None = tt
mapped f is (Some k) = is k

or_mark : (o : Option SessionDeed) → IfSome o IsDelivery → IsDelivery (unwrap_or o Mark)
or_mark None is = λ session. tt
or_mark (Some d) is = is

control_is : (pumping : Pumping) (up down : Option ℕ)
    → IfSome (cond pumping.down_is_next (or_else (option_map TakeDown down) (option_map TakeUp up))
    (or_else (option_map TakeUp up) (option_map TakeDown down))) IsDelivery
control_is pumping up down = by pumping.down_is_next where
  ups : IfSome (option_map TakeUp up) IsDelivery
  ups = mapped TakeUp (λ k session. tt) up

  downs : IfSome (option_map TakeDown down) IsDelivery
  downs = mapped TakeDown (λ k session. tt) down

  by : (b : Bool)
      → IfSome (cond b (or_else (option_map TakeDown down) (option_map TakeUp up)) (or_else (option_map TakeUp up) (option_map TakeDown down))) IsDelivery
  by true = one_of (option_map TakeDown down) (option_map TakeUp up) downs ups
  by false = one_of (option_map TakeUp up) (option_map TakeDown down) ups downs

pumped_is : (scene : Scene) (every : ℕ) (pumping : Pumping) (o : Option RunSession) → IsDelivery (pump_deed_in scene every pumping o)
pumped_is scene every pumping None = λ session. tt
pumped_is scene every pumping (Some session) =
    let ends = ends_of scene session.part in
    let video = option_map TakeVideo (next_kept every pumping.at.video ends.video) in
    let audio = option_map TakeAudio (next_kept every pumping.at.audio ends.audio) in
    or_mark (or_else video (or_else audio (next_control pumping ends)))
    (one_of video (or_else audio (next_control pumping ends)) (mapped TakeVideo (λ k session. tt) (next_kept every pumping.at.video ends.video))
    (one_of audio (next_control pumping ends) (mapped TakeAudio (λ k session. tt) (next_kept every pumping.at.audio ends.audio))
    (control_is pumping (next_above pumping.at.up ends.up) (next_above pumping.at.down ends.down))))

deed_is : (file : CaptureFile) (session every : ℕ) (pumping : Pumping) (state : State) → IsDelivery (pump_deed file session every pumping state)
unfolding pump_deed
deed_is file session every pumping state = pumped_is (scene_of file session state) every pumping (session_numbered state session)

-- behind a deed of a pump stands nothing, or the rest
goes_rest : (d : SessionDeed) (result : Result (Acted State) Refusal) (ds : List Deed) (R : State → Type 0) → GoesOn d result ds R
    → (ds ≡ []) ⊎ ((next : State) × R next)
goes_rest Mark result ds R a = inl a
goes_rest Turn (Err why) ds R a = inl a
goes_rest Turn (Ok acted) ds R a = inr (acted.value, a)
goes_rest (TakeVideo k) (Err why) ds R a = inl a
goes_rest (TakeVideo k) (Ok acted) ds R a = inr (acted.value, a)
goes_rest (TakeAudio k) (Err why) ds R a = inl a
goes_rest (TakeAudio k) (Ok acted) ds R a = inr (acted.value, a)
goes_rest (TakeUp k) (Err why) ds R a = inl a
goes_rest (TakeUp k) (Ok acted) ds R a = inr (acted.value, a)
goes_rest (TakeDown k) (Err why) ds R a = inl a
goes_rest (TakeDown k) (Ok acted) ds R a = inr (acted.value, a)
goes_rest (Give e) (Err why) ds R a = inl a
goes_rest (Give e) (Ok acted) ds R a = inr (acted.value, a)
goes_rest AskIdr (Err why) ds R a = inl a
goes_rest AskIdr (Ok acted) ds R a = inr (acted.value, a)
goes_rest Close (Err why) ds R a = inl a
goes_rest Close (Ok acted) ds R a = inr (acted.value, a)
goes_rest Reset (Err why) ds R a = inl a
goes_rest Reset (Ok acted) ds R a = inr (acted.value, a)

pump_proper : (file : CaptureFile) (session every : ℕ) (pumping : Pumping) (state : State) (ds : List Deed)
    → ArePumpDeeds file session every pumping state ds → AllByRecursion IsProperDeed ds
pump_proper file session every pumping state [] a = tt
pump_proper file session every pumping state (d ∷ ds) a = (
  subst IsProperDeed (sym a.0) (deed_is file session every pumping state session),
  rest (goes_rest (pump_deed file session every pumping state) (done file d state) ds (λ next. ArePumpDeeds file session every
      (moved (pump_deed file session every pumping state) pumping) next ds) a.1)
      (λ next more. pump_proper file session every (moved (pump_deed file session every pumping state) pumping) next ds more),
)
  where
    rest : {R : State → Type 0} → (ds ≡ []) ⊎ ((next : State) × R next) → ((next : State) → R next → AllByRecursion IsProperDeed ds)
        → AllByRecursion IsProperDeed ds
    rest (inl none) more = subst (AllByRecursion IsProperDeed) (sym none) tt
    rest (inr (next, is)) more = more next is

-- ---- all steps

one_deed : (d : Deed) (ds : List Deed) → IsProperDeed d → ds ≡ d ∷ [] → AllByRecursion IsProperDeed ds
one_deed d ds is are = subst (AllByRecursion IsProperDeed) (sym are) (is, tt)

each_video : (session : ℕ) (ks : List ℕ) → AllByRecursion IsProperDeed (map (λ k. In session (TakeVideo k)) ks)
each_video session [] = tt
each_video session (k ∷ ks) = (tt, each_video session ks)

pub proper_deeds : (file : CaptureFile) (s : Step) (state : State) (ds : List Deed) → IsProperStep s → AreDeeds file s state ds
    → AllByRecursion IsProperDeed ds
proper_deeds file step.Blank state ds is are = subst (AllByRecursion IsProperDeed) (sym are) tt
proper_deeds file (step.Session packet percentage minimum window) state ds is are = one_deed (Open packet percentage minimum window) ds tt are
proper_deeds file step.Cap state ds is are = one_deed Capture ds tt are
proper_deeds file (step.Send session) state ds is are = one_deed (In session Turn) ds tt are
proper_deeds file (step.Video session k) state ds is are = one_deed (In session (TakeVideo k)) ds tt are
proper_deeds file (step.Audio session k) state ds is are = one_deed (In session (TakeAudio k)) ds tt are
proper_deeds file (step.Videos session first last) state ds is are =
    subst (AllByRecursion IsProperDeed) (sym are) (each_video session _)
proper_deeds file (step.Up session k) state ds is are = one_deed (In session (TakeUp k)) ds tt are
proper_deeds file (step.Down session k) state ds is are = one_deed (In session (TakeDown k)) ds tt are
proper_deeds file (step.Input session event) state ds is are = one_deed (In session (Give event)) ds is are
proper_deeds file (step.Idr session) state ds is are = one_deed (In session AskIdr) ds tt are
proper_deeds file (step.Time by) state ds is are = one_deed (Pass by) ds tt are
proper_deeds file (step.Pump session every) state ds is are =
    pump_proper file session every (pumping_from (session_numbered state session)) state ds are
proper_deeds file (step.Close session) state ds is are = one_deed (In session Close) ds tt are
proper_deeds file (step.Reset session) state ds is are = one_deed (In session Reset) ds tt are

-- ---- lines

spelled_is_proper : (line : List ℕ) (s : Step) → Spells line s → IsProperStep s
spelled_is_proper line step.Blank spells = tt
spelled_is_proper line (step.Session packet percentage minimum window) spells = tt
spelled_is_proper line step.Cap spells = tt
spelled_is_proper line (step.Send session) spells = tt
spelled_is_proper line (step.Video session k) spells = tt
spelled_is_proper line (step.Audio session k) spells = tt
spelled_is_proper line (step.Videos session first last) spells = tt
spelled_is_proper line (step.Up session k) spells = tt
spelled_is_proper line (step.Down session k) spells = tt
spelled_is_proper line (step.Input session event) spells = spells.0
spelled_is_proper line (step.Idr session) spells = tt
spelled_is_proper line (step.Time by) spells = tt
spelled_is_proper line (step.Pump session every) spells = tt
spelled_is_proper line (step.Close session) spells = tt
spelled_is_proper line (step.Reset session) spells = tt

line_is_proper : (n : ℕ) (line : List ℕ) (o : Option Step) → HasStep n line o → IfSome o IsProperStep
line_is_proper n line None has = tt
line_is_proper n line (Some s) has = spelled_is_proper line s has.spells

pub lines_are_proper : (lines : List (List ℕ))
    → AllByRecursion (λ line. (n : ℕ) (o : Option Step) → HasStep n line o → IfSome o IsProperStep) lines
lines_are_proper [] = tt
lines_are_proper (line ∷ lines) = (λ n o has. line_is_proper n line o has, lines_are_proper lines)

-- ---- steps

step_is_proper : (s : Step) → IsProperStep s → (n : ℕ) (o : Option Step) → IsStep n s o → IfSome o IsProperStep
step_is_proper s is n o found = subst (λ (x : Option Step). IfSome x IsProperStep) (sym found) is

pub steps_are_proper : (steps : List Step) → AllByRecursion IsProperStep steps
    → AllByRecursion (λ s. (n : ℕ) (o : Option Step) → IsStep n s o → IfSome o IsProperStep) steps
steps_are_proper [] all = tt
steps_are_proper (s ∷ steps) all = (step_is_proper s all.0, steps_are_proper steps all.1)

-- ---- what is generated

key_is_proper : (tick : ℕ) → IsEvent (key_event tick)
key_is_proper tick = by (tick % 2 == 1) where
  by : (b : Bool) → IsEvent (cond {A = Event} b (KeyDown (pos 65) 0) (KeyUp (pos 65) 0))
  by true = record { known = tt; types = (omega arith, omega arith); button = tt }
  by false = record { known = tt; types = (omega arith, omega arith); button = tt }

ticks_are_proper : (ticks : List ℕ) (rest : List Step) → AllByRecursion IsProperStep rest
    → AllByRecursion IsProperStep (flat_map tick_steps ticks ++ rest)
ticks_are_proper [] rest all = all
ticks_are_proper (tick ∷ ticks) rest all = (tt, (tt, (tt, (key_is_proper tick, (tt, (tt, ticks_are_proper ticks rest all))))))

pub generated_are_proper : (ticks : ℕ) → AllByRecursion IsProperStep (generated_steps ticks)
unfolding generated_steps
generated_are_proper ticks =
    (tt, (tt, ticks_are_proper (range_with_len 1 ticks) (step.Close 1 ∷ step.Pump 1 0 ∷ step.Close 2 ∷ step.Pump 2 0 ∷ []) (tt, (tt, (tt, (tt, tt))))))
