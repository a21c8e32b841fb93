-- The generated run ends well: its sessions open, each tick is captured, sent in both and pumped, and both close.
use Rattle.std.proofs.Common.{◌≡◌, ◌<◌, ◌≤◌, ◌+◌, ℕ, zero, suc, List, [], ◌∷◌, ◌++◌, length, Option, Some, None, refl, ap, ◌∙◌}
use Rattle.std.proofs.Common.{arith}
use Rattle.std.specs.Prelude.{nat_lt}
use Rattle.std.specs.List.{All, flat_map, range_with_len}
use Rattle.std.proofs.lemmas.Bool.{cond-true, lt-ltb}
use Rattle.gs_tape.specs.Tick.{Tick}
use Rattle.gs_tape.specs.Limits.{most_generated}
use Rattle.gs_tape.specs.Reading.{Fault}
use Rattle.gs_schedule.specs.declared.step.Step.{Step}
use Rattle.gs_schedule.specs.declared.step.Step.TheVariants as step
use Rattle.gs_stream.specs.Video.{video_stream}
use Rattle.gs_enet.specs.Receive.{command_received}
use Rattle.gs_enet.specs.Sides.{written_out}
use Rattle.gs_enet.specs.Write.{next_items, wrote_next}
use Rattle.gs_run.specs.CaptureFile.{CaptureFile, generated_file}
use Rattle.gs_run.specs.Session.{Part, RunSession, State, start, video_of}
use Rattle.gs_run.specs.Connection.{settled_part}
use Rattle.gs_run.specs.Hearing.{up_taken, down_taken}
use Rattle.gs_run.specs.Opening.{client_of, opened_session, opened_part, session_settings}
use Rattle.gs_run.specs.Deed.{Open, Capture}
use Rattle.gs_run.specs.Refusal.{Refusal, refusal, refusal_at_end}
use Rattle.gs_run.specs.Done.{after, unless_refused}
use Rattle.gs_run.specs.Deliveries.{control_deliveries}
use Rattle.gs_run.specs.RunLaws.{IsCapture}
use Rattle.gs_run.specs.Run.{Run, finished}
use Rattle.gs_run.specs.Generated.{key_event, tick_steps, generated_steps}
use Rattle.gs_run.proofs.Captures.{generated_files_are_captures}
use Rattle.gs_make.specs.EndsWell.{GeneratedRunsEndWell}
use Rattle.gs_make.proofs.FewUnits.{IsQuiet, generated_counted, generated_is_quiet}
use Rattle.gs_make.proofs.Making.{AreUp}
use Rattle.gs_make.proofs.Reached.{Does, IsPlace, IsReached, reached_more, reached_start}
use Rattle.gs_make.proofs.Pumping.{IsScene}
use Rattle.gs_make.proofs.Running.{EndWell, IsReady, close_ends, deed_ends, give_ends, pump_step_ends, ready_more, turn_ends}

-- ---- two sessions

abbrev both : ℕ → RunSession → RunSession → State
both captured a b = record { captured = captured; moment = 0; sessions = a ∷ b ∷ [] }

-- the first of them, and the second
abbrev first_of : ℕ → RunSession → RunSession → State
first_of captured b s = both captured s b

abbrev second_of : ℕ → RunSession → RunSession → State
second_of captured a s = both captured a s

first_place : (captured : ℕ) (b : RunSession) → IsPlace 1 (first_of captured b)
first_place captured b = record { there = λ s. refl; replaced = λ s t. refl; scene = λ file s t. refl }

second_place : (captured : ℕ) (a : RunSession) → IsPlace 2 (second_of captured a)
second_place captured a = record { there = λ s. refl; replaced = λ s t. refl; scene = λ file s t. refl }

-- a capture of few ticks
record IsFew (file : CaptureFile) : Type 0 where
  capture : IsCapture file
  ticks : length file.ticks ≤ 2000
  quiet : All IsQuiet file.ticks
  fault : file.fault ≡ None

first_scene : (file : CaptureFile) (captured gives : ℕ) (b : RunSession) → IsFew file → gives ≤ 2001 → IsScene file 1 (first_of captured b) gives
first_scene file captured gives b k few =
    record { capture = k.capture; ticks = k.ticks; quiet = k.quiet; place = first_place captured b; few_gives = few }

second_scene : (file : CaptureFile) (captured gives : ℕ) (a : RunSession) → IsFew file → gives ≤ 2001 → IsScene file 2 (second_of captured a) gives
second_scene file captured gives a k few =
    record { capture = k.capture; ticks = k.ticks; quiet = k.quiet; place = second_place captured a; few_gives = few }

-- ---- one tick

captures : (file : CaptureFile) (captured : ℕ) (a b : RunSession) → captured < length file.ticks
    → Does file Capture (both captured a b) (both (captured + 1) a b)
unfolding refusal after
captures file captured a b more =
    let state : State = both captured a b in
    let none : refusal file Capture state ≡ None =
    cond-true (nat_lt captured (length file.ticks)) None (Some (refusal_at_end file.fault)) (lt-ltb captured (length file.ticks) more) in
    record {
      acted = after file Capture state;
      done = ap (λ (o : Option Refusal). unless_refused o (after file Capture state)) none;
      value = refl;
    }

-- both sessions are ready
record AreReady (file : CaptureFile) (captured gives : ℕ) (a b : RunSession) : Type 0 where
  reached : IsReached file (both captured a b)
  first : IsReady (Unit {0}) gives file.ticks 0 a
  second : IsReady (Unit {0}) 0 file.ticks 0 b

tick_ends : (file : CaptureFile) (tick captured gives : ℕ) (a b : RunSession) (steps : List Step) → IsFew file → captured < length file.ticks → gives ≤ 2000
    → AreReady file captured gives a b
    → ((x y : RunSession) → AreReady file (captured + 1) (gives + 1) x y → EndWell file steps (both (captured + 1) x y))
    → EndWell file (tick_steps tick ++ steps) (both captured a b)
tick_ends file tick captured gives a b steps few more room k rest =
    let up : Type 0 = Unit {0} in
    let now : ℕ = captured + 1 in
    let does = captures file captured a b more in
    let reached = reached_more file Capture (both captured a b) (both now a b) k.reached does in
    let five = step.Pump 2 50 ∷ steps in
    let four = step.Pump 1 50 ∷ five in
    let three = step.Input 1 (key_event tick) ∷ four in
    let two = step.Send 2 ∷ three in
    deed_ends file step.Cap (step.Send 1 ∷ two) Capture (both captured a b) (both now a b) (λ deeds are. are) does
    (turn_ends up gives file 1 (first_of now b) two a (first_scene file now gives b few (omega (arith, room))) reached k.first (λ c reached_c ready_c.
    turn_ends up 0 file 2 (second_of now c) three b (second_scene file now 0 c few (omega arith)) reached_c k.second (λ d reached_d ready_d.
    give_ends up gives 4092 file 1 (first_of now d) (key_event tick) four c tt (first_scene file now gives d few (omega (arith, room))) reached_d ready_c
    (λ e reached_e ready_e.
    pump_step_ends up (gives + 1) file 1 (first_of now d) 50 five e (first_scene file now (gives + 1) d few (omega (arith, room))) reached_e ready_e
    (λ f reached_f ready_f.
    pump_step_ends up 0 file 2 (second_of now f) 50 steps d (second_scene file now 0 f few (omega arith)) reached_f ready_d (λ g reached_g ready_g.
    rest f g (record { reached = reached_g; first = ready_f; second = ready_g })))))))

-- ---- both close

closing : List Step
closing = step.Close 1 ∷ step.Pump 1 0 ∷ step.Close 2 ∷ step.Pump 2 0 ∷ []

closing_ends : (file : CaptureFile) (captured gives : ℕ) (a b : RunSession) → IsFew file → gives ≤ 2000 → AreReady file captured gives a b
    → EndWell file closing (both captured a b)
unfolding closing
closing_ends file captured gives a b few room k =
    let up : Type 0 = Unit {0} in
    let two = step.Pump 2 0 ∷ [] in
    let three = step.Close 2 ∷ two in
    let four = step.Pump 1 0 ∷ three in
    close_ends up gives 0 file 1 (first_of captured b) four a tt (first_scene file captured gives b few (omega (arith, room))) k.reached k.first
    (λ c reached_c ready_c.
    pump_step_ends ⊥ (gives + 1) file 1 (first_of captured b) 0 three c (first_scene file captured (gives + 1) b few (omega (arith, room))) reached_c
    (ready_more ⊥ (gives + 1) file.ticks c ready_c) (λ d reached_d ready_d.
    close_ends up 0 0 file 2 (second_of captured d) two b tt (second_scene file captured 0 d few (omega arith)) reached_d k.second (λ e reached_e ready_e.
    pump_step_ends ⊥ 1 file 2 (second_of captured d) 0 [] e (second_scene file captured 1 d few (omega arith)) reached_e
    (ready_more ⊥ 1 file.ticks e ready_e) (λ f reached_f ready_f n run is.
    ap (λ (r : Run). r.status) (is ∙ ap (λ (o : Option Fault). finished o (both captured d f)) few.fault)))))

-- ---- all ticks

ticks_end : (file : CaptureFile) (n tick captured gives : ℕ) (a b : RunSession) → IsFew file → captured + n ≡ length file.ticks → gives + n ≤ 2000
    → AreReady file captured gives a b → EndWell file (flat_map tick_steps (range_with_len tick n) ++ closing) (both captured a b)
ticks_end file zero tick captured gives a b few all room k = closing_ends file captured gives a b few (omega (arith, room)) k
ticks_end file (suc n) tick captured gives a b few all room k =
    tick_ends file tick captured gives a b (flat_map tick_steps (range_with_len (tick + 1) n) ++ closing) few (omega (arith, all)) (omega (arith, room)) k
    (λ x y ready. ticks_end file n (tick + 1) (captured + 1) (gives + 1) x y few (omega (arith, all)) (omega (arith, room)) ready)

-- ---- the sessions open

abbrev session_of : CaptureFile → ℕ → RunSession
session_of file number = record {
  part = opened_part number 0 (client_of (session_settings file number 1392 20 2) 1);
  earlier = [];
}

-- nothing is made yet, and the connection is up
record IsOpened (ticks : List Tick) (part : Part) : Type 0 where
  counts : length part.client.peer.given + length part.owed ≡ 0
  control : control_deliveries part.marks part ≡ 0
  video : length (video_of ticks part) ≡ 0
  up : AreUp part

opened_ready : (ticks : List Tick) (s : RunSession) → IsOpened ticks s.part → IsReady (Unit {0}) 0 ticks 0 s
opened_ready ticks s k = record {
  making = record { made = record { counts = omega (arith, k.counts); control = omega (arith, k.control) }; up = λ is. k.up };
  video = omega (arith, k.video);
}

first_is_opened : (number ticks : ℕ) → IsOpened (generated_file number ticks).ticks (session_of (generated_file number ticks) 1).part
unfolding opened_part up_taken down_taken settled_part written_out command_received next_items wrote_next video_stream
first_is_opened number ticks = record {
  counts = refl;
  control = refl;
  video = refl;
  up = record {
    client = record { up = refl; holds = tt; wrote = ((tt, tt), ((tt, tt), tt)) };
    host = record { up = refl; holds = tt; wrote = ((tt, tt), tt) };
  };
}

second_is_opened : (number ticks : ℕ) → IsOpened (generated_file number ticks).ticks (session_of (generated_file number ticks) 2).part
unfolding opened_part up_taken down_taken settled_part written_out command_received next_items wrote_next video_stream
second_is_opened number ticks = record {
  counts = refl;
  control = refl;
  video = refl;
  up = record {
    client = record { up = refl; holds = tt; wrote = ((tt, tt), ((tt, tt), tt)) };
    host = record { up = refl; holds = tt; wrote = ((tt, tt), tt) };
  };
}

abbrev with_sessions : List RunSession → State
with_sessions sessions = record { captured = 0; moment = 0; sessions = sessions }

first_opens : (file : CaptureFile) → Does file (Open 1392 20 2 1) start (with_sessions (session_of file 1 ∷ []))
unfolding refusal after opened_session
first_opens file = record { acted = after file (Open 1392 20 2 1) start; done = refl; value = refl }

second_opens : (file : CaptureFile) (a : RunSession) → Does file (Open 1392 20 2 1) (with_sessions (a ∷ [])) (both 0 a (session_of file 2))
unfolding refusal after opened_session
second_opens file a = record { acted = after file (Open 1392 20 2 1) (with_sessions (a ∷ [])); done = refl; value = refl }

-- ---- the law

few_ticks : (number ticks : ℕ) → ticks ≤ most_generated → IsFew (generated_file number ticks)
few_ticks number ticks most =
    let counted = generated_counted number ticks in
    record {
      capture = generated_files_are_captures number ticks most;
      ticks = omega (arith, counted, most);
      quiet = generated_is_quiet number ticks;
      fault = refl;
    }

generated_ends : (number ticks : ℕ) → ticks ≤ most_generated → EndWell (generated_file number ticks) (generated_steps ticks) start
unfolding generated_steps closing
generated_ends number ticks most =
    let file = generated_file number ticks in
    let a = session_of file 1 in
    let b = session_of file 2 in
    let steps = flat_map tick_steps (range_with_len 1 ticks) ++ closing in
    let opens = first_opens file in
    let one = reached_more file (Open 1392 20 2 1) start (with_sessions (a ∷ [])) (reached_start file) opens in
    let opens_again = second_opens file a in
    let two = reached_more file (Open 1392 20 2 1) (with_sessions (a ∷ [])) (both 0 a b) one opens_again in
    deed_ends file (step.Session 1392 20 2 1) (step.Session 1392 20 2 1 ∷ steps) (Open 1392 20 2 1) start (with_sessions (a ∷ [])) (λ deeds are. are) opens
    (deed_ends file (step.Session 1392 20 2 1) steps (Open 1392 20 2 1) (with_sessions (a ∷ [])) (both 0 a b) (λ deeds are. are) opens_again
    (ticks_end file ticks 1 0 0 a b (few_ticks number ticks most) (omega (arith, generated_counted number ticks)) (omega (arith, most)) (record {
      reached = two;
      first = opened_ready file.ticks a (first_is_opened number ticks);
      second = opened_ready file.ticks b (second_is_opened number ticks);
    })))

pub generated_runs_end_well : GeneratedRunsEndWell
generated_runs_end_well number ticks run most is = generated_ends number ticks most 1 run is
