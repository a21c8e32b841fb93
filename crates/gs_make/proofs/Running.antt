-- Steps of the generated schedule, one behind the other: each is done, and what comes behind it ends well.
use Rattle.std.proofs.Common.{◌≡◌, ◌≤◌, ◌+◌, ℕ, Bool, true, false, not, cond, ◌&&◌, ◌||◌, List, [], ◌∷◌, length, Option, Some, None}
use Rattle.std.proofs.Common.{refl, sym, ap, subst, ◌∙◌, arith}
use Rattle.std.specs.Prelude.{nat_lt}
use Rattle.std.proofs.lemmas.Bool.{and_from}
use Rattle.gs_input.specs.declared.event.Event.{Event}
use Rattle.gs_rtp.specs.Stream.{StreamSettings}
use Rattle.gs_tape.specs.Tick.{Tick, tick_numbered}
use Rattle.gs_refs.specs.declared.entry.Entry.{Entry}
use Rattle.gs_refs.specs.Choice.{choice}
use Rattle.gs_refs.specs.History.{last_tick, has_ended}
use Rattle.gs_enet.specs.Steps.{is_full, is_open}
use Rattle.gs_frames.specs.Client.{ClientSettings}
use Rattle.gs_stream.specs.Video.{video_stream}
use Rattle.gs_stream.specs.HandedLaws.{IsHostHistory}
use Rattle.gs_schedule.specs.declared.step.Step.{Step}
use Rattle.gs_schedule.specs.declared.step.Step.TheVariants as step
use Rattle.gs_schedule.specs.declared.status.TrialStatus.TheVariants as status
use Rattle.gs_run.specs.CaptureFile.{CaptureFile}
use Rattle.gs_run.specs.Session.{PartMarks, Part, RunSession, State, video_of}
use Rattle.gs_run.specs.Scene.{Scene, scene_of}
use Rattle.gs_run.specs.Deed.{SessionDeed, Turn, Give, Close, Deed, In}
use Rattle.gs_run.specs.Message.{event_channel}
use Rattle.gs_run.specs.Streaming.{newest_sent, turn_entry, turned}
use Rattle.gs_run.specs.Hearing.{entered}
use Rattle.gs_run.specs.Refusal.{Refusal, has_made_most, is_allowed}
use Rattle.gs_run.specs.Done.{done_in, settled_in, Ran, ran}
use Rattle.gs_run.specs.Connection.{settled_part}
use Rattle.gs_run.specs.Giving.{given, event_given}
use Rattle.gs_run.specs.Giving as giving
use Rattle.gs_run.specs.Report.{quietly, reporting}
use Rattle.gs_enet.specs.World.{Send, acted}
use Rattle.gs_schedule.specs.declared.output.Output.TheVariants as output
use Rattle.gs_run.specs.Line.{pumping_from, ArePumpDeeds, AreDeeds}
use Rattle.gs_run.specs.Deliveries.{most_deliveries}
use Rattle.gs_run.specs.RunLaws.{IsPairedPart}
use Rattle.gs_run.specs.Run.{IsStep, Run, RunsOn, RunsStep, RunsFrom}
use Rattle.gs_make.proofs.FewAsks.{frames_within}
use Rattle.gs_make.proofs.FewUnits.{few_sounds}
use Rattle.gs_make.proofs.FewDatagrams.{sends_few}
use Rattle.gs_make.proofs.Making.{AreUp, IsMade, close_made, give_made, give_up, made_settled, settles, turn_made, turn_up, up_settled}
use Rattle.gs_make.proofs.Reached.{Does, IsPlace, IsReached, behind_in, does_in, ran_first, ran_none, reached_more, reached_paired}
use Rattle.gs_make.proofs.Pumping.{IsMaking, IsScene, few_made, has_room, pump_ends}

-- every run of these steps from this state ends well
abbrev pub EndWell : CaptureFile → List Step → State → Type 0
EndWell file steps state = (n : ℕ) (run : Run) → RunsFrom IsStep file n steps state run → run.status ≡ status.Ok

on_ends : (n : ℕ) (o : Option Refusal) (did : Ran) (R : State → Run → Type 0) (run : Run) → o ≡ None → RunsOn n o did R run
    → ((rest : Run) → R did.state rest → rest.status ≡ status.Ok) → run.status ≡ status.Ok
on_ends n (Some why) did R run none on more = absurd cc
on_ends n None did R run none (rest, runs, e) more = ap (λ (r : Run). r.status) e ∙ more rest runs

step_ends : (file : CaptureFile) (s : Step) (steps : List Step) (state : State)
    → ((deeds : List Deed) → AreDeeds file s state deeds → ((ran file deeds state).refused ≡ None) × EndWell file steps (ran file deeds state).state)
    → EndWell file (s ∷ steps) state
step_ends file s steps state each n run (o, has, runs) =
    let R : State → Run → Type 0 = RunsFrom IsStep file (n + 1) steps in
    let did : RunsStep file n (Some s) state R run = subst (λ (x : Option Step). RunsStep file n x state R run) has runs in
    let k = each did.0 did.1 in
    on_ends n (ran file did.0 state).refused (ran file did.0 state) R run k.0 did.2 (λ rest r. k.1 (n + 1) rest r)

-- a step that is one deed
pub deed_ends : (file : CaptureFile) (s : Step) (steps : List Step) (deed : Deed) (state next : State)
    → ((deeds : List Deed) → AreDeeds file s state deeds → deeds ≡ deed ∷ []) → Does file deed state next → EndWell file steps next
    → EndWell file (s ∷ steps) state
deed_ends file s steps deed state next one does rest =
    let first = ran_first file deed [] state next does in
    let end = ran_none file next in
    let Ends : List Deed → Type 0 = λ ds. ((ran file ds state).refused ≡ None) × EndWell file steps (ran file ds state).state in
    step_ends file s steps state
    (λ deeds are. subst Ends (sym (one deeds are)) (first.refused ∙ end.0, subst (EndWell file steps) (sym (first.state ∙ end.1)) rest))

-- ---- a session

-- What is kept of it between steps. Of its video no more than so many datagrams are behind their mark.
pub record IsReady (Open : Type 0) (gives : ℕ) (ticks : List Tick) (more : ℕ) (s : RunSession) : Type 0 where
  pub making : IsMaking Open gives s.part.marks s.part
  pub video : length (video_of ticks s.part) ≤ s.part.marks.video + more

-- and then the rest of the steps, from a state with the session in its place
abbrev pub GoesOn : CaptureFile → (RunSession → State) → (RunSession → Type 0) → List Step → Type 0
GoesOn file put Ready steps = (t : RunSession) → IsReached file (put t) → Ready t → EndWell file steps (put t)

-- a deed in the session
in_ends : (file : CaptureFile) (number : ℕ) (put : RunSession → State) (s : Step) (deed : SessionDeed) (Ready : RunSession → Type 0) (steps : List Step)
    (session : RunSession) → IsPlace number put → IsReached file (put session)
    → ((deeds : List Deed) → AreDeeds file s (put session) deeds → deeds ≡ In number deed ∷ [])
    → is_allowed (scene_of file number (put session)) deed session.part ≡ true
    → (IsReached file (put (behind_in file number put deed session)) → Ready (behind_in file number put deed session)) → GoesOn file put Ready steps
    → EndWell file (s ∷ steps) (put session)
in_ends file number put s deed Ready steps session place reached one allowed ready rest =
    let t : RunSession = behind_in file number put deed session in
    let does : Does file (In number deed) (put session) (put t) = does_in file number put deed session place allowed in
    let now = reached_more file (In number deed) (put session) (put t) reached does in
    deed_ends file s steps (In number deed) (put session) (put t) one does (rest t now (ready now))

-- ---- the host's turn

turn_few : (scene : Scene) (o : Option Tick) (settings : StreamSettings) (h : List Entry)
    → IsHostHistory settings scene.ticks (newest_sent scene o h).value
    → length (video_stream settings scene.ticks (newest_sent scene o h).value) ≤ length (video_stream settings scene.ticks h) + 4092
turn_few scene None settings h host = omega arith
turn_few scene (Some newest) settings h host = by (nat_lt (last_tick h) scene.captured && not (has_ended h)) host where
  sent : Entry
  sent = turn_entry scene.captured (choice h newest)

  by : (b : Bool) → IsHostHistory settings scene.ticks (cond b (entered scene.session sent h) (record { value = h; reports = [] })).value
      → length (video_stream settings scene.ticks (cond b (entered scene.session sent h) (record { value = h; reports = [] })).value)
      ≤ length (video_stream settings scene.ticks h) + 4092
  by true host = sends_few settings scene.ticks h scene.captured (choice h newest).kind (choice h newest).reference host
  by false host = omega arith

-- behind a deed what is owed is given, and both sides write out
settle_ready : (Open : Type 0) (gives more : ℕ) (scene : Scene) (p : Part) (t : RunSession) → t.part ≡ settled_part scene.moment p → IsMade gives p.marks p
    → (Open → AreUp p) → length (video_of scene.ticks p) ≤ p.marks.video + more → IsReady Open gives scene.ticks more t
settle_ready Open gives more scene p t is made up video =
    let q : Part = settled_part scene.moment p in
    let z = settles scene.moment p.marks p in
    let same : length (video_of scene.ticks q) ≡ length (video_of scene.ticks p) =
    ap (λ (c : ClientSettings). length (video_stream c.stream scene.ticks q.history)) z.settings
    ∙ ap (λ (h : List Entry). length (video_stream p.settings.stream scene.ticks h)) z.history in
    let mark : q.marks ≡ p.marks = z.marks in
    let here : IsReady Open gives scene.ticks more (record t { part = q }) = record {
      making = record {
        made = subst (λ (m : PartMarks). IsMade gives m q) (sym mark) (made_settled scene.moment gives p.marks p made);
        up = λ is. up_settled scene.moment p (up is);
      };
      video = omega (arith, video, same, ap (λ (m : PartMarks). m.video) mark);
    } in
    subst (λ (x : Part). IsReady Open gives scene.ticks more (record t { part = x })) (sym is) here

turn_ready : (Open : Type 0) (gives : ℕ) (scene : Scene) (s t : RunSession) → t.part ≡ (settled_in scene Turn s.part).value
    → IsPairedPart scene.ticks t.part → IsReady Open gives scene.ticks 0 s → IsReady Open gives scene.ticks 4092 t
unfolding turned
turn_ready Open gives scene s t is paired k =
    let p : Part = (done_in scene Turn s.part).value in
    let q : Part = settled_part scene.moment p in
    let z = settles scene.moment p.marks p in
    let o : Option Tick = tick_numbered scene.ticks scene.captured in
    let host : IsHostHistory q.settings.stream scene.ticks q.history =
    subst (λ (x : Part). IsHostHistory x.settings.stream scene.ticks x.history) is paired.history in
    let sent : IsHostHistory s.part.settings.stream scene.ticks (newest_sent scene o s.part.history).value =
    subst (λ (h : List Entry). IsHostHistory s.part.settings.stream scene.ticks h) z.history
    (subst (λ (c : ClientSettings). IsHostHistory c.stream scene.ticks q.history) z.settings host) in
    let few = turn_few scene o s.part.settings.stream s.part.history sent in
    settle_ready Open gives 4092 scene p t is (turn_made scene gives s.part.marks s.part k.making.made)
    (λ is. turn_up scene s.part (k.making.up is)) (omega (arith, few, k.video))

pub turn_ends : (Open : Type 0) (gives : ℕ) (file : CaptureFile) (number : ℕ) (put : RunSession → State) (steps : List Step) (s : RunSession)
    → IsScene file number put gives → IsReached file (put s) → IsReady Open gives file.ticks 0 s
    → GoesOn file put (IsReady Open gives file.ticks 4092) steps → EndWell file (step.Send number ∷ steps) (put s)
turn_ends Open gives file number put steps s scene reached k rest =
    in_ends file number put (step.Send number) Turn (IsReady Open gives file.ticks 4092) steps s scene.place reached (λ deeds are. are) refl
    (λ now. turn_ready Open gives (scene_of file number (put s)) s (behind_in file number put Turn s) refl
    (reached_paired file number put (behind_in file number put Turn s) scene.capture scene.place now) k)
    rest

-- ---- the user

-- what was given behind the same streams
record IsSame (p q : Part) : Type 0 where
  settings : q.settings ≡ p.settings
  history : q.history ≡ p.history
  marks : q.marks ≡ p.marks

give_same : (session : ℕ) (event : Event) (part : Part) → IsSame part (event_given session event part).value
unfolding given
give_same session event part = by _ _ (is_full part.client.peer _) where
  by : (channel : ℕ) (bytes : List ℕ) (b : Bool)
      → IsSame part (cond b (reporting (output.Full session channel) part)
      (quietly (record part { client = acted (Send channel bytes) part.client }))).value
  by channel bytes true = record { settings = refl; history = refl; marks = refl }
  by channel bytes false = record { settings = refl; history = refl; marks = refl }

close_same : (part : Part) → IsSame part (giving.closed_part part).value
unfolding giving.closed_part
close_same part = record { settings = refl; history = refl; marks = refl }

same_ready : (Open Next : Type 0) (gives gives' more : ℕ) (scene : Scene) (p : Part) (s t : RunSession) → t.part ≡ settled_part scene.moment p → IsSame s.part p
    → IsMade gives' s.part.marks p → (Next → AreUp p) → IsReady Open gives scene.ticks more s → IsReady Next gives' scene.ticks more t
same_ready Open Next gives gives' more scene p s t is same made up k =
    let video : length (video_of scene.ticks p) ≡ length (video_of scene.ticks s.part) =
    ap (λ (c : ClientSettings). length (video_stream c.stream scene.ticks p.history)) same.settings
    ∙ ap (λ (h : List Entry). length (video_stream s.part.settings.stream scene.ticks h)) same.history in
    settle_ready Next gives' more scene p t is (subst (λ (m : PartMarks). IsMade gives' m p) (sym same.marks) made) up
    (omega (arith, k.video, video, ap (λ (m : PartMarks). m.video) same.marks))

not_or : (a b : Bool) → b ≡ false → (a || not b) ≡ true
not_or true b e = refl
not_or false true e = absurd cc
not_or false false e = refl

pub give_ends : (Open : Type 0) (gives more : ℕ) (file : CaptureFile) (number : ℕ) (put : RunSession → State) (event : Event) (steps : List Step)
    (s : RunSession)
    → Open → IsScene file number put gives → IsReached file (put s) → IsReady Open gives file.ticks more s
    → GoesOn file put (IsReady Open (gives + 1) file.ticks more) steps → EndWell file (step.Input number event ∷ steps) (put s)
give_ends Open gives more file number put event steps s given_open scene reached k rest =
    let view : Scene = scene_of file number (put s) in
    let up = k.making.up given_open in
    let few = few_made file number put gives s.part.marks s scene reached k.making.made in
    let allowed = and_from (is_open s.part.client.peer.state) (is_full s.part.client.peer (event_channel event)
    || not (has_made_most (event_channel event) s.part)) (ap is_open up.client.up)
    (not_or (is_full s.part.client.peer (event_channel event)) (has_made_most (event_channel event) s.part)
    (has_room (event_channel event) s.part few.1)) in
    in_ends file number put (step.Input number event) (Give event) (IsReady Open (gives + 1) file.ticks more) steps s scene.place reached (λ deeds are. are)
    allowed
    (λ now. same_ready Open Open gives (gives + 1) more view (done_in view (Give event) s.part).value s (behind_in file number put (Give event) s) refl
    (give_same number event s.part) (give_made number event gives s.part.marks s.part k.making.made)
    (λ is. give_up number event s.part (k.making.up is)) k)
    rest

-- behind the close the connection may be over
pub close_ends : (Open : Type 0) (gives more : ℕ) (file : CaptureFile) (number : ℕ) (put : RunSession → State) (steps : List Step) (s : RunSession)
    → Open → IsScene file number put gives → IsReached file (put s) → IsReady Open gives file.ticks more s
    → GoesOn file put (IsReady ⊥ (gives + 1) file.ticks more) steps → EndWell file (step.Close number ∷ steps) (put s)
close_ends Open gives more file number put steps s given_open scene reached k rest =
    let view : Scene = scene_of file number (put s) in
    let up = k.making.up given_open in
    in_ends file number put (step.Close number) Close (IsReady ⊥ (gives + 1) file.ticks more) steps s scene.place reached (λ deeds are. are)
    (ap is_open up.client.up)
    (λ now. same_ready Open ⊥ gives (gives + 1) more view (done_in view Close s.part).value s (behind_in file number put Close s) refl
    (close_same s.part) (close_made gives s.part.marks s.part k.making.made) (λ none. absurd none) k)
    rest

-- ---- a pump

-- what a pump may deliver at most, where it begins
begins_few : (Open : Type 0) (gives : ℕ) (file : CaptureFile) (number : ℕ) (put : RunSession → State) (s : RunSession) → IsScene file number put gives
    → IsReached file (put s) → IsReady Open gives file.ticks 4092 s
    → most_deliveries (scene_of file number (put s)) (pumping_from (Some s)) s.part ≤ 65535
begins_few Open gives file number put s scene reached k =
    let paired = reached_paired file number put s scene.capture scene.place reached in
    let few = few_made file number put gives s.part.marks s scene reached k.making.made in
    let sounds = few_sounds s.part.settings.stream file.ticks s.part.history scene.quiet paired.history.legal in
    let last = frames_within file.ticks s.part.history paired.history.legal in
    omega (arith, few.0, sounds, last.1, scene.ticks, scene.few_gives, k.video, k.making.made.control)

pub pump_step_ends : (Open : Type 0) (gives : ℕ) (file : CaptureFile) (number : ℕ) (put : RunSession → State) (every : ℕ) (steps : List Step) (s : RunSession)
    → IsScene file number put gives → IsReached file (put s) → IsReady Open gives file.ticks 4092 s
    → GoesOn file put (IsReady Open gives file.ticks 0) steps → EndWell file (step.Pump number every ∷ steps) (put s)
pump_step_ends Open gives file number put every steps s scene reached k rest =
    step_ends file (step.Pump number every) steps (put s) (λ deeds are.
    let from = subst (λ (o : Option RunSession). ArePumpDeeds file number every (pumping_from o) (put s) deeds) (scene.place.there s) are in
    let all = pump_ends Open gives file number put every deeds (pumping_from (Some s)) s scene reached k.making
    (begins_few Open gives file number put s scene reached k) from in
    let new = all.new in
    let video = all.pumped.video in (
      all.none_refused,
      subst (EndWell file steps) (sym all.state_is)
          (rest new all.reached (record { making = all.pumped.making; video = omega (arith, video) })),
    ))

-- one whose video has its mark may have more
pub ready_more : (Open : Type 0) (gives : ℕ) (ticks : List Tick) (s : RunSession) → IsReady Open gives ticks 0 s → IsReady Open gives ticks 4092 s
ready_more Open gives ticks s k = record { making = k.making; video = (let few = k.video in omega (arith, few)) }
