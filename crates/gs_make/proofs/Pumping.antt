-- A pump of the generated schedule ends with all delivered: none of its deliveries is refused.
use Rattle.std.proofs.Common.{◌≡◌, ◌≢◌, ◌⊎◌, ◌<◌, ◌≤◌, ◌+◌, ◌-◌, ℕ, Bool, true, false, not, cond, ◌&&◌, List, [], ◌∷◌, length, drop}
use Rattle.std.proofs.Common.{None, Result, Ok, refl, sym, ap, subst, ◌∙◌, arith, inl, inr}
use Rattle.std.specs.Prelude.{◌==◌, nat_le, nat_lt, slice_get}
use Rattle.std.specs.List.{All}
use Rattle.std.proofs.lemmas.Bool.{and_from, false_from_ne_true, le-leb, leb-true, lt-ltb}
use Rattle.std.proofs.lemmas.List.{length-drop}
use Rattle.gs_enet.specs.Record.{GivenMessage, given_on, given_count}
use Rattle.gs_enet.specs.World.{Written}
use Rattle.gs_store.specs.Named.{is_nameable}
use Rattle.gs_stream.specs.Video.{video_stream}
use Rattle.gs_tape.specs.Tick.{Tick}
use Rattle.gs_client_core.specs.Owed.{request_channel}
use Rattle.gs_refs.specs.declared.entry.Entry.{Entry}
use Rattle.gs_frames.specs.Client.{ClientSettings}
use Rattle.gs_run.specs.CaptureFile.{CaptureFile}
use Rattle.gs_run.specs.Session.{PartMarks, Part, RunSession, State, video_of, audio_of, made_on}
use Rattle.gs_run.specs.Report.{Acted}
use Rattle.gs_run.specs.Scene.{Scene, scene_of}
use Rattle.gs_run.specs.Deed.{SessionDeed, Turn, TakeVideo, TakeAudio, TakeUp, TakeDown, Give, AskIdr, Close, Reset, Mark, Deed, In}
use Rattle.gs_run.specs.Pump.{Pumping, ends_of, marked, next_pumped, moved}
use Rattle.gs_run.specs.Refusal.{Refusal, has_made_most, makes_ask, is_allowed}
use Rattle.gs_run.specs.Done.{done_in, settled_in, done, ran}
use Rattle.gs_run.specs.Line.{pump_deed_in, pump_deed, GoesOn, ArePumpDeeds}
use Rattle.gs_run.specs.Deliveries.{all_deliveries, most_deliveries}
use Rattle.gs_run.specs.RunLaws.{IsCapture}
use Rattle.gs_run.proofs.PartDeliveries.{pumps_advance}
use Rattle.gs_make.proofs.FewAsks.{few_asks}
use Rattle.gs_make.proofs.FewUnits.{IsQuiet}
use Rattle.gs_make.proofs.Making.{AreUp, IsMade, asked, audio_made, audio_up, down_made, down_up, made_settled, mark_made, mark_up}
use Rattle.gs_make.proofs.Making.{settles, up_made, up_settled}
use Rattle.gs_make.proofs.Making.{up_up, video_made, video_up}
use Rattle.gs_make.proofs.NextPumped.{of_next}
use Rattle.gs_make.proofs.Reached.{Does, IsPlace, IsReached, behind_in, does_in, ran_first, ran_none, reached_more, reached_paired}

-- ---- counts

given_fewer : (channel : ℕ) (gs : List GivenMessage) → length (given_on channel gs) ≤ length gs
given_fewer channel [] = omega arith
given_fewer channel (g ∷ gs) = by (g.channel == channel) (given_fewer channel gs) where
  by : (b : Bool) → length (given_on channel gs) ≤ length gs → length (cond b (g.bytes ∷ given_on channel gs) (given_on channel gs)) ≤ length (g ∷ gs)
  by true rest = omega (arith, rest)
  by false rest = omega (arith, rest)

-- the messages made on a channel are some of all
pub made_fewer : (channel : ℕ) (part : Part) → made_on channel part ≤ length part.client.peer.given + length part.owed
made_fewer channel part = by (channel == request_channel) (given_fewer channel part.client.peer.given) where
  by : (b : Bool) → length (given_on channel part.client.peer.given) ≤ length part.client.peer.given
      → given_count part.client.peer channel + cond b (length part.owed) 0 ≤ length part.client.peer.given + length part.owed
  by true given = omega (arith, given)
  by false given = omega (arith, given)

-- there is room for one more
pub has_room : (channel : ℕ) (part : Part) → length part.client.peer.given + length part.owed < 30000 → has_made_most channel part ≡ false
has_room channel part few =
    false_from_ne_true (has_made_most channel part)
    (λ most. let made = made_fewer channel part in absurd (omega (arith, few, made, leb-true 30000 (made_on channel part) most)))

all_deliveries-most : (ws : List Written) → length ws ≤ all_deliveries ws
all_deliveries-most [] = omega arith
all_deliveries-most (w ∷ ws) = let rest = all_deliveries-most ws in omega (arith, rest)

-- one of the last
nameable : {X : Type 0} (xs : List X) (k : ℕ) → 1 ≤ k → k ≤ length xs → length xs - k < 65536 → is_nameable xs k ≡ true
nameable xs k least most late =
    and_from (nat_le 1 k && nat_le k (length xs)) (nat_lt (length xs - k) 65536)
    (and_from (nat_le 1 k) (nat_le k (length xs)) (le-leb 1 k least) (le-leb k (length xs) most)) (lt-ltb (length xs - k) 65536 late)

not_both : (a b : Bool) → b ≡ false → not (a && b) ≡ true
not_both true true e = absurd cc
not_both true false e = refl
not_both false b e = refl

-- ---- one delivery

-- what is kept of a part: while the session is open its connection is up
pub record IsMaking (Open : Type 0) (gives : ℕ) (at : PartMarks) (part : Part) : Type 0 where
  pub made : IsMade gives at part
  pub up : Open → AreUp part

-- a delivery may be made, and leaves a part of which this is kept
record IsDelivery (Open : Type 0) (gives : ℕ) (scene : Scene) (pumping : Pumping) (part : Part) (deed : SessionDeed) : Type 0 where
  allowed : is_allowed scene deed part ≡ true
  making : deed ≢ Mark → IsMaking Open gives (moved deed pumping).at (settled_in scene deed part).value

delivers : (Open : Type 0) (gives : ℕ) (scene : Scene) (every : ℕ) (pumping : Pumping) (part : Part) → IsMaking Open gives pumping.at part
    → length part.client.peer.given + length part.owed < 30000 → most_deliveries scene pumping part ≤ 65535
    → IsDelivery Open gives scene pumping part (next_pumped every pumping (ends_of scene part))
delivers Open gives scene every pumping part k room few =
    of_next every pumping (ends_of scene part) (IsDelivery Open gives scene pumping part) (record {
      video = λ n above within. record {
        allowed = and_from (is_nameable (video_of scene.ticks part) n) _
            (nameable (video_of scene.ticks part) n (omega (arith, above)) within (omega (arith, few, above)))
            (not_both (makes_ask (slice_get (video_of scene.ticks part) (n - 1)) part) (has_made_most request_channel part)
            (has_room request_channel part room));
        making = λ other.
            let made = made_settled scene.moment gives at (done_in scene (TakeVideo n) part).value (video_made scene n gives at part k.made) in
            record {
              made = record { counts = made.counts; control = made.control };
              up = λ is. up_settled scene.moment (done_in scene (TakeVideo n) part).value (video_up scene n part (k.up is));
            };
      };
      audio = λ n above within. record {
        allowed = nameable (audio_of scene.ticks part) n (omega (arith, above)) within (omega (arith, few, above));
        making = λ other.
            let made = made_settled scene.moment gives at (done_in scene (TakeAudio n) part).value (audio_made scene n gives at part k.made) in
            record {
              made = record { counts = made.counts; control = made.control };
              up = λ is. up_settled scene.moment (done_in scene (TakeAudio n) part).value (audio_up scene n part (k.up is));
            };
      };
      up = λ below. record {
        allowed =
            let left = all_deliveries-most (drop at.up part.client.wrote) in
            let count = length-drop at.up part.client.wrote in
            nameable part.client.wrote (at.up + 1) (omega arith) (omega (arith, below)) (omega (arith, few, left, count));
        making = λ other. record {
          made = made_settled scene.moment gives (record at { up = at.up + 1 }) (done_in scene (TakeUp (at.up + 1)) part).value
              (up_made scene.session scene.moment gives at part below k.made);
          up = λ is. up_settled scene.moment (done_in scene (TakeUp (at.up + 1)) part).value
              (up_up scene.session scene.moment (at.up + 1) part (k.up is));
        };
      };
      down = λ below. record {
        allowed =
            let left = all_deliveries-most (drop at.down part.host.wrote) in
            let count = length-drop at.down part.host.wrote in
            nameable part.host.wrote (at.down + 1) (omega arith) (omega (arith, below)) (omega (arith, few, left, count));
        making = λ other. record {
          made = made_settled scene.moment gives (record at { down = at.down + 1 }) (done_in scene (TakeDown (at.down + 1)) part).value
              (down_made scene.session scene.moment gives at part below k.made);
          up = λ is. up_settled scene.moment (done_in scene (TakeDown (at.down + 1)) part).value
              (down_up scene.session scene.moment (at.down + 1) part (k.up is));
        };
      };
      mark = record { allowed = refl; making = λ other. absurd (other refl) };
    })
  where
    at : PartMarks
    at = pumping.at

-- ---- the end of a pump

-- all is delivered, and all that is sent has its mark
pub record IsPumped (Open : Type 0) (gives : ℕ) (ticks : List Tick) (part : Part) : Type 0 where
  pub making : IsMaking Open gives part.marks part
  pub video : length (video_of ticks part) ≤ part.marks.video

marks_are : (scene : Scene) (part : Part) → (settled_in scene Mark part).value.marks ≡ ends_of scene part
unfolding marked
marks_are scene part = (settles scene.moment part.marks (marked scene part)).marks

video_same : (scene : Scene) (part : Part)
    → length (video_of scene.ticks (settled_in scene Mark part).value) ≡ (settled_in scene Mark part).value.marks.video
unfolding marked
video_same scene part =
    let s = settles scene.moment part.marks (marked scene part) in
    let q : Part = (settled_in scene Mark part).value in
    ap (λ (c : ClientSettings). length (video_stream c.stream scene.ticks q.history)) s.settings
    ∙ ap (λ (h : List Entry). length (video_stream part.settings.stream scene.ticks h)) s.history
    ∙ ap (λ (m : PartMarks). m.video) (sym (marks_are scene part))

marks : (Open : Type 0) (gives : ℕ) (scene : Scene) (at : PartMarks) (part : Part) → IsMaking Open gives at part
    → IsPumped Open gives scene.ticks (settled_in scene Mark part).value
marks Open gives scene at part k =
    let q : Part = (settled_in scene Mark part).value in
    let made = made_settled scene.moment gives (ends_of scene part) (marked scene part) (mark_made scene gives at part k.made) in
    let same = video_same scene part in
    record {
      making = record {
        made = subst (λ (m : PartMarks). IsMade gives m q) (sym (marks_are scene part)) made;
        up = λ is. up_settled scene.moment (marked scene part) (mark_up scene part (k.up is));
      };
      video = omega (arith, same);
    }

-- ---- all of it

-- what a pump is in: a capture of few ticks, and a session in its place whose user gave few events
pub record IsScene (file : CaptureFile) (number : ℕ) (put : RunSession → State) (gives : ℕ) : Type 0 where
  pub capture : IsCapture file
  pub ticks : length file.ticks ≤ 2000
  pub quiet : All IsQuiet file.ticks
  pub place : IsPlace number put
  pub few_gives : gives ≤ 2001

-- so its client makes few messages
pub few_made : (file : CaptureFile) (number : ℕ) (put : RunSession → State) (gives : ℕ) (at : PartMarks) (s : RunSession) → IsScene file number put gives
    → IsReached file (put s) → IsMade gives at s.part → (asked s.part ≤ 2000) × (length s.part.client.peer.given + length s.part.owed < 30000)
few_made file number put gives at s scene reached made =
    let few = few_asks file.ticks s.part (reached_paired file number put s scene.capture scene.place reached) in
    (omega (arith, few, scene.ticks), omega (arith, few, scene.ticks, scene.few_gives, made.counts))

-- the deeds were done, and left a session behind the pump
pub record HasPumped (Open : Type 0) (gives : ℕ) (file : CaptureFile) (put : RunSession → State) (deeds : List Deed) (s : RunSession) : Type 0 where
  pub none_refused : (ran file deeds (put s)).refused ≡ None
  pub new : RunSession
  pub state_is : (ran file deeds (put s)).state ≡ put new
  pub reached : IsReached file (put new)
  pub pumped : IsPumped Open gives file.ticks new.part

goes_or : (R : State → Type 0) (deed : SessionDeed) (acted : Acted State) (deeds : List Deed) → GoesOn deed (Ok acted) deeds R
    → ((deed ≡ Mark) × (deeds ≡ [])) ⊎ ((deed ≢ Mark) × R acted.value)
goes_or R Mark acted deeds goes = inl (refl, goes)
goes_or R Turn acted deeds goes = inr (λ e. absurd cc, goes)
goes_or R (TakeVideo k) acted deeds goes = inr (λ e. absurd cc, goes)
goes_or R (TakeAudio k) acted deeds goes = inr (λ e. absurd cc, goes)
goes_or R (TakeUp k) acted deeds goes = inr (λ e. absurd cc, goes)
goes_or R (TakeDown k) acted deeds goes = inr (λ e. absurd cc, goes)
goes_or R (Give event) acted deeds goes = inr (λ e. absurd cc, goes)
goes_or R AskIdr acted deeds goes = inr (λ e. absurd cc, goes)
goes_or R Close acted deeds goes = inr (λ e. absurd cc, goes)
goes_or R Reset acted deeds goes = inr (λ e. absurd cc, goes)

pump_deed-is : (file : CaptureFile) (number every : ℕ) (pumping : Pumping) (put : RunSession → State) (s : RunSession) → IsPlace number put
    → pump_deed file number every pumping (put s) ≡ next_pumped every pumping (ends_of (scene_of file number (put s)) s.part)
unfolding pump_deed
pump_deed-is file number every pumping put s place = ap (pump_deed_in (scene_of file number (put s)) every pumping) (place.there s)

-- the mark is the last deed
last_deed : (Open : Type 0) (gives : ℕ) (file : CaptureFile) (number : ℕ) (put : RunSession → State) (deed : Deed) (deeds : List Deed) (at : PartMarks)
    (s : RunSession)
    → IsScene file number put gives → IsReached file (put s) → IsMaking Open gives at s.part → deed ≡ In number Mark → deeds ≡ []
    → HasPumped Open gives file put (deed ∷ deeds) s
last_deed Open gives file number put deed deeds at s scene reached k is none =
    let new : RunSession = behind_in file number put Mark s in
    let does : Does file (In number Mark) (put s) (put new) = does_in file number put Mark s scene.place refl in
    let first = ran_first file (In number Mark) [] (put s) (put new) does in
    let end = ran_none file (put new) in
    let all : HasPumped Open gives file put (In number Mark ∷ []) s = record {
      none_refused = first.refused ∙ end.0;
      new = new;
      state_is = first.state ∙ end.1;
      reached = reached_more file (In number Mark) (put s) (put new) reached does;
      pumped = marks Open gives (scene_of file number (put s)) at s.part k;
    } in
    subst (λ (d : Deed). HasPumped Open gives file put (d ∷ deeds) s) (sym is)
    (subst (λ (ds : List Deed). HasPumped Open gives file put (In number Mark ∷ ds) s) (sym none) all)

-- another deed, and then the rest
next_deed : (Open : Type 0) (gives : ℕ) (file : CaptureFile) (put : RunSession → State) (deed : Deed) (deeds : List Deed) (s t : RunSession)
    → Does file deed (put s) (put t) → HasPumped Open gives file put deeds t → HasPumped Open gives file put (deed ∷ deeds) s
next_deed Open gives file put deed deeds s t does rest =
    let first = ran_first file deed deeds (put s) (put t) does in
    record {
      none_refused = first.refused ∙ rest.none_refused;
      new = rest.new;
      state_is = first.state ∙ rest.state_is;
      reached = rest.reached;
      pumped = rest.pumped;
    }

pub pump_ends : (Open : Type 0) (gives : ℕ) (file : CaptureFile) (number : ℕ) (put : RunSession → State) (every : ℕ) (deeds : List Deed) (pumping : Pumping)
    (s : RunSession) → IsScene file number put gives → IsReached file (put s) → IsMaking Open gives pumping.at s.part
    → most_deliveries (scene_of file number (put s)) pumping s.part ≤ 65535 → ArePumpDeeds file number every pumping (put s) deeds
    → HasPumped Open gives file put deeds s
pump_ends Open gives file number put every [] pumping s scene reached k few are = absurd are
pump_ends Open gives file number put every (deed ∷ deeds) pumping s scene reached k few (is, goes) =
    let view : Scene = scene_of file number (put s) in
    let d : SessionDeed = next_pumped every pumping (ends_of view s.part) in
    let same = pump_deed-is file number every pumping put s scene.place in
    let room = few_made file number put gives pumping.at s scene reached k.made in
    let one = delivers Open gives view every pumping s.part k room.1 few in
    let new : RunSession = behind_in file number put d s in
    let named : deed ≡ In number d = is ∙ ap (λ (x : SessionDeed). In number x) same in
    let does : Does file (In number d) (put s) (put new) = does_in file number put d s scene.place one.allowed in
    let done_is : done file deed (put s) ≡ Ok does.acted = ap (λ (x : Deed). done file x (put s)) named ∙ does.done in
    let of_d = subst (λ (x : SessionDeed). GoesOn x (done file deed (put s)) deeds (λ behind. ArePumpDeeds file number every (moved x pumping) behind deeds))
    same goes in
    let of_ok = subst (λ (r : Result (Acted State) Refusal). GoesOn d r deeds (λ behind. ArePumpDeeds file number every (moved d pumping) behind deeds))
    done_is of_d in
    elim (goes_or (λ behind. ArePumpDeeds file number every (moved d pumping) behind deeds) d does.acted deeds of_ok) [
      | inl last ↦ last_deed Open gives file number put deed deeds pumping.at s scene reached k (named ∙ ap (λ (x : SessionDeed). In number x) last.0) last.1
      | inr more ↦
          let does_deed : Does file deed (put s) (put new) = record { acted = does.acted; done = done_is; value = does.value } in
          let rest = subst (λ (state : State). ArePumpDeeds file number every (moved d pumping) state deeds) does.value more.1 in
          let fewer = pumps_advance view every pumping s.part more.0 in
          let left : most_deliveries (scene_of file number (put new)) (moved d pumping) new.part ≤ 65535 =
          subst (λ (v : Scene). most_deliveries v (moved d pumping) new.part ≤ 65535) (sym (scene.place.scene file s new)) (omega (arith, few, fewer)) in
          next_deed Open gives file put deed deeds s new does_deed
          (pump_ends Open gives file number put every deeds (moved d pumping) new scene
          (reached_more file deed (put s) (put new) reached does_deed) (one.making more.0) left rest)
    ]
