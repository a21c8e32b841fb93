-- Every deed of a run keeps every part of every session, and what follows from it.
use Rattle.std.proofs.Common.{◌≡◌, ◌+◌, ◌-◌, ℕ, zero, suc, Bool, true, false, not, ◌&&◌, List, [], ◌∷◌, ◌++◌, length, Option, Some, None, refl, sym, ap, subst}
use Rattle.std.proofs.Common.{◌≤◌, ◌∙◌, arith}
use Rattle.std.specs.Prelude.{nat_lt}
use Rattle.std.specs.List.{AllByRecursion, Contains}
use Rattle.std.specs.Option.{IfSome}
use Rattle.std.proofs.lemmas.Bool.{and_parts, ltb-true, not-true}
use Rattle.std.proofs.lemmas.List.{append_assoc}
use Rattle.gs_bytes.specs.Prefix.{IsPrefixOf}
use Rattle.gs_tape.specs.Tick.{Tick}
use Rattle.gs_refs.specs.History.{frames, frame_kind}
use Rattle.gs_frames.specs.Client.{Arrival}
use Rattle.gs_frames.specs.Received.{taken}
use Rattle.gs_frames.specs.Complete.{IsComplete}
use Rattle.gs_frames.specs.Settled.{settled}
use Rattle.gs_frames.specs.Handed.{settled_at_resets, is_handed, handed}
use Rattle.gs_frames.specs.HandedLaws.{handed_below}
use Rattle.gs_frames.specs.declared.range.Range.{Range}
use Rattle.gs_frames.specs.Asks.{asks}
use Rattle.gs_stream.proofs.HandedSent.{handed_were_sent}
use Rattle.gs_stream.proofs.CameWhole.{came_complete, came_handed, idr_is_handed}
use Rattle.gs_pair.proofs.Joined.{references_were_handed}
use Rattle.gs_audio.specs.PlayedLaws.{PlayedUnitsWereSent}
use Rattle.gs_audio.proofs.PlayedRise.{played-rise}
use Rattle.gs_stream.specs.Audio.{audio_units}
use Rattle.gs_stream.specs.Paired.{invalid_ranges}
use Rattle.gs_enet.specs.Record.{messages_on, given_on}
use Rattle.gs_enet.proofs.Lists.{Each}
use Rattle.gs_enet.proofs.Kept.{messages_on-append}
use Rattle.gs_enet.proofs.TwoSides.{in_order_from}
use Rattle.gs_run.specs.CaptureFile.{CaptureFile}
use Rattle.gs_run.specs.Session.{Part, RunSession, State, start, session_numbered, replaced}
use Rattle.gs_client_core.specs.Owed.{request_channel}
use Rattle.gs_run.specs.Scene.{Scene, scene_of}
use Rattle.gs_run.specs.Deed.{SessionDeed, Turn, TakeVideo, TakeAudio, TakeUp, TakeDown, Give, AskIdr, Close, Reset, Mark, Deed, Open, Capture, Pass, In}
use Rattle.gs_run.specs.Hearing.{timed_part}
use Rattle.gs_run.specs.Opening.{most_sessions, numbers_are_allowed, opened_session}
use Rattle.gs_run.specs.Pump.{marked}
use Rattle.gs_run.specs.Refusal.{Refusal, is_client_open, has_made_most, is_allowed, refused_unless, refusal_in, refusal}
use Rattle.gs_run.specs.Done.{done_in, settled_in, after_in, all_timed, after, unless_refused, ran_on, ran}
use Rattle.gs_run.specs.Totals.{parts_of}
use Rattle.gs_run.specs.RunLaws.{IsCapture, OfEachPart, IsPairedPart, RunsArePaired, HandsCaptured, RunsHandCapturedUnits, HandsReferences, RunsHandReferences}
use Rattle.gs_run.specs.RunLaws.{captured_frame, handing_of, CompletesFrames, RunsCompleteFrames}
use Rattle.gs_run.specs.RunLaws.{PlaysCaptured, RunsPlayCapturedUnits, TellsInOrder, RunsTellInOrder}
use Rattle.gs_bytes.proofs.Lists.{AllByRecursion-weaker, AllByRecursion-push}
use Rattle.gs_run.proofs.Heard.{IsFitting}
use Rattle.gs_run.proofs.Asking.{IsOther, frames_few, is_prefix}
use Rattle.gs_run.proofs.Standing.{IsKeptPart, settled_keeps}
use Rattle.gs_run.proofs.Deeds.{each_front, up_keeps, down_keeps, timed_keeps, turn_keeps}
use Rattle.gs_run.proofs.ClientDeeds.{video_keeps, audio_keeps, reset_keeps, event_keeps, idr_keeps, close_keeps}
use Rattle.gs_run.proofs.Openings.{opened_keeps}
use Rattle.gs_run.proofs.SentSound.{session_units, sound_is_of_units}
use Rattle.gs_run.proofs.OneParts.{of_number}

-- ---- a session

deed_keeps : (scene : Scene) (deed : SessionDeed) (part : Part) → is_allowed scene deed part ≡ true → IsKeptPart scene.ticks part
    → IsKeptPart scene.ticks (done_in scene deed part).value
unfolding marked
deed_keeps scene Turn part test k = turn_keeps scene part k
deed_keeps scene (TakeVideo n) part test k = video_keeps scene n part test k
deed_keeps scene (TakeAudio n) part test k = audio_keeps scene n part k
deed_keeps scene (TakeUp n) part test k = up_keeps scene.ticks scene.session scene.moment n part k
deed_keeps scene (TakeDown n) part test k = down_keeps scene.ticks scene.session scene.moment n part k
deed_keeps scene (Give e) part test k = event_keeps scene.ticks scene.session e part test k
deed_keeps scene AskIdr part test k = idr_keeps scene.ticks scene.session part test k
deed_keeps scene Close part test k = close_keeps scene.ticks part k
deed_keeps scene Reset part test k =
    let parts = and_parts (is_client_open part) (not (has_made_most request_channel part)) test in
    reset_keeps scene.ticks scene.session part (not-true (has_made_most request_channel part) parts.1) k
deed_keeps scene Mark part test k = k

settled_in_keeps : (scene : Scene) (deed : SessionDeed) (part : Part) → is_allowed scene deed part ≡ true → IsKeptPart scene.ticks part
    → IsKeptPart scene.ticks (settled_in scene deed part).value
settled_in_keeps scene deed part test k = settled_keeps scene.ticks scene.moment (done_in scene deed part).value (deed_keeps scene deed part test k)

-- ---- lists of sessions

abbrev IsKeptSession : List Tick → RunSession → Type 0
IsKeptSession ticks session = AllByRecursion (IsKeptPart ticks) (parts_of session)

abbrev AreKept : List Tick → List RunSession → Type 0
AreKept ticks sessions = AllByRecursion (IsKeptSession ticks) sessions

all_replaced : (P : RunSession → Type 0) (sessions : List RunSession) (n : ℕ) (session : RunSession) → AllByRecursion P sessions → P session
    → AllByRecursion P (replaced sessions n session)
all_replaced P [] n session all new = tt
all_replaced P (old ∷ sessions) zero session all new = (new, all.1)
all_replaced P (old ∷ sessions) (suc n) session all new = (all.0, all_replaced P sessions n session all.1 new)

-- ---- all deeds

after_in_keeps : (scene : Scene) (deed : SessionDeed) (o : Option RunSession) (state : State) → refusal_in scene deed o ≡ None
    → IfSome o (IsKeptSession scene.ticks)
    → AreKept scene.ticks state.sessions → AreKept scene.ticks (after_in scene deed o state).value.sessions
after_in_keeps scene deed None state test k all = all
after_in_keeps scene deed (Some session) state test k all =
    all_replaced (IsKeptSession scene.ticks) state.sessions (scene.session - 1)
    (record session { part = (settled_in scene deed session.part).value }) all
    (settled_in_keeps scene deed session.part (allowed (is_allowed scene deed session.part) test) k.0, k.1)
  where
    allowed : (b : Bool) → refused_unless b ≡ None → b ≡ true
    allowed true e = refl
    allowed false e = absurd cc

timed_all_keeps : (ticks : List Tick) (number now : ℕ) (sessions : List RunSession) → AreKept ticks sessions
    → AreKept ticks (all_timed number now sessions).value
timed_all_keeps ticks number now [] all = tt
timed_all_keeps ticks number now (session ∷ sessions) all = (
  (settled_keeps ticks now (timed_part number now session.part).value (timed_keeps ticks number now session.part all.0.0), all.0.1),
  timed_all_keeps ticks (number + 1) now sessions all.1,
)

pub unrefused : (b : Bool) → refused_unless b ≡ None → b ≡ true
unrefused true e = refl
unrefused false e = absurd cc

after_keeps : (file : CaptureFile) (deed : Deed) (state : State) → IsCapture file → refusal file deed state ≡ None → AreKept file.ticks state.sessions
    → AreKept file.ticks (after file deed state).value.sessions
unfolding after refusal opened_session
after_keeps file (Open packet percentage minimum window) state capture test all =
    let parts = and_parts (nat_lt (length state.sessions) most_sessions) (numbers_are_allowed packet percentage minimum window)
    (unrefused (nat_lt (length state.sessions) most_sessions && numbers_are_allowed packet percentage minimum window) test) in
    let few = ltb-true (length state.sessions) most_sessions parts.0 in
    AllByRecursion-push (IsKeptSession file.ticks) state.sessions _ all
    (opened_keeps file (length state.sessions + 1) state.moment packet percentage minimum window capture (omega arith) (omega (arith, few)) parts.1, tt)
after_keeps file Capture state capture test all = all
after_keeps file (Pass by) state capture test all = timed_all_keeps file.ticks 1 (state.moment + by) state.sessions all
after_keeps file (In number deed) state capture test all =
    after_in_keeps (scene_of file number state) deed (session_numbered state number) state test (of_number (IsKeptSession file.ticks) state number all) all

pub ran_keeps : (file : CaptureFile) (deeds : List Deed) (state : State) → IsCapture file → AreKept file.ticks state.sessions
    → AreKept file.ticks (ran file deeds state).state.sessions
unfolding ran
ran_keeps file [] state capture all = all
ran_keeps file (deed ∷ deeds) state capture all = by (refusal file deed state) refl (λ acted all. ran_keeps file deeds acted capture all) where
  by : (o : Option Refusal) → refusal file deed state ≡ o
      → ((behind : State) → AreKept file.ticks behind.sessions → AreKept file.ticks (ran file deeds behind).state.sessions)
      → AreKept file.ticks (ran_on (unless_refused o (after file deed state)) state (ran file deeds)).state.sessions
  by (Some why) e more = all
  by None e more = more (after file deed state).value (after_keeps file deed state capture e all)

-- ---- what follows

-- what holds of each part that is kept holds of each part of every run
of_kept : (Holds : List Tick → Part → Type 0) → ((ticks : List Tick) (part : Part) → IsKeptPart ticks part → Holds ticks part) → OfEachPart Holds
of_kept Holds each file deeds capture =
    AllByRecursion-weaker (IsKeptSession file.ticks) (λ session. AllByRecursion (Holds file.ticks) (parts_of session)) (ran file deeds start).state.sessions
    (λ session all. AllByRecursion-weaker (IsKeptPart file.ticks) (Holds file.ticks) (parts_of session) (each file.ticks) all)
    (ran_keeps file deeds start capture tt)

asked_for : (ticks : List Tick) (part : Part) → IsKeptPart ticks part → IsPrefixOf (invalid_ranges part.history) (asks part.settings part.came)
asked_for ticks part k =
    let told = part.host.peer.told in
    let front = k.both.0.in_order 1 in
    let parts : given_on 1 part.client.peer.given ≡ messages_on 1 told ++ (messages_on 1 part.host.peer.waiting ++ front.0) =
    front.1 ∙ ap (λ (l : List (List ℕ)). l ++ front.0) (messages_on-append 1 told part.host.peer.waiting)
    ∙ append_assoc (messages_on 1 told) (messages_on 1 part.host.peer.waiting) front.0 in
    let prefix = is_prefix (frames part.history) told (given_on 1 part.client.peer.given)
    (messages_on 1 part.host.peer.waiting ++ front.0) k.asked part.owed (asks part.settings part.came)
    (frames_few part.settings.stream ticks part.history k.history) others parts k.on_channel
    (each_front (IsFitting (frames part.history)) k.asked part.owed k.fitting) k.lost in
    (prefix.0, prefix.1 ∙ ap (λ (l : List Range). l ++ prefix.0) (sym k.acted))
  where
    others : (c : ℕ) → (c ≡ 1 → ⊥) → Each IsOther (messages_on c part.host.peer.told)
    others c apart =
        let front = k.both.0.in_order c in
        each_front IsOther (messages_on c part.host.peer.told) (messages_on c part.host.peer.waiting)
        (subst (Each IsOther) (messages_on-append c part.host.peer.told part.host.peer.waiting)
        (each_front IsOther (messages_on c (part.host.peer.told ++ part.host.peer.waiting)) front.0 (subst (Each IsOther) front.1 (k.others c apart))))

paired : (ticks : List Tick) (part : Part) → IsKeptPart ticks part → IsPairedPart ticks part
paired ticks part k = record {
  window = k.window;
  history = k.history;
  paired = record { sent = k.sent; asked = asked_for ticks part k };
  sound = k.sound_sent;
  goes_on = k.goes_on;
}

pub runs_are_paired : RunsArePaired
runs_are_paired = of_kept IsPairedPart paired

pub runs_hand_captured_units : RunsHandCapturedUnits
runs_hand_captured_units = of_kept HandsCaptured (λ ticks part k. handed_were_sent part.settings ticks part.history part.came k.history k.sent)

pub runs_hand_references : RunsHandReferences
runs_hand_references = of_kept HandsReferences (λ ticks part k.
    references_were_handed part.settings ticks part.history part.came k.window k.history (paired ticks part k).paired)

of_all : {all parts : List Arrival} → all ≡ parts → (Holds : List Arrival → Type 0) → Holds parts → Holds all
of_all is Holds holds = subst Holds (sym is) holds

-- as the laws of what came of a history say, at what came in all
completes : (ticks : List Tick) (part : Part) → IsKeptPart ticks part → CompletesFrames ticks part
completes ticks part k =
    let c = part.settings in
    let h = part.history in
    record {
      complete = λ before after f is whole. of_all is (λ (came : List Arrival). IsComplete c (taken c came) f (captured_frame ticks h f))
          (came_complete c ticks h before after f k.history whole);
      handed = λ before after f is whole is_settled passes. of_all is (λ (came : List Arrival). Contains (handed c came) (handing_of ticks h f))
          (came_handed c ticks h before after f k.history whole
          (subst (λ (came : List Arrival). f ≤ settled c (taken c came)) is is_settled)
          (subst (λ (came : List Arrival). is_handed (settled_at_resets c came) (handed_below c came f) f (frame_kind h f) ≡ true) is passes));
      idr = λ before after f is whole is_settled is_idr. of_all is (λ (came : List Arrival). Contains (handed c came) (handing_of ticks h f))
          (came_handed c ticks h before after f k.history whole
          (subst (λ (came : List Arrival). f ≤ settled c (taken c came)) is is_settled)
          (idr_is_handed (settled_at_resets c (after ++ before)) (handed_below c (after ++ before) f) f (frame_kind h f) is_idr));
    }

pub runs_complete_frames : RunsCompleteFrames
runs_complete_frames = of_kept CompletesFrames completes

-- by the law of what is played of a sender's datagrams
pub runs_play_captured_units : PlayedUnitsWereSent → RunsPlayCapturedUnits
runs_play_captured_units were_sent = of_kept PlaysCaptured (λ ticks part k. record {
  units = were_sent part.settings.stream (audio_units ticks part.history) part.sound k.history.limits
      (session_units part.settings.stream ticks part.history k.history)
      (sound_is_of_units part.settings.stream ticks part.history part.sound k.sound_sent);
  rising = played-rise part.settings.stream part.sound;
})

pub runs_tell_in_order : RunsTellInOrder
runs_tell_in_order = of_kept TellsInOrder (λ ticks part k. in_order_from part.client.peer part.host.peer k.both.0)
