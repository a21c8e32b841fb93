-- What a client gave on each channel but that of requests are the events of its user.
use Rattle.std.proofs.Common.{◌≡◌, ◌+◌, ◌-◌, ℕ, zero, suc, Bool, true, false, not, cond, ◌&&◌, List, [], ◌∷◌, ◌++◌, length, map, Option, Some, None, refl, sym}
use Rattle.std.proofs.Common.{ap, subst, ◌∙◌, arith}
use Rattle.std.specs.Prelude.{◌==◌, ◌||◌, nat_lt, slice_get}
use Rattle.std.proofs.lemmas.Bool.{and_parts, and_from, eqb-true, eqb-false, not_from_false}
use Rattle.std.proofs.lemmas.List.{append_assoc, append-nil, map-append}
use Rattle.gs_input.specs.declared.event.Event.{Event}
use Rattle.gs_input.specs.declared.event.Event.TheVariants as event
use Rattle.gs_frames.specs.Client.{ClientSettings}
use Rattle.gs_control.specs.declared.message.Message.TheVariants as message
use Rattle.gs_control.specs.Message.{bytes_of}
use Rattle.gs_enet.specs.Record.{channels, given_on}
use Rattle.gs_enet.specs.Steps.{is_open, is_full, can_send, with_message}
use Rattle.gs_enet.specs.World.{Side, Send, Close, acted, sent_if}
use Rattle.gs_enet.proofs.Kept.{giving, given_on-own, given_on-apart}
use Rattle.gs_client_core.specs.declared.asker.Owed.{Owed}
use Rattle.gs_client_core.specs.Owed.{request_channel, owed_message}
use Rattle.gs_schedule.specs.declared.output.Output.TheVariants as output
use Rattle.gs_run.specs.CaptureFile.{CaptureFile}
use Rattle.gs_run.specs.Session.{Part, RunSession, State, start, video_of, audio_of, session_numbered, replaced, with_session}
use Rattle.gs_run.specs.Report.{Acted, quietly, reporting}
use Rattle.gs_run.specs.Message.{event_channel}
use Rattle.gs_run.specs.Scene.{Scene, scene_of}
use Rattle.gs_run.specs.Deed.{SessionDeed, Turn, TakeVideo, TakeAudio, TakeUp, TakeDown, Give, AskIdr, Mark, Deed, Open, Capture, Pass, In}
use Rattle.gs_run.specs.Deed as deed
use Rattle.gs_run.specs.Connection.{both_written_out, with_owed, settled_part}
use Rattle.gs_run.specs.Hearing.{up_taken, down_taken, timed_part}
use Rattle.gs_run.specs.Opening.{client_of, new_part, opened_part, opened_session, session_settings}
use Rattle.gs_run.specs.Streaming.{turned, with_video_if, video_taken, with_audio_if, audio_taken, reset}
use Rattle.gs_run.specs.Giving.{given, closed_part}
use Rattle.gs_run.specs.Pump.{marked}
use Rattle.gs_run.specs.Refusal.{Refusal, is_client_open, has_made_most, is_allowed, refusal_in, refusal}
use Rattle.gs_run.specs.Done.{done_in, settled_in, after_in, all_timed, after, unless_refused, ran_on, ran}
use Rattle.gs_run.specs.UserEvents.{event_message, event_in, event_by, and_events, user_events, RunsGiveEvents}
use Rattle.gs_run.proofs.Uses.{kept_came, kept_close, kept_timed}
use Rattle.gs_run.proofs.Standing.{kept_out, given_more}
use Rattle.gs_run.proofs.StateLines.{here_replaced, others_stay}
use Rattle.gs_run.proofs.Runs.{unrefused}

-- what a client gave on a channel
abbrev given_of : ℕ → Part → List (List ℕ)
given_of c part = given_on c part.client.peer.given

abbrev messages : List Event → List (List ℕ)
messages events = map event_message events

-- ---- what a deed's end gives

-- a message on another channel
apart_given : (c d : ℕ) (bytes : List ℕ) (s : Side) → (d ≡ c → ⊥) → given_on c (acted (Send d bytes) s).peer.given ≡ given_on c s.peer.given
unfolding with_message
apart_given c d bytes s apart = by (nat_lt d channels && can_send s.peer d) where
  by : (b : Bool) → given_on c (sent_if b d bytes s.peer).given ≡ given_on c s.peer.given
  by true = given_on-apart c d bytes s.peer.given apart
  by false = refl

with_owed_given : (c : ℕ) → (c ≡ request_channel → ⊥) → (os : List Owed) (part : Part) → given_of c (with_owed os part) ≡ given_of c part
with_owed_given c apart [] part = refl
with_owed_given c apart (first ∷ rest) part =
    by (can_send part.client.peer request_channel)
    (with_owed_given c apart rest next ∙ apart_given c request_channel (owed_message first) part.client (λ e. apart (sym e)))
  where
    next : Part
    next = record part { client = acted (Send request_channel (owed_message first)) part.client }

    by : (b : Bool) → given_of c (with_owed rest next) ≡ given_of c part
        → given_of c (cond {A = Part} b (with_owed rest next) (record part { owed = first ∷ rest })) ≡ given_of c part
    by true more = more
    by false more = refl

settled_given : (c now : ℕ) → (c ≡ request_channel → ⊥) → (part : Part) → given_of c (settled_part now part) ≡ given_of c part
unfolding settled_part
settled_given c now apart part =
    ap (given_on c) (kept_out now (with_owed part.owed part).client).given ∙ with_owed_given c apart part.owed part

-- ---- a deed in a session

has_channel : (e : Event) → nat_lt (event_channel e) channels ≡ true
has_channel (event.KeyDown code modifiers) = refl
has_channel (event.KeyUp code modifiers) = refl
has_channel (event.At x y width height) = refl
has_channel (event.Move dx dy) = refl
has_channel (event.Press button) = refl
has_channel (event.Release button) = refl
has_channel (event.Scroll amount) = refl
has_channel (event.Unknown magic) = refl

-- nothing is given
same_given : (c : ℕ) (old new : Part) → new.client.peer.given ≡ old.client.peer.given → given_of c new ≡ given_of c old ++ []
same_given c old new same = ap (given_on c) same ∙ sym (append-nil (given_of c old))

event_given : (n c : ℕ) (e : Event) (part : Part) → is_client_open part ≡ true → given_of c (given n (event_channel e) (event_message e) part).value
    ≡ given_of c part ++ messages (cond (event_channel e == c && not (is_full part.client.peer (event_channel e))) (e ∷ []) [])
unfolding given
event_given n c e part open' = by (event_channel e == c) (is_full part.client.peer d) refl refl where
  d : ℕ
  d = event_channel e

  full : Acted Part
  full = reporting (output.Full n d) part

  sent : Acted Part
  sent = quietly (record part { client = acted (Send d (event_message e)) part.client })

  more : is_full part.client.peer d ≡ false
      → (acted (Send d (event_message e)) part.client).peer.given ≡ part.client.peer.given ++ giving d (event_message e)
  more room = given_more d (event_message e) part.client (has_channel e)
      (and_from (is_open part.client.peer.state) (not (is_full part.client.peer d)) open' (not_from_false (is_full part.client.peer d) room))

  own : d ≡ c → is_full part.client.peer d ≡ false → given_of c sent.value ≡ given_of c part ++ event_message e ∷ []
  own is room = ap (given_on c) (more room)
      ∙ subst (λ (x : ℕ). given_on x (part.client.peer.given ++ giving d (event_message e)) ≡ given_on x part.client.peer.given ++ event_message e ∷ [])
      is (given_on-own d (event_message e) part.client.peer.given)

  by : (mine isfull : Bool) → (event_channel e == c) ≡ mine → is_full part.client.peer d ≡ isfull
      → given_of c (cond {A = Acted Part} isfull full sent).value ≡ given_of c part ++ messages (cond (mine && not isfull) (e ∷ []) [])
  by true true is room = same_given c part part refl
  by false true is room = same_given c part part refl
  by false false is room =
      apart_given c d (event_message e) part.client (eqb-false d c is) ∙ sym (append-nil (given_of c part))
  by true false is room = own (eqb-true d c is) room

video_client : (n : ℕ) (o : Option (List ℕ)) (part : Part) → (with_video_if n o part).value.client ≡ part.client
video_client n None part = refl
video_client n (Some bytes) part = refl

audio_client : (n : ℕ) (o : Option (List ℕ)) (part : Part) → (with_audio_if n o part).value.client ≡ part.client
audio_client n None part = refl
audio_client n (Some bytes) part = refl

idr_given : (n c : ℕ) (bytes : List ℕ) (part : Part) → (c ≡ request_channel → ⊥)
    → given_of c (given n request_channel bytes part).value ≡ given_of c part ++ []
unfolding given
idr_given n c bytes part apart = by (is_full part.client.peer request_channel) where
  by : (b : Bool) → given_of c (cond {A = Acted Part} b (reporting (output.Full n request_channel) part)
      (quietly (record part { client = acted (Send request_channel bytes) part.client }))).value ≡ given_of c part ++ []
  by true = same_given c part part refl
  by false = apart_given c request_channel bytes part.client (λ e. apart (sym e)) ∙ sym (append-nil (given_of c part))

deed_given : (scene : Scene) (c : ℕ) (d : SessionDeed) (session : RunSession) → (c ≡ request_channel → ⊥) → is_allowed scene d session.part ≡ true
    → given_of c (done_in scene d session.part).value ≡ given_of c session.part ++ messages (event_in c d (Some session))
unfolding turned video_taken audio_taken up_taken down_taken reset closed_part marked
deed_given scene c Turn session apart test = same_given c session.part (turned scene session.part).value refl
deed_given scene c (TakeVideo k) session apart test =
    let o = slice_get (video_of scene.ticks session.part) (k - 1) in
    same_given c session.part (with_video_if scene.session o session.part).value
    (ap (λ (s : Side). s.peer.given) (video_client scene.session o session.part))
deed_given scene c (TakeAudio k) session apart test =
    let o = slice_get (audio_of scene.ticks session.part) (k - 1) in
    same_given c session.part (with_audio_if scene.session o session.part).value
    (ap (λ (s : Side). s.peer.given) (audio_client scene.session o session.part))
deed_given scene c (TakeUp k) session apart test =
    same_given c session.part (up_taken scene.session scene.moment k session.part).value refl
deed_given scene c (TakeDown k) session apart test =
    same_given c session.part (down_taken scene.session scene.moment k session.part).value
    (kept_came (slice_get session.part.host.wrote (k - 1)) scene.moment session.part.client).given
deed_given scene c (Give e) session apart test =
    event_given scene.session c e session.part (and_parts (is_client_open session.part)
    (is_full session.part.client.peer (event_channel e) || not (has_made_most (event_channel e) session.part)) test).0
deed_given scene c AskIdr session apart test = idr_given scene.session c (bytes_of message.IdrRequest) session.part apart
deed_given scene c deed.Close session apart test = same_given c session.part (closed_part session.part).value (kept_close session.part.client.peer).given
deed_given scene c deed.Reset session apart test = same_given c session.part (reset scene.session session.part).value refl
deed_given scene c Mark session apart test = same_given c session.part (marked scene session.part) refl

settled_in_given : (scene : Scene) (c : ℕ) (d : SessionDeed) (session : RunSession) → (c ≡ request_channel → ⊥)
    → is_allowed scene d session.part ≡ true
    → given_of c (settled_in scene d session.part).value ≡ given_of c session.part ++ messages (event_in c d (Some session))
settled_in_given scene c d session apart test =
    settled_given c scene.moment apart (done_in scene d session.part).value ∙ deed_given scene c d session apart test

-- ---- sessions by number

abbrev given_at : ℕ → Option RunSession → List (List ℕ)
given_at c None = []
given_at c (Some session) = given_of c session.part

in_given : (scene : Scene) (c : ℕ) (d : SessionDeed) (k n : ℕ) (o : Option RunSession) (state : State) → (c ≡ request_channel → ⊥)
    → scene.session ≡ suc k → slice_get state.sessions k ≡ o → refusal_in scene d o ≡ None
    → given_at c (session_numbered (after_in scene d o state).value n)
    ≡ given_at c (session_numbered state n) ++ messages (cond (suc k == n) (event_in c d o) [])
in_given scene c d k n None state apart is there test = absurd cc
in_given scene c d k n (Some session) state apart is there test = by (suc k == n) refl where
  new : RunSession
  new = record session { part = (settled_in scene d session.part).value }

  place : scene.session - 1 ≡ k
  place = omega (arith, is)

  here : given_at c (slice_get (replaced state.sessions (scene.session - 1) new) k)
      ≡ given_at c (slice_get state.sessions k) ++ messages (event_in c d (Some session))
  here =
      ap (λ (x : ℕ). given_at c (slice_get (replaced state.sessions x new) k)) place
      ∙ ap (given_at c) (here_replaced state.sessions k session new there)
      ∙ settled_in_given scene c d session apart (unrefused (is_allowed scene d session.part) test)
      ∙ ap (λ (x : Option RunSession). given_at c x ++ messages (event_in c d (Some session))) (sym there)

  other : (n : ℕ) → (suc k ≡ n → ⊥) → given_at c (session_numbered (with_session scene.session new state) n) ≡ given_at c (session_numbered state n) ++ []
  other zero differs = refl
  other (suc j) differs =
      ap (given_at c) (others_stay state.sessions (scene.session - 1) j new (λ e. differs (ap (λ (x : ℕ). suc x) (sym (e ∙ place)))))
      ∙ sym (append-nil (given_at c (slice_get state.sessions j)))

  by : (b : Bool) → (suc k == n) ≡ b → given_at c (session_numbered (with_session scene.session new state) n)
      ≡ given_at c (session_numbered state n) ++ messages (cond b (event_in c d (Some session)) [])
  by true e =
      subst (λ (x : ℕ). given_at c (session_numbered (with_session scene.session new state) x)
      ≡ given_at c (session_numbered state x) ++ messages (event_in c d (Some session))) (eqb-true (suc k) n e) here
  by false e = other n (eqb-false (suc k) n e)

-- ---- time

timed_given : (n now c : ℕ) (part : Part) → given_of c (timed_part n now part).value ≡ given_of c part
unfolding timed_part
timed_given n now c part = ap (given_on c) (kept_timed now part.client.peer).given

all_timed_given : (m now c j : ℕ) (sessions : List RunSession) → (c ≡ request_channel → ⊥)
    → given_at c (slice_get (all_timed m now sessions).value j) ≡ given_at c (slice_get sessions j)
all_timed_given m now c j [] apart = refl
all_timed_given m now c zero (session ∷ sessions) apart =
    settled_given c now apart (timed_part m now session.part).value ∙ timed_given m now c session.part
all_timed_given m now c (suc j) (session ∷ sessions) apart = all_timed_given (m + 1) now c j sessions apart

-- ---- a session that is opened

opened_given : (c session now : ℕ) (settings : ClientSettings) → (c ≡ request_channel → ⊥) → given_of c (opened_part session now settings) ≡ []
unfolding opened_part up_taken down_taken
opened_given c session now settings apart =
    let new = new_part (session - 1) now settings in
    let written = both_written_out now new in
    let down = (down_taken session now 1 written).value in
    let verified = settled_part now down in
    settled_given c now apart (up_taken session now 2 verified).value
    ∙ settled_given c now apart down
    ∙ ap (given_on c) (kept_came (slice_get written.host.wrote 0) now written.client).given
    ∙ ap (given_on c) (kept_out now new.client).given

pushed_given : (c j : ℕ) (sessions : List RunSession) (new : RunSession) → given_of c new.part ≡ []
    → given_at c (slice_get (sessions ++ new ∷ []) j) ≡ given_at c (slice_get sessions j)
pushed_given c zero [] new none = none
pushed_given c (suc j) [] new none = refl
pushed_given c zero (session ∷ sessions) new none = refl
pushed_given c (suc j) (session ∷ sessions) new none = pushed_given c j sessions new none

-- ---- all deeds

after_given : (file : CaptureFile) (n c : ℕ) (d : Deed) (state : State) → (c ≡ request_channel → ⊥) → refusal file d state ≡ None
    → given_at c (session_numbered (after file d state).value n) ≡ given_at c (session_numbered state n) ++ messages (event_by n c d state)
unfolding after opened_session refusal
after_given file zero c (Open packet percentage minimum window) state apart test = refl
after_given file (suc j) c (Open packet percentage minimum window) state apart test =
    let number = length state.sessions + 1 in
    pushed_given c j state.sessions _
    (opened_given c number state.moment (client_of (session_settings file number packet percentage minimum) window) apart)
    ∙ sym (append-nil (given_at c (slice_get state.sessions j)))
after_given file zero c Capture state apart test = refl
after_given file (suc j) c Capture state apart test = sym (append-nil (given_at c (slice_get state.sessions j)))
after_given file zero c (Pass by) state apart test = refl
after_given file (suc j) c (Pass by) state apart test =
    all_timed_given 1 (state.moment + by) c j state.sessions apart ∙ sym (append-nil (given_at c (slice_get state.sessions j)))
after_given file n c (In zero d) state apart test = absurd cc
after_given file n c (In (suc k) d) state apart test =
    in_given (scene_of file (suc k) state) c d k n (slice_get state.sessions k) state apart refl refl test

ran_given : (file : CaptureFile) (n c : ℕ) (ds : List Deed) (state : State) → (c ≡ request_channel → ⊥)
    → given_at c (session_numbered (ran file ds state).state n) ≡ given_at c (session_numbered state n) ++ messages (user_events file n c ds state)
unfolding ran user_events
ran_given file n c [] state apart = sym (append-nil (given_at c (session_numbered state n)))
ran_given file n c (d ∷ ds) state apart =
    by (refusal file d state) refl (ran_given file n c ds (after file d state).value apart)
  where
    next : State
    next = (after file d state).value

    by : (o : Option Refusal) → refusal file d state ≡ o
        → given_at c (session_numbered (ran file ds next).state n) ≡ given_at c (session_numbered next n) ++ messages (user_events file n c ds next)
        → given_at c (session_numbered (ran_on (unless_refused o (after file d state)) state (ran file ds)).state n)
        ≡ given_at c (session_numbered state n)
        ++ messages (and_events (event_by n c d state) (unless_refused o (after file d state)) (user_events file n c ds))
    by (Some why) is more = sym (append-nil (given_at c (session_numbered state n)))
    by None is more =
        let first = event_by n c d state in
        let rest = user_events file n c ds next in
        more ∙ ap (λ (l : List (List ℕ)). l ++ messages rest) (after_given file n c d state apart is)
        ∙ append_assoc (given_at c (session_numbered state n)) (messages first) (messages rest)
        ∙ ap (λ (l : List (List ℕ)). given_at c (session_numbered state n) ++ l) (sym (map-append event_message first rest))

pub runs_give_events : RunsGiveEvents
runs_give_events file deeds number channel session apart there =
    ap (given_at channel) (sym there) ∙ ran_given file number channel deeds start apart ∙ none number
  where
    none : (n : ℕ) → given_at channel (session_numbered start n) ++ messages (user_events file number channel deeds start)
        ≡ messages (user_events file number channel deeds start)
    none zero = refl
    none (suc j) = refl
