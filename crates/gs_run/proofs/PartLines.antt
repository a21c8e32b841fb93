-- The lines of frames, asks and played units that a session's deeds add are what its lists gain.
use Rattle.std.proofs.Common.{◌≡◌, ◌-◌, ℕ, Bool, true, false, not, cond, ◌&&◌, List, [], ◌∷◌, ◌++◌, Option, Some, None, refl, sym, ap, subst, ◌∙◌}
use Rattle.std.specs.Prelude.{nat_lt, slice_get}
use Rattle.std.specs.List.{flat_map}
use Rattle.std.proofs.lemmas.List.{append-nil}
use Rattle.gs_tape.specs.Tick.{Tick, tick_numbered}
use Rattle.gs_refs.specs.declared.entry.Entry.{Entry}
use Rattle.gs_refs.specs.History.{last_tick, has_ended}
use Rattle.gs_refs.specs.Choice.{choice}
use Rattle.gs_frames.specs.Client.{ClientSettings, Reset}
use Rattle.gs_enet.proofs.Lists.{Each}
use Rattle.gs_enet.specs.Steps.{is_full, can_send}
use Rattle.gs_enet.specs.World.{Send, Time, acted, came}
use Rattle.gs_schedule.specs.declared.output.Output.{Output}
use Rattle.gs_schedule.specs.declared.output.Output.TheVariants as output
use Rattle.gs_run.specs.Session.{Part, video_of, audio_of}
use Rattle.gs_client_core.specs.Owed.{request_channel, owed_message}
use Rattle.gs_client_core.specs.declared.asker.Owed.TheVariants.{Idr}
use Rattle.gs_client_core.specs.declared.asker.Owed.{Owed}
use Rattle.gs_run.specs.Report.{Report, plain, Acted, quietly, reporting}
use Rattle.gs_control.specs.declared.message.Message.TheVariants as message
use Rattle.gs_control.specs.Message.{bytes_of}
use Rattle.gs_run.specs.Message.{event_channel}
use Rattle.gs_run.specs.Scene.{Scene}
use Rattle.gs_run.specs.Deed.{SessionDeed, Turn, TakeVideo, TakeAudio, TakeUp, TakeDown, Give, AskIdr, Close, Mark}
use Rattle.gs_run.specs.Deed as deed
use Rattle.gs_run.specs.Connection.{both_written_out, with_owed, settled_part}
use Rattle.gs_run.specs.Hearing.{client_reports, entry_output, entered, up_taken, down_taken, timed_part, all_heard}
use Rattle.gs_run.specs.Opening.{new_part, opened_part}
use Rattle.gs_run.specs.Streaming.{newest_sent, turned, with_video_if, video_taken, with_audio_if, audio_taken, reset, turn_entry}
use Rattle.gs_run.specs.Giving.{given, closed_part}
use Rattle.gs_run.specs.Pump.{marked}
use Rattle.gs_run.specs.Done.{done_in, settled_in}
use Rattle.gs_run.specs.ReportLaws.{session_of}
use Rattle.gs_run.specs.Totals.{ToldInput, input_of}
use Rattle.gs_run.proofs.Reporting.{of_kind, of_kind-append, IsQuiet, Picks, one_passed, heard_lines, client_lines}

-- ---- the same streams

pub record SameStreams (old new : Part) : Type 0 where
  pub settings : new.settings ≡ old.settings
  pub came : new.came ≡ old.came
  pub sound : new.sound ≡ old.sound

same : (part : Part) → SameStreams part part
same part = record { settings = refl; came = refl; sound = refl }

with_owed_same : (os : List Owed) (part : Part) → SameStreams part (with_owed os part)
with_owed_same [] part = record { settings = refl; came = refl; sound = refl }
with_owed_same (first ∷ rest) part =
    by (can_send part.client.peer request_channel)
    (with_owed_same rest (record part { client = acted (Send request_channel (owed_message first)) part.client }))
  where
    by : (b : Bool)
        → SameStreams (record part { client = acted (Send request_channel (owed_message first)) part.client })
        (with_owed rest (record part { client = acted (Send request_channel (owed_message first)) part.client }))
        → SameStreams part (cond b (with_owed rest (record part { client = acted (Send request_channel (owed_message first)) part.client }))
        (record part { owed = first ∷ rest }))
    by true more = record { settings = more.settings; came = more.came; sound = more.sound }
    by false more = record { settings = refl; came = refl; sound = refl }

pub settled_same : (now : ℕ) (part : Part) → SameStreams part (settled_part now part)
unfolding settled_part
settled_same now part = let k = with_owed_same part.owed part in record { settings = k.settings; came = k.came; sound = k.sound }

-- ---- kinds of lines that a session's streams give

-- the line names the session
abbrev pub IsOf : ℕ → Report → Type 0
IsOf n r = session_of r.output ≡ n

pub record Tells (kind : Output → Bool) (give : ℕ → Part → List Report) : Type 0 where
  pub deed : (scene : Scene) (d : SessionDeed) (part : Part)
      → give scene.session (done_in scene d part).value ≡ give scene.session part ++ of_kind kind (done_in scene d part).reports
  pub at_time : (n now : ℕ) (part : Part) → give n (timed_part n now part).value ≡ give n part ++ of_kind kind (timed_part n now part).reports
  pub time_owned : (n now : ℕ) (part : Part) → Each (IsOf n) (of_kind kind (timed_part n now part).reports)
  pub settles : (n now : ℕ) (part : Part) → give n (settled_part now part) ≡ give n part
  pub opens : (n session now : ℕ) (settings : ClientSettings) → give n (opened_part session now settings) ≡ []
  pub owned : (scene : Scene) (d : SessionDeed) (part : Part) → Each (IsOf scene.session) (of_kind kind (done_in scene d part).reports)

pub settled_tells : (kind : Output → Bool) (give : ℕ → Part → List Report) → Tells kind give → (scene : Scene) (d : SessionDeed) (part : Part)
    → give scene.session (settled_in scene d part).value ≡ give scene.session part ++ of_kind kind (settled_in scene d part).reports
settled_tells kind give tells scene d part =
    let did = done_in scene d part in
    tells.settles scene.session scene.moment did.value ∙ tells.deed scene d part
    ∙ ap (λ (l : List Report). give scene.session part ++ of_kind kind l) (sym (append-nil did.reports))

pub timed_same : (n now : ℕ) (part : Part) → SameStreams part (timed_part n now part).value
unfolding timed_part
timed_same n now part = record { settings = refl; came = refl; sound = refl }

trans : (a b c : Part) → SameStreams a b → SameStreams b c → SameStreams a c
trans a b c x y = record { settings = y.settings ∙ x.settings; came = y.came ∙ x.came; sound = y.sound ∙ x.sound }

opened_same : (session now : ℕ) (settings : ClientSettings) → SameStreams (new_part (session - 1) now settings) (opened_part session now settings)
unfolding opened_part up_taken down_taken
opened_same session now settings =
    let new = new_part (session - 1) now settings in
    let written = both_written_out now new in
    let down = (down_taken session now 1 written).value in
    let verified = settled_part now down in
    let up = (up_taken session now 2 verified).value in
    let first : SameStreams new down = record { settings = refl; came = refl; sound = refl } in
    let second : SameStreams verified up = record { settings = refl; came = refl; sound = refl } in
    trans new up (settled_part now up) (trans new verified up (trans new down verified first (settled_same now down)) second) (settled_same now up)

-- ---- deeds that report no line of a client's streams

abbrev pub no_pick : ℕ → ToldInput → List Report
no_pick n told = []

nothing_picked : (n : ℕ) (ts : List ToldInput) → flat_map (no_pick n) ts ≡ []
nothing_picked n [] = refl
nothing_picked n (t ∷ ts) = nothing_picked n ts

-- a line of the kind is a client's
pub record IsStream (kind : Output → Bool) : Type 0 where
  pub quiet : IsQuiet kind
  pub inputs : Picks kind no_pick

up_lines : (kind : Output → Bool) → IsStream kind → (n now k : ℕ) (part : Part) → of_kind kind (up_taken n now k part).reports ≡ []
unfolding up_taken
up_lines kind is n now k part =
    let es = (came (slice_get part.client.wrote (k - 1)) now part.host).peer.waiting in
    ap (of_kind kind) (append-nil (all_heard n es part.history).reports)
    ∙ heard_lines kind no_pick is.quiet is.inputs n es part.history ∙ nothing_picked n (flat_map input_of es)

pub down_lines : (kind : Output → Bool) → IsQuiet kind → (n now k : ℕ) (part : Part) → of_kind kind (down_taken n now k part).reports ≡ []
unfolding down_taken
down_lines kind is n now k part = client_lines kind is n (came (slice_get part.host.wrote (k - 1)) now part.client).peer.waiting

pub timed_lines : (kind : Output → Bool) → IsStream kind → (n now : ℕ) (part : Part) → of_kind kind (timed_part n now part).reports ≡ []
unfolding timed_part
timed_lines kind is n now part =
    of_kind-append kind (flat_map (client_reports n) (acted (Time now) part.client).peer.waiting) ((all_heard n (acted
    (Time now) part.host).peer.waiting part.history).reports ++ [])
    ∙ ap (λ (l : List Report). l ++ of_kind kind ((all_heard n (acted (Time now) part.host).peer.waiting part.history).reports ++ []))
    (client_lines kind is.quiet n (acted (Time now) part.client).peer.waiting)
    ∙ ap (of_kind kind) (append-nil (all_heard n (acted (Time now) part.host).peer.waiting part.history).reports)
    ∙ heard_lines kind no_pick is.quiet is.inputs n (acted (Time now) part.host).peer.waiting part.history
    ∙ nothing_picked n (flat_map input_of (acted (Time now) part.host).peer.waiting)

pub turn_lines : (kind : Output → Bool) → IsQuiet kind → (scene : Scene) (part : Part) → of_kind kind (turned scene part).reports ≡ []
unfolding turned
turn_lines kind is scene part =
    ap (of_kind kind) (append-nil (newest_sent scene (tick_numbered scene.ticks scene.captured) part.history).reports)
    ∙ on (tick_numbered scene.ticks scene.captured)
  where
    on : (o : Option Tick) → of_kind kind (newest_sent scene o part.history).reports ≡ []
    on None = refl
    on (Some t) = by (nat_lt (last_tick part.history) scene.captured && not (has_ended part.history)) where
      by : (b : Bool) → of_kind kind (cond {A = Acted (List Entry)} b (entered scene.session (turn_entry scene.captured
          (choice part.history t)) part.history) (quietly part.history)).reports ≡ []
      by true = one_passed kind (entry_output scene.session part.history (turn_entry scene.captured (choice part.history t)))
          (is.entries scene.session part.history (turn_entry scene.captured (choice part.history t)))
      by false = refl

-- a message that is given or meets a full window
given_same : (n c : ℕ) (bytes : List ℕ) (part : Part) → SameStreams part (given n c bytes part).value
unfolding given
given_same n c bytes part = by (is_full part.client.peer c) where
  by : (b : Bool) → SameStreams part (cond {A = Acted Part} b (reporting (output.Full n c) part) (quietly (record part {
    client = acted
        (Send c bytes) part.client;
  }))).value
  by true = same part
  by false = record { settings = refl; came = refl; sound = refl }

pub given_lines : (kind : Output → Bool) → IsQuiet kind → (n c : ℕ) (bytes : List ℕ) (part : Part) → of_kind kind (given n c bytes part).reports ≡ []
unfolding given
given_lines kind is n c bytes part = by (is_full part.client.peer c) where
  by : (b : Bool) → of_kind kind (cond {A = Acted Part} b (reporting (output.Full n c) part) (quietly (record part {
    client = acted
        (Send c bytes) part.client;
  }))).reports ≡ []
  by true = one_passed kind (output.Full n c) (is.full n c)
  by false = refl

-- ---- each deed

pub unchanged : (kind : Output → Bool) (xs rs : List Report) → of_kind kind rs ≡ [] → xs ≡ xs ++ of_kind kind rs
unchanged kind xs rs none = sym (ap (λ (l : List Report). xs ++ l) none ∙ append-nil xs)

-- a deed that neither delivers of a stream nor resets
quiet_deed : (kind : Output → Bool) (give : ℕ → Part → List Report) (n : ℕ) (old : Part) (acted : Acted Part) → give n acted.value ≡ give n old
    → of_kind kind acted.reports ≡ [] → give n acted.value ≡ give n old ++ of_kind kind acted.reports
quiet_deed kind give n old acted stays none = stays ∙ unchanged kind (give n old) acted.reports none

turn_same : (scene : Scene) (part : Part) → SameStreams part (turned scene part).value
unfolding turned
turn_same scene part = record { settings = refl; came = refl; sound = refl }

up_same : (n now k : ℕ) (part : Part) → SameStreams part (up_taken n now k part).value
unfolding up_taken
up_same n now k part = record { settings = refl; came = refl; sound = refl }

down_same : (n now k : ℕ) (part : Part) → SameStreams part (down_taken n now k part).value
unfolding down_taken
down_same n now k part = record { settings = refl; came = refl; sound = refl }

close_same : (part : Part) → SameStreams part (closed_part part).value
unfolding closed_part
close_same part = record { settings = refl; came = refl; sound = refl }

pub close_lines : (kind : Output → Bool) (part : Part) → of_kind kind (closed_part part).reports ≡ []
unfolding closed_part
close_lines kind part = refl

mark_same : (scene : Scene) (part : Part) → SameStreams part (marked scene part)
unfolding marked
mark_same scene part = record { settings = refl; came = refl; sound = refl }

-- what is left to say of a kind
pub record TellsStreams (kind : Output → Bool) (give : ℕ → Part → List Report) : Type 0 where
  pub stream : IsStream kind
  pub same : (n : ℕ) (old new : Part) → SameStreams old new → give n new ≡ give n old
  pub empty : (n : ℕ) (part : Part) → part.came ≡ [] → part.sound ≡ [] → give n part ≡ []
  pub video : (n : ℕ) (o : Option (List ℕ)) (part : Part) → give n (with_video_if n o part).value ≡ give n part
      ++ of_kind kind (with_video_if n o part).reports
  pub audio : (n : ℕ) (o : Option (List ℕ)) (part : Part) → give n (with_audio_if n o part).value ≡ give n part
      ++ of_kind kind (with_audio_if n o part).reports
  pub resets : (n : ℕ) (part : Part) → give n (record part { came = Reset ∷ part.came }) ≡ give n part
  pub video_owned : (n : ℕ) (o : Option (List ℕ)) (part : Part) → Each (IsOf n) (of_kind kind (with_video_if n o part).reports)
  pub audio_owned : (n : ℕ) (o : Option (List ℕ)) (part : Part) → Each (IsOf n) (of_kind kind (with_audio_if n o part).reports)

-- no line at all
pub none_owned : (kind : Output → Bool) (n : ℕ) (rs : List Report) → of_kind kind rs ≡ [] → Each (IsOf n) (of_kind kind rs)
none_owned kind n rs none = subst (Each (IsOf n)) (sym none) tt

tells_owned : (kind : Output → Bool) (give : ℕ → Part → List Report) → TellsStreams kind give → (scene : Scene) (d : SessionDeed) (part : Part)
    → Each (IsOf scene.session) (of_kind kind (done_in scene d part).reports)
unfolding video_taken audio_taken reset
tells_owned kind give is scene Turn part = none_owned kind scene.session (turned scene part).reports (turn_lines kind is.stream.quiet scene part)
tells_owned kind give is scene (TakeVideo k) part = is.video_owned scene.session (slice_get (video_of scene.ticks part) (k - 1)) part
tells_owned kind give is scene (TakeAudio k) part = is.audio_owned scene.session (slice_get (audio_of scene.ticks part) (k - 1)) part
tells_owned kind give is scene (TakeUp k) part =
    none_owned kind scene.session (up_taken scene.session scene.moment k part).reports (up_lines kind is.stream scene.session scene.moment k part)
tells_owned kind give is scene (TakeDown k) part =
    none_owned kind scene.session (down_taken scene.session scene.moment k part).reports (down_lines kind is.stream.quiet scene.session scene.moment k part)
tells_owned kind give is scene (Give e) part =
    none_owned kind scene.session (given scene.session (event_channel e) (bytes_of (message.Input e)) part).reports
    (given_lines kind is.stream.quiet scene.session (event_channel e) (bytes_of (message.Input e)) part)
tells_owned kind give is scene AskIdr part =
    none_owned kind scene.session (given scene.session request_channel (bytes_of message.IdrRequest) part).reports
    (given_lines kind is.stream.quiet scene.session request_channel (bytes_of message.IdrRequest) part)
tells_owned kind give is scene Close part = none_owned kind scene.session (closed_part part).reports (close_lines kind part)
tells_owned kind give is scene deed.Reset part =
    none_owned kind scene.session (plain (output.Reset scene.session) ∷ []) (one_passed kind (output.Reset scene.session)
    (is.stream.quiet.reset scene.session))
tells_owned kind give is scene Mark part = tt

tells_deed : (kind : Output → Bool) (give : ℕ → Part → List Report) → TellsStreams kind give → (scene : Scene) (d : SessionDeed) (part : Part)
    → give scene.session (done_in scene d part).value ≡ give scene.session part ++ of_kind kind (done_in scene d part).reports
unfolding video_taken audio_taken reset
tells_deed kind give is scene Turn part =
    quiet_deed kind give scene.session part (turned scene part) (is.same scene.session part (turned scene part).value (turn_same scene part))
    (turn_lines kind is.stream.quiet scene part)
tells_deed kind give is scene (TakeVideo k) part = is.video scene.session (slice_get (video_of scene.ticks part) (k - 1)) part
tells_deed kind give is scene (TakeAudio k) part = is.audio scene.session (slice_get (audio_of scene.ticks part) (k - 1)) part
tells_deed kind give is scene (TakeUp k) part =
    quiet_deed kind give scene.session part (up_taken scene.session scene.moment k part)
    (is.same scene.session part (up_taken scene.session scene.moment k part).value (up_same scene.session scene.moment k part))
    (up_lines kind is.stream scene.session scene.moment k part)
tells_deed kind give is scene (TakeDown k) part =
    quiet_deed kind give scene.session part (down_taken scene.session scene.moment k part)
    (is.same scene.session part (down_taken scene.session scene.moment k part).value (down_same scene.session scene.moment k part))
    (down_lines kind is.stream.quiet scene.session scene.moment k part)
tells_deed kind give is scene (Give e) part =
    let did = given scene.session (event_channel e) (bytes_of (message.Input e)) part in
    quiet_deed kind give scene.session part did
    (is.same scene.session part did.value (given_same scene.session (event_channel e) (bytes_of (message.Input e)) part))
    (given_lines kind is.stream.quiet scene.session (event_channel e) (bytes_of (message.Input e)) part)
tells_deed kind give is scene AskIdr part =
    let did = given scene.session request_channel (bytes_of message.IdrRequest) part in
    quiet_deed kind give scene.session part did
    (is.same scene.session part did.value (given_same scene.session request_channel (bytes_of message.IdrRequest) part))
    (given_lines kind is.stream.quiet scene.session request_channel (bytes_of message.IdrRequest) part)
tells_deed kind give is scene Close part =
    quiet_deed kind give scene.session part (closed_part part) (is.same scene.session part (closed_part part).value (close_same part)) (close_lines kind part)
tells_deed kind give is scene deed.Reset part =
    let next = record part { came = Reset ∷ part.came } in
    let owing = record next { owed = part.owed ++ Idr ∷ [] } in
    is.same scene.session next owing (record { settings = refl; came = refl; sound = refl }) ∙ is.resets scene.session part
    ∙ unchanged kind (give scene.session part) (plain (output.Reset scene.session) ∷ []) (one_passed kind (output.Reset scene.session)
    (is.stream.quiet.reset scene.session))
tells_deed kind give is scene Mark part =
    quiet_deed kind give scene.session part (quietly (marked scene part)) (is.same scene.session part (marked scene part) (mark_same scene part)) refl

pub tells_of : (kind : Output → Bool) (give : ℕ → Part → List Report) → TellsStreams kind give → Tells kind give
tells_of kind give is = record {
  deed = tells_deed kind give is;
  at_time = λ n now part. is.same n part (timed_part n now part).value (timed_same n now part)
      ∙ unchanged kind (give n part) (timed_part n now part).reports (timed_lines kind is.stream n now part);
  time_owned = λ n now part. none_owned kind n (timed_part n now part).reports (timed_lines kind is.stream n now part);
  settles = λ n now part. is.same n part (settled_part now part) (settled_same now part);
  opens = λ n session now settings.
      is.empty n (opened_part session now settings) (opened_same session now settings).came (opened_same session now settings).sound;
  owned = tells_owned kind give is;
}
