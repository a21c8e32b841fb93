-- The lines of a host's history, and those that its client closed, are what the history has and what the host was told.
use Rattle.std.proofs.Common.{◌≡◌, ◌-◌, ℕ, Bool, true, false, not, cond, ◌&&◌, List, [], ◌∷◌, ◌++◌, map, Option, Some, None, refl, sym, ap, ◌∙◌, append_assoc}
use Rattle.std.specs.Prelude.{nat_lt, slice_get, ◌==◌, ◌%◌, max}
use Rattle.std.proofs.lemmas.Bool.{eq-eqb}
use Rattle.std.specs.List.{flat_map}
use Rattle.std.proofs.lemmas.List.{append-nil}
use Rattle.std.proofs.lemmas.Grind.{flat_map-append}
use Rattle.gs_tape.specs.Tick.{Tick, tick_numbered}
use Rattle.gs_refs.specs.declared.entry.Entry.{Entry}
use Rattle.gs_refs.specs.declared.entry.Entry.TheVariants as entry
use Rattle.gs_refs.specs.History.{frames, last_tick, has_ended}
use Rattle.gs_refs.specs.Answers.{named_range}
use Rattle.gs_refs.specs.Choice.{choice}
use Rattle.gs_frames.specs.declared.range.Range.{Range}
use Rattle.gs_frames.specs.Client.{ClientSettings, Datagram}
use Rattle.gs_frames.specs.Handed.{Handed, newly_handed}
use Rattle.gs_frames.specs.Asks.{as_list, newly_asked}
use Rattle.gs_audio.specs.Played.{PlayedUnit, newly_played}
use Rattle.gs_control.specs.declared.message.Message.TheVariants as message
use Rattle.gs_control.specs.Message.{bytes_of}
use Rattle.gs_enet.specs.declared.event.PeerEvent.{PeerEvent}
use Rattle.gs_enet.specs.declared.event.PeerEvent.TheVariants as event
use Rattle.gs_enet.specs.Record.{PeerRecord, at_moment, connecting}
use Rattle.gs_enet.specs.Receive.{verify_if, owed_answer, command_received}
use Rattle.gs_enet.specs.Steps.{is_full, can_send}
use Rattle.gs_enet.specs.Write.{next_items, wrote_next}
use Rattle.gs_enet.specs.Sides.{new_side, written_out}
use Rattle.gs_enet.specs.World.{Side, Send, Time, acted, came}
use Rattle.gs_schedule.specs.declared.output.Output.{Output}
use Rattle.gs_schedule.specs.declared.output.Output.TheVariants as output
use Rattle.gs_run.specs.Session.{Part, video_of, audio_of}
use Rattle.gs_client_core.specs.declared.asker.Owed.{Owed}
use Rattle.gs_client_core.specs.Owed.{request_channel, owed_message}
use Rattle.gs_run.specs.Report.{Report, plain, Acted, quietly, reporting, ask_report, hand_report, play_report}
use Rattle.gs_run.specs.Message.{Act, Invalidate, AskIdr, Input, Nothing, act_of, event_channel}
use Rattle.gs_run.specs.Scene.{Scene}
use Rattle.gs_run.specs.Deed.{SessionDeed, Turn, TakeVideo, TakeAudio, TakeUp, TakeDown, Give, Close, Mark}
use Rattle.gs_run.specs.Deed as deed
use Rattle.gs_run.specs.Connection.{both_written_out, with_owed, settled_part}
use Rattle.gs_run.specs.Hearing.{client_reports, client_hears, entry_output, entered, entered_unless_ended, acts_on, host_heard, all_heard, up_taken}
use Rattle.gs_run.specs.Hearing.{down_taken, timed_part}
use Rattle.gs_run.specs.Opening.{new_part, opened_part}
use Rattle.gs_run.specs.Streaming.{turn_entry, newest_sent, turned, with_video_if, video_taken, with_audio_if, audio_taken, reset}
use Rattle.gs_run.specs.Giving.{given, closed_part}
use Rattle.gs_run.specs.Pump.{marked}
use Rattle.gs_run.specs.Done.{done_in}
use Rattle.gs_run.specs.WholeRun.{is_entry, is_closed, entry_reports, closed_report, RunsReportEntries, RunsReportClosed}
use Rattle.gs_run.proofs.Uses.{kept_came, kept_timed}
use Rattle.gs_run.proofs.Reporting.{of_kind, of_kind-append, one_passed, none_passed}
use Rattle.gs_run.proofs.PartLines.{Tells, unchanged}
use Rattle.gs_run.proofs.Standing.{kept_out}
use Rattle.gs_run.proofs.StateLines.{reports_of}
use Rattle.gs_run.proofs.OwnLines.{deed_owned, time_owned, kind_owned}

-- ---- lines that tell of a history and of what was told

-- What a history and a list of what was told give, line by line, where no other line is of the kind.
record IsOfHost (kind : Output → Bool) (give : ℕ → List Entry → List PeerEvent → List Report) : Type 0 where
  asks : (n : ℕ) (range : Range) → kind (ask_report n range).output ≡ false
  hands : (n : ℕ) (frame : Handed) → kind (hand_report n frame).output ≡ false
  plays : (n : ℕ) (unit : PlayedUnit) → kind (play_report n unit).output ≡ false
  full : (n c : ℕ) → kind (output.Full n c) ≡ false
  lost : (n : ℕ) → kind (output.Lost n) ≡ false
  reset : (n : ℕ) → kind (output.Reset n) ≡ false
  enters : (n : ℕ) (h : List Entry) (told : List PeerEvent) (e : Entry)
      → give n (e ∷ h) told ≡ give n h told ++ of_kind kind (plain (entry_output n h e) ∷ [])
  hears : (n : ℕ) (h : List Entry) (told : List PeerEvent) (e : PeerEvent)
      → give n (host_heard n e h).value (told ++ e ∷ []) ≡ give n h told ++ of_kind kind (host_heard n e h).reports
  opens : (n session now : ℕ) (settings : ClientSettings)
      → give n (opened_part session now settings).history (opened_part session now settings).host.peer.told ≡ []

abbrev gives : (ℕ → List Entry → List PeerEvent → List Report) → ℕ → Part → List Report
gives give n part = give n part.history part.host.peer.told

hears_all : (kind : Output → Bool) (give : ℕ → List Entry → List PeerEvent → List Report) → IsOfHost kind give
    → (n : ℕ) (es : List PeerEvent) (h : List Entry) (told : List PeerEvent)
    → give n (all_heard n es h).value (told ++ es) ≡ give n h told ++ of_kind kind (all_heard n es h).reports
hears_all kind give is n [] h told = ap (give n h) (append-nil told) ∙ sym (append-nil (give n h told))
hears_all kind give is n (e ∷ es) h told =
    let mid = (host_heard n e h).value in
    let first = of_kind kind (host_heard n e h).reports in
    let rest = of_kind kind (all_heard n es mid).reports in
    ap (give n (all_heard n es mid).value) (sym (append_assoc told (e ∷ []) es))
    ∙ hears_all kind give is n es mid (told ++ e ∷ [])
    ∙ ap (λ (l : List Report). l ++ rest) (is.hears n h told e)
    ∙ append_assoc (give n h told) first rest
    ∙ ap (λ (l : List Report). give n h told ++ l) (sym (of_kind-append kind (host_heard n e h).reports (all_heard n es mid).reports))

-- a host that moved, and was told the same, hears what waits
hears_waiting : (kind : Output → Bool) (give : ℕ → List Entry → List PeerEvent → List Report) → IsOfHost kind give
    → (n : ℕ) (part : Part) (host : Side) → host.peer.told ≡ part.host.peer.told
    → give n (all_heard n host.peer.waiting part.history).value (host.peer.told ++ host.peer.waiting)
    ≡ gives give n part ++ of_kind kind ((all_heard n host.peer.waiting part.history).reports ++ [])
hears_waiting kind give is n part host same =
    let es = host.peer.waiting in
    hears_all kind give is n es part.history host.peer.told
    ∙ ap (λ (told : List PeerEvent). give n part.history told ++ of_kind kind (all_heard n es part.history).reports) same
    ∙ ap (λ (l : List Report). gives give n part ++ of_kind kind l) (sym (append-nil (all_heard n es part.history).reports))

client_lines : (kind : Output → Bool) → ((n : ℕ) → kind (output.Lost n) ≡ false) → (n : ℕ) (es : List PeerEvent)
    → of_kind kind (flat_map (client_reports n) es) ≡ []
client_lines kind lost n [] = refl
client_lines kind lost n (event.Lost c number ∷ es) =
    of_kind-append kind (plain (output.Lost n) ∷ []) (flat_map (client_reports n) es)
    ∙ ap (λ (l : List Report). l ++ of_kind kind (flat_map (client_reports n) es)) (one_passed kind (output.Lost n) (lost n))
    ∙ client_lines kind lost n es
client_lines kind lost n (event.Message c number bytes ∷ es) = client_lines kind lost n es
client_lines kind lost n (event.Connected ∷ es) = client_lines kind lost n es
client_lines kind lost n (event.Closed ∷ es) = client_lines kind lost n es
client_lines kind lost n (event.PeerClosed ∷ es) = client_lines kind lost n es

-- ---- each deed

turn_gives : (kind : Output → Bool) (give : ℕ → List Entry → List PeerEvent → List Report) → IsOfHost kind give → (scene : Scene) (part : Part)
    → gives give scene.session (turned scene part).value ≡ gives give scene.session part ++ of_kind kind (turned scene part).reports
unfolding turned
turn_gives kind give is scene part =
    on (tick_numbered scene.ticks scene.captured)
    ∙ ap (λ (l : List Report). gives give n part ++ of_kind kind l)
    (sym (append-nil (newest_sent scene (tick_numbered scene.ticks scene.captured) part.history).reports))
  where
    n : ℕ
    n = scene.session

    told : List PeerEvent
    told = part.host.peer.told

    on : (o : Option Tick) → give n (newest_sent scene o part.history).value told
        ≡ gives give n part ++ of_kind kind (newest_sent scene o part.history).reports
    on None = sym (append-nil (gives give n part))
    on (Some t) = by (nat_lt (last_tick part.history) scene.captured && not (has_ended part.history)) where
      sent : Acted (List Entry)
      sent = entered n (turn_entry scene.captured (choice part.history t)) part.history

      by : (b : Bool) → give n (cond {A = Acted (List Entry)} b sent (quietly part.history)).value told
          ≡ gives give n part ++ of_kind kind (cond {A = Acted (List Entry)} b sent (quietly part.history)).reports
      by true = is.enters n part.history told (turn_entry scene.captured (choice part.history t))
      by false = sym (append-nil (gives give n part))

-- the history and what was told stay, and no line is of the kind
stays : (kind : Output → Bool) (give : ℕ → List Entry → List PeerEvent → List Report) (n : ℕ) (part : Part) (did : Acted Part)
    → did.value.history ≡ part.history → did.value.host ≡ part.host → of_kind kind did.reports ≡ []
    → gives give n did.value ≡ gives give n part ++ of_kind kind did.reports
stays kind give n part did history host none =
    ap (λ (h : List Entry). give n h did.value.host.peer.told) history
    ∙ ap (λ (s : Side). give n part.history s.peer.told) host
    ∙ unchanged kind (gives give n part) did.reports none

video_gives : (kind : Output → Bool) (give : ℕ → List Entry → List PeerEvent → List Report) → IsOfHost kind give
    → (n : ℕ) (o : Option (List ℕ)) (part : Part)
    → gives give n (with_video_if n o part).value ≡ gives give n part ++ of_kind kind (with_video_if n o part).reports
video_gives kind give is n None part = sym (append-nil (gives give n part))
video_gives kind give is n (Some bytes) part =
    let lost = as_list (newly_asked part.settings (Datagram bytes) part.came) in
    let frames = newly_handed part.settings (Datagram bytes) part.came in
    stays kind give n part (with_video_if n (Some bytes) part) refl refl
    (of_kind-append kind (map (ask_report n) lost) (map (hand_report n) frames)
    ∙ ap (λ (l : List Report). l ++ of_kind kind (map (hand_report n) frames)) (none_passed kind (ask_report n) (is.asks n) lost)
    ∙ none_passed kind (hand_report n) (is.hands n) frames)

audio_gives : (kind : Output → Bool) (give : ℕ → List Entry → List PeerEvent → List Report) → IsOfHost kind give
    → (n : ℕ) (o : Option (List ℕ)) (part : Part)
    → gives give n (with_audio_if n o part).value ≡ gives give n part ++ of_kind kind (with_audio_if n o part).reports
audio_gives kind give is n None part = sym (append-nil (gives give n part))
audio_gives kind give is n (Some bytes) part =
    stays kind give n part (with_audio_if n (Some bytes) part) refl refl
    (none_passed kind (play_report n) (is.plays n) (newly_played part.settings.stream bytes part.sound))

given_gives : (kind : Output → Bool) (give : ℕ → List Entry → List PeerEvent → List Report) → IsOfHost kind give
    → (n c : ℕ) (bytes : List ℕ) (part : Part)
    → gives give n (given n c bytes part).value ≡ gives give n part ++ of_kind kind (given n c bytes part).reports
unfolding given
given_gives kind give is n c bytes part = by (is_full part.client.peer c) where
  full : Acted Part
  full = reporting (output.Full n c) part

  sent : Acted Part
  sent = quietly (record part { client = acted (Send c bytes) part.client })

  by : (b : Bool) → gives give n (cond {A = Acted Part} b full sent).value
      ≡ gives give n part ++ of_kind kind (cond {A = Acted Part} b full sent).reports
  by true = stays kind give n part full refl refl (one_passed kind (output.Full n c) (is.full n c))
  by false = stays kind give n part sent refl refl refl

deed_gives : (kind : Output → Bool) (give : ℕ → List Entry → List PeerEvent → List Report) → IsOfHost kind give
    → (scene : Scene) (d : SessionDeed) (part : Part)
    → gives give scene.session (done_in scene d part).value ≡ gives give scene.session part ++ of_kind kind (done_in scene d part).reports
unfolding video_taken audio_taken up_taken down_taken closed_part reset marked
deed_gives kind give is scene Turn part = turn_gives kind give is scene part
deed_gives kind give is scene (TakeVideo k) part = video_gives kind give is scene.session (slice_get (video_of scene.ticks part) (k - 1)) part
deed_gives kind give is scene (TakeAudio k) part = audio_gives kind give is scene.session (slice_get (audio_of scene.ticks part) (k - 1)) part
deed_gives kind give is scene (TakeUp k) part =
    let w = slice_get part.client.wrote (k - 1) in
    hears_waiting kind give is scene.session part (came w scene.moment part.host) (kept_came w scene.moment part.host).told
deed_gives kind give is scene (TakeDown k) part =
    stays kind give scene.session part (down_taken scene.session scene.moment k part) refl refl
    (client_lines kind is.lost scene.session (came (slice_get part.host.wrote (k - 1)) scene.moment part.client).peer.waiting)
deed_gives kind give is scene (Give e) part = given_gives kind give is scene.session (event_channel e) (bytes_of (message.Input e)) part
deed_gives kind give is scene deed.AskIdr part = given_gives kind give is scene.session request_channel (bytes_of message.IdrRequest) part
deed_gives kind give is scene Close part = stays kind give scene.session part (closed_part part) refl refl refl
deed_gives kind give is scene deed.Reset part =
    stays kind give scene.session part (reset scene.session part) refl refl
    (one_passed kind (output.Reset scene.session) (is.reset scene.session))
deed_gives kind give is scene Mark part = stays kind give scene.session part (quietly (marked scene part)) refl refl refl

-- ---- time

time_gives : (kind : Output → Bool) (give : ℕ → List Entry → List PeerEvent → List Report) → IsOfHost kind give
    → (n now : ℕ) (part : Part)
    → gives give n (timed_part n now part).value ≡ gives give n part ++ of_kind kind (timed_part n now part).reports
unfolding timed_part
time_gives kind give is n now part =
    let es = (acted (Time now) part.client).peer.waiting in
    let rest = (all_heard n (acted (Time now) part.host).peer.waiting part.history).reports ++ [] in
    hears_waiting kind give is n part (acted (Time now) part.host) (kept_timed now part.host.peer).told
    ∙ ap (λ (l : List Report). gives give n part ++ l) (sym (of_kind-append kind (flat_map (client_reports n) es) rest
    ∙ ap (λ (l : List Report). l ++ of_kind kind rest) (client_lines kind is.lost n es)))

record StaysTold (old new : Part) : Type 0 where
  history : new.history ≡ old.history
  told : new.host.peer.told ≡ old.host.peer.told

with_owed_stays : (os : List Owed) (part : Part) → StaysTold part (with_owed os part)
with_owed_stays [] part = record { history = refl; told = refl }
with_owed_stays (first ∷ rest) part = by (can_send part.client.peer request_channel) (with_owed_stays rest next) where
  next : Part
  next = record part { client = acted (Send request_channel (owed_message first)) part.client }

  by : (b : Bool) → StaysTold next (with_owed rest next)
      → StaysTold part (cond {A = Part} b (with_owed rest next) (record part { owed = first ∷ rest }))
  by true more = record { history = more.history; told = more.told }
  by false more = record { history = refl; told = refl }

settled_stays : (now : ℕ) (part : Part) → StaysTold part (settled_part now part)
unfolding settled_part
settled_stays now part =
    let k = with_owed_stays part.owed part in
    record { history = k.history; told = (kept_out now (with_owed part.owed part).host).told ∙ k.told }

settles : (give : ℕ → List Entry → List PeerEvent → List Report) (n now : ℕ) (part : Part) → gives give n (settled_part now part) ≡ gives give n part
settles give n now part =
    let k = settled_stays now part in
    ap (λ (h : List Entry). give n h (settled_part now part).host.peer.told) k.history ∙ ap (give n part.history) k.told

tells_host : (kind : Output → Bool) (give : ℕ → List Entry → List PeerEvent → List Report) → IsOfHost kind give → Tells kind (gives give)
tells_host kind give is = record {
  deed = deed_gives kind give is;
  at_time = time_gives kind give is;
  time_owned = λ n now part. kind_owned kind n (timed_part n now part).reports (time_owned n now part);
  settles = settles give;
  opens = is.opens;
  owned = λ scene d part. kind_owned kind scene.session (done_in scene d part).reports (deed_owned scene d part);
}

-- ---- a session that is opened

-- the client behind the host's answer, whose connect id is its own
abbrev answered : (host_id id now : ℕ) → Bool → PeerRecord
answered host_id id now own =
    let client = written_out now (new_side (connecting 0 id id now)) in
    verify_if own host_id (owed_answer (max now now % 65536) 255 1) (at_moment now client.peer)

-- what the opening makes of the client that read the answer
abbrev opened_from : (session now : ℕ) → ClientSettings → PeerRecord → Part
opened_from session now settings client =
    let written = both_written_out now (new_part (session - 1) now settings) in
    let down = (client_hears session (record written { client = record (written.client) { peer = client } })).value in
    settled_part now (up_taken session now 2 (settled_part now down)).value

-- In the opening the host is told that it is connected, and nothing else.
record IsQuietOpening (part : Part) : Type 0 where
  told : part.host.peer.told ≡ event.Connected ∷ []
  history : part.history ≡ []

quiet_opening : (session now : ℕ) (settings : ClientSettings) → IsQuietOpening (opened_part session now settings)
unfolding opened_part up_taken down_taken settled_part written_out command_received next_items wrote_next
quiet_opening session now settings = by (settings.stream.ssrc == settings.stream.ssrc) (eq-eqb settings.stream.ssrc settings.stream.ssrc refl) where
  by : (own : Bool) → own ≡ true
      → IsQuietOpening (opened_from session now settings (answered (session - 1) settings.stream.ssrc now own))
  by true e = record { told = refl; history = refl }
  by false e = absurd cc

-- ---- the entries of a history

own_entry : (n : ℕ) (h : List Entry) (e : Entry) → of_kind is_entry (plain (entry_output n h e) ∷ []) ≡ plain (entry_output n h e) ∷ []
own_entry n h (entry.Sent tick kind reference) = refl
own_entry n h (entry.Invalid first last) = refl
own_entry n h entry.IdrAsked = refl
own_entry n h (entry.Ended first last) = refl

unless_entries : (n : ℕ) (e : Entry) (h : List Entry) → entry_reports n (entered_unless_ended n e h).value
    ≡ entry_reports n h ++ of_kind is_entry (entered_unless_ended n e h).reports
unless_entries n e h = by (has_ended h) where
  by : (b : Bool) → entry_reports n (cond {A = Acted (List Entry)} b (quietly h) (entered n e h)).value
      ≡ entry_reports n h ++ of_kind is_entry (cond {A = Acted (List Entry)} b (quietly h) (entered n e h)).reports
  by true = sym (append-nil (entry_reports n h))
  by false = ap (λ (l : List Report). entry_reports n h ++ l) (sym (own_entry n h e))

act_entries : (n c : ℕ) (a : Act) (h : List Entry) → entry_reports n (acts_on n c a h).value
    ≡ entry_reports n h ++ of_kind is_entry (acts_on n c a h).reports
act_entries n c (Invalidate first last) h = unless_entries n (named_range (frames h) first last) h
act_entries n c AskIdr h = unless_entries n entry.IdrAsked h
act_entries n c (Input e) h = sym (append-nil (entry_reports n h))
act_entries n c Nothing h = sym (append-nil (entry_reports n h))

hears_entries : (n : ℕ) (h : List Entry) (e : PeerEvent) → entry_reports n (host_heard n e h).value
    ≡ entry_reports n h ++ of_kind is_entry (host_heard n e h).reports
hears_entries n h (event.Message c number bytes) = act_entries n c (act_of bytes) h
hears_entries n h event.PeerClosed = sym (append-nil (entry_reports n h))
hears_entries n h (event.Lost c number) = sym (append-nil (entry_reports n h))
hears_entries n h event.Connected = sym (append-nil (entry_reports n h))
hears_entries n h event.Closed = sym (append-nil (entry_reports n h))

pub tells_entries : Tells is_entry (λ n part. entry_reports n part.history)
tells_entries = tells_host is_entry (λ n h told. entry_reports n h) (record {
  asks = λ n r. refl;
  hands = λ n f. refl;
  plays = λ n u. refl;
  full = λ n c. refl;
  lost = λ n. refl;
  reset = λ n. refl;
  enters = λ n h told e. ap (λ (l : List Report). entry_reports n h ++ l) (sym (own_entry n h e));
  hears = λ n h told e. hears_entries n h e;
  opens = λ n session now settings. ap (entry_reports n) (quiet_opening session now settings).history;
})

-- ---- that the client closed

entry_isnt : (n : ℕ) (h : List Entry) (e : Entry) → of_kind is_closed (plain (entry_output n h e) ∷ []) ≡ []
entry_isnt n h (entry.Sent tick kind reference) = refl
entry_isnt n h (entry.Invalid first last) = refl
entry_isnt n h entry.IdrAsked = refl
entry_isnt n h (entry.Ended first last) = refl

unless_isnt : (n : ℕ) (e : Entry) (h : List Entry) → of_kind is_closed (entered_unless_ended n e h).reports ≡ []
unless_isnt n e h = by (has_ended h) where
  by : (b : Bool) → of_kind is_closed (cond {A = Acted (List Entry)} b (quietly h) (entered n e h)).reports ≡ []
  by true = refl
  by false = entry_isnt n h e

act_isnt : (n c : ℕ) (a : Act) (h : List Entry) → of_kind is_closed (acts_on n c a h).reports ≡ []
act_isnt n c (Invalidate first last) h = unless_isnt n (named_range (frames h) first last) h
act_isnt n c AskIdr h = unless_isnt n entry.IdrAsked h
act_isnt n c (Input e) h = refl
act_isnt n c Nothing h = refl

hears_closed : (n : ℕ) (h : List Entry) (e : PeerEvent) → closed_report n e ++ [] ≡ of_kind is_closed (host_heard n e h).reports
hears_closed n h (event.Message c number bytes) = sym (act_isnt n c (act_of bytes) h)
hears_closed n h event.PeerClosed = refl
hears_closed n h (event.Lost c number) = refl
hears_closed n h event.Connected = refl
hears_closed n h event.Closed = refl

pub tells_closed : Tells is_closed (λ n part. flat_map (closed_report n) part.host.peer.told)
tells_closed = tells_host is_closed (λ n h told. flat_map (closed_report n) told) (record {
  asks = λ n r. refl;
  hands = λ n f. refl;
  plays = λ n u. refl;
  full = λ n c. refl;
  lost = λ n. refl;
  reset = λ n. refl;
  enters = λ n h told e. sym (ap (λ (l : List Report). flat_map (closed_report n) told ++ l) (entry_isnt n h e)
      ∙ append-nil (flat_map (closed_report n) told));
  hears = λ n h told e. flat_map-append (closed_report n) told (e ∷ [])
      ∙ ap (λ (l : List Report). flat_map (closed_report n) told ++ l) (hears_closed n h e);
  opens = λ n session now settings. ap (flat_map (closed_report n)) (quiet_opening session now settings).told;
})

pub runs_report_entries : RunsReportEntries
runs_report_entries = reports_of is_entry _ tells_entries

pub runs_report_closed : RunsReportClosed
runs_report_closed = reports_of is_closed _ tells_closed
