-- The lines of input events are those that the host was told.
use Rattle.std.proofs.Common.{◌≡◌, ◌-◌, ℕ, Bool, true, false, cond, List, [], ◌∷◌, ◌++◌, map, Option, Some, None, refl, sym, ap, subst, ◌∙◌, arith}
use Rattle.std.specs.Prelude.{◌==◌, slice_get}
use Rattle.std.proofs.lemmas.Bool.{eqb-false}
use Rattle.std.specs.List.{flat_map}
use Rattle.std.proofs.lemmas.List.{append-nil, map-append}
use Rattle.std.proofs.lemmas.List.Concat.{flat_map_single}
use Rattle.std.proofs.lemmas.Grind.{flat_map-append}
use Rattle.gs_refs.specs.declared.entry.Entry.{Entry}
use Rattle.gs_refs.specs.declared.entry.Entry.TheVariants as entry
use Rattle.gs_frames.specs.Client.{ClientSettings, Datagram}
use Rattle.gs_frames.specs.Handed.{newly_handed}
use Rattle.gs_frames.specs.Asks.{as_list, newly_asked}
use Rattle.gs_audio.specs.Played.{newly_played}
use Rattle.gs_control.specs.declared.message.Message.TheVariants as message
use Rattle.gs_control.specs.Message.{bytes_of}
use Rattle.gs_enet.proofs.Lists.{Each}
use Rattle.gs_enet.proofs.Kept.{messages_on-append}
use Rattle.gs_enet.specs.declared.event.PeerEvent.{PeerEvent}
use Rattle.gs_enet.specs.declared.event.PeerEvent.TheVariants as event
use Rattle.gs_enet.specs.Record.{given_on, heard, messages_on}
use Rattle.gs_enet.specs.Steps.{is_full, can_send}
use Rattle.gs_enet.specs.World.{Side, Send, Time, acted, came}
use Rattle.gs_schedule.specs.declared.output.Output.TheVariants as output
use Rattle.gs_run.specs.Session.{Part, video_of, audio_of}
use Rattle.gs_client_core.specs.Owed.{request_channel, owed_message}
use Rattle.gs_client_core.specs.declared.asker.Owed.{Owed}
use Rattle.gs_run.specs.Report.{Report, Acted, quietly, reporting, ask_report, hand_report, play_report}
use Rattle.gs_run.specs.Message.{event_channel}
use Rattle.gs_run.specs.Scene.{Scene}
use Rattle.gs_run.specs.Deed.{SessionDeed, Turn, TakeVideo, TakeAudio, TakeUp, TakeDown, Give, AskIdr, Close, Mark}
use Rattle.gs_run.specs.Deed as deed
use Rattle.gs_run.specs.Connection.{both_written_out, with_owed, settled_part}
use Rattle.gs_enet.specs.Sides.{written_out, all_told}
use Rattle.gs_run.specs.Hearing.{client_reports, entry_output, up_taken, down_taken, timed_part, all_heard}
use Rattle.gs_run.specs.Opening.{new_part, opened_part}
use Rattle.gs_run.specs.Streaming.{turned, with_video_if, video_taken, with_audio_if, audio_taken, reset}
use Rattle.gs_run.specs.Giving.{given, closed_part}
use Rattle.gs_run.specs.Pump.{marked}
use Rattle.gs_run.specs.Done.{done_in}
use Rattle.gs_run.specs.ReportLaws.{is_input, input_report, RunsReportInputs}
use Rattle.gs_run.specs.Totals.{ToldInput, input_of, inputs_of}
use Rattle.gs_run.proofs.Calm.{IsCalm}
use Rattle.gs_run.proofs.TwoSides.{AreBoth, swapped, out_both, told_both, taken_both, new_gives}
use Rattle.gs_run.proofs.Uses.{kept_came, calm_came, kept_timed, calm_kept}
use Rattle.gs_run.proofs.Standing.{calm_all_told, kept_out}
use Rattle.gs_run.proofs.Reporting.{of_kind, of_kind-append, IsQuiet, one_passed, heard_lines, client_lines, none_passed}
use Rattle.gs_run.proofs.PartLines.{IsOf, Tells, unchanged, none_owned, down_lines, turn_lines, given_lines, close_lines}
use Rattle.gs_run.proofs.StateLines.{reports_of}

abbrev pub inputs : ℕ → Part → List Report
inputs n part = map (input_report n) (inputs_of part)

abbrev pick : ℕ → ToldInput → List Report
pick n told = input_report n told ∷ []

input_entries : (n : ℕ) (h : List Entry) (e : Entry) → is_input (entry_output n h e) ≡ false
input_entries n h (entry.Sent tick kind reference) = refl
input_entries n h (entry.Invalid first last) = refl
input_entries n h entry.IdrAsked = refl
input_entries n h (entry.Ended first last) = refl

quiet : IsQuiet is_input
quiet = record { entries = input_entries; full = λ n c. refl; closed = λ n. refl; lost = λ n. refl; reset = λ n. refl }

-- ---- the same was told

inputs_same : (n : ℕ) (old new : Part) → new.host.peer.told ≡ old.host.peer.told → inputs n new ≡ inputs n old
inputs_same n old new same = ap (λ (es : List PeerEvent). map (input_report n) (flat_map input_of es)) same

with_owed_host : (os : List Owed) (part : Part) → (with_owed os part).host ≡ part.host
with_owed_host [] part = refl
with_owed_host (first ∷ rest) part =
    by (can_send part.client.peer request_channel)
    (with_owed_host rest (record part { client = acted (Send request_channel (owed_message first)) part.client }))
  where
    by : (b : Bool)
        → (with_owed rest (record part { client = acted (Send request_channel (owed_message first)) part.client })).host ≡ part.host
        → (cond {A = Part} b (with_owed rest (record part { client = acted (Send request_channel (owed_message first)) part.client }))
        (record part { owed = first ∷ rest })).host ≡ part.host
    by true more = more
    by false more = refl

settled_told : (now : ℕ) (part : Part) → (settled_part now part).host.peer.told ≡ part.host.peer.told
unfolding settled_part
settled_told now part =
    (kept_out now (with_owed part.owed part).host).told ∙ ap (λ (s : Side). s.peer.told) (with_owed_host part.owed part)

-- ---- what is told next

heard_inputs : (n : ℕ) (es : List PeerEvent) (h : List Entry)
    → of_kind is_input (all_heard n es h).reports ≡ map (input_report n) (flat_map input_of es)
heard_inputs n es h =
    heard_lines is_input pick quiet (λ m c e. refl) n es h ∙ flat_map_single (input_report n) (flat_map input_of es)

told_more : (n : ℕ) (es fs : List PeerEvent) → map (input_report n) (flat_map input_of (es ++ fs))
    ≡ map (input_report n) (flat_map input_of es) ++ map (input_report n) (flat_map input_of fs)
told_more n es fs =
    ap (map (input_report n)) (flat_map-append input_of es fs) ∙ map-append (input_report n) (flat_map input_of es) (flat_map input_of fs)

-- a host that moved, and was told the same, hears what waits
hears_inputs : (n : ℕ) (part : Part) (host : Side) → host.peer.told ≡ part.host.peer.told
    → map (input_report n) (flat_map input_of (host.peer.told ++ host.peer.waiting))
    ≡ inputs n part ++ of_kind is_input ((all_heard n host.peer.waiting part.history).reports ++ [])
hears_inputs n part host same =
    told_more n host.peer.told host.peer.waiting
    ∙ ap (λ (es : List PeerEvent). map (input_report n) (flat_map input_of es) ++ map (input_report n) (flat_map input_of host.peer.waiting)) same
    ∙ ap (λ (l : List Report). inputs n part ++ l)
    (sym (ap (of_kind is_input) (append-nil (all_heard n host.peer.waiting part.history).reports) ∙ heard_inputs n host.peer.waiting part.history))

heard_owned : (n : ℕ) (es : List PeerEvent) (h : List Entry) → Each (IsOf n) (of_kind is_input (all_heard n es h).reports)
heard_owned n es h = subst (Each (IsOf n)) (sym (heard_inputs n es h)) (each (flat_map input_of es)) where
  each : (ts : List ToldInput) → Each (IsOf n) (map (input_report n) ts)
  each [] = tt
  each (t ∷ ts) = (refl, each ts)

up_inputs : (n now k : ℕ) (part : Part) → inputs n (up_taken n now k part).value ≡ inputs n part ++ of_kind is_input (up_taken n now k part).reports
unfolding up_taken
up_inputs n now k part =
    let w = slice_get part.client.wrote (k - 1) in
    hears_inputs n part (came w now part.host) (kept_came w now part.host).told

up_owned : (n now k : ℕ) (part : Part) → Each (IsOf n) (of_kind is_input (up_taken n now k part).reports)
unfolding up_taken
up_owned n now k part =
    let es = (came (slice_get part.client.wrote (k - 1)) now part.host).peer.waiting in
    subst (λ (l : List Report). Each (IsOf n) (of_kind is_input l)) (sym (append-nil (all_heard n es part.history).reports)) (heard_owned n es part.history)

-- ---- time

time_lines : (n now : ℕ) (part : Part) → of_kind is_input (timed_part n now part).reports
    ≡ of_kind is_input ((all_heard n (acted (Time now) part.host).peer.waiting part.history).reports ++ [])
unfolding timed_part
time_lines n now part =
    let es = (acted (Time now) part.client).peer.waiting in
    let rest = (all_heard n (acted (Time now) part.host).peer.waiting part.history).reports ++ [] in
    of_kind-append is_input (flat_map (client_reports n) es) rest
    ∙ ap (λ (l : List Report). l ++ of_kind is_input rest) (client_lines is_input quiet n es)

time_inputs : (n now : ℕ) (part : Part) → inputs n (timed_part n now part).value ≡ inputs n part ++ of_kind is_input (timed_part n now part).reports
unfolding timed_part
time_inputs n now part =
    hears_inputs n part (acted (Time now) part.host) (kept_timed now part.host.peer).told
    ∙ ap (λ (l : List Report). inputs n part ++ l) (sym (time_lines n now part))

time_owned : (n now : ℕ) (part : Part) → Each (IsOf n) (of_kind is_input (timed_part n now part).reports)
time_owned n now part =
    let es = (acted (Time now) part.host).peer.waiting in
    subst (Each (IsOf n)) (sym (time_lines n now part))
    (subst (λ (l : List Report). Each (IsOf n) (of_kind is_input l)) (sym (append-nil (all_heard n es part.history).reports)) (heard_owned n es part.history))

-- ---- the other deeds

given_host : (n c : ℕ) (bytes : List ℕ) (part : Part) → (given n c bytes part).value.host ≡ part.host
unfolding given
given_host n c bytes part = by (is_full part.client.peer c) where
  by : (b : Bool) → (cond {A = Acted Part} b (reporting (output.Full n c) part) (quietly (record part {
    client = acted
        (Send c bytes) part.client;
  }))).value.host ≡ part.host
  by true = refl
  by false = refl

video_inputs : (n : ℕ) (o : Option (List ℕ)) (part : Part) → of_kind is_input (with_video_if n o part).reports ≡ []
video_inputs n None part = refl
video_inputs n (Some bytes) part =
    let lost = as_list (newly_asked part.settings (Datagram bytes) part.came) in
    let frames = newly_handed part.settings (Datagram bytes) part.came in
    of_kind-append is_input (map (ask_report n) lost) (map (hand_report n) frames)
    ∙ ap (λ (l : List Report). l ++ of_kind is_input (map (hand_report n) frames)) (none_passed is_input (ask_report n) (λ r. refl) lost)
    ∙ none_passed is_input (hand_report n) (λ f. refl) frames

video_host : (n : ℕ) (o : Option (List ℕ)) (part : Part) → (with_video_if n o part).value.host ≡ part.host
video_host n None part = refl
video_host n (Some bytes) part = refl

audio_inputs : (n : ℕ) (o : Option (List ℕ)) (part : Part) → of_kind is_input (with_audio_if n o part).reports ≡ []
audio_inputs n None part = refl
audio_inputs n (Some bytes) part = none_passed is_input (play_report n) (λ u. refl) (newly_played part.settings.stream bytes part.sound)

audio_host : (n : ℕ) (o : Option (List ℕ)) (part : Part) → (with_audio_if n o part).value.host ≡ part.host
audio_host n None part = refl
audio_host n (Some bytes) part = refl

stays : (n : ℕ) (part : Part) (did : Acted Part) → did.value.host ≡ part.host → of_kind is_input did.reports ≡ []
    → inputs n did.value ≡ inputs n part ++ of_kind is_input did.reports
stays n part did same none =
    inputs_same n part did.value (ap (λ (s : Side). s.peer.told) same) ∙ unchanged is_input (inputs n part) did.reports none

deed_inputs : (scene : Scene) (d : SessionDeed) (part : Part)
    → inputs scene.session (done_in scene d part).value ≡ inputs scene.session part ++ of_kind is_input (done_in scene d part).reports
unfolding turned video_taken audio_taken down_taken reset closed_part marked
deed_inputs scene Turn part = stays scene.session part (turned scene part) refl (turn_lines is_input quiet scene part)
deed_inputs scene (TakeVideo k) part =
    let o = slice_get (video_of scene.ticks part) (k - 1) in
    stays scene.session part (with_video_if scene.session o part) (video_host scene.session o part) (video_inputs scene.session o part)
deed_inputs scene (TakeAudio k) part =
    let o = slice_get (audio_of scene.ticks part) (k - 1) in
    stays scene.session part (with_audio_if scene.session o part) (audio_host scene.session o part) (audio_inputs scene.session o part)
deed_inputs scene (TakeUp k) part = up_inputs scene.session scene.moment k part
deed_inputs scene (TakeDown k) part =
    stays scene.session part (down_taken scene.session scene.moment k part) refl (down_lines is_input quiet scene.session scene.moment k part)
deed_inputs scene (Give e) part =
    let bytes = bytes_of (message.Input e) in
    stays scene.session part (given scene.session (event_channel e) bytes part) (given_host scene.session (event_channel e) bytes part)
    (given_lines is_input quiet scene.session (event_channel e) bytes part)
deed_inputs scene AskIdr part =
    let bytes = bytes_of message.IdrRequest in
    stays scene.session part (given scene.session request_channel bytes part) (given_host scene.session request_channel bytes part)
    (given_lines is_input quiet scene.session request_channel bytes part)
deed_inputs scene Close part = stays scene.session part (closed_part part) refl (close_lines is_input part)
deed_inputs scene deed.Reset part =
    stays scene.session part (reset scene.session part) refl (one_passed is_input (output.Reset scene.session) refl)
deed_inputs scene Mark part = stays scene.session part (quietly (marked scene part)) refl refl

deed_owned : (scene : Scene) (d : SessionDeed) (part : Part) → Each (IsOf scene.session) (of_kind is_input (done_in scene d part).reports)
unfolding video_taken audio_taken reset
deed_owned scene Turn part = none_owned is_input scene.session (turned scene part).reports (turn_lines is_input quiet scene part)
deed_owned scene (TakeVideo k) part =
    let o = slice_get (video_of scene.ticks part) (k - 1) in
    none_owned is_input scene.session (with_video_if scene.session o part).reports (video_inputs scene.session o part)
deed_owned scene (TakeAudio k) part =
    let o = slice_get (audio_of scene.ticks part) (k - 1) in
    none_owned is_input scene.session (with_audio_if scene.session o part).reports (audio_inputs scene.session o part)
deed_owned scene (TakeUp k) part = up_owned scene.session scene.moment k part
deed_owned scene (TakeDown k) part =
    none_owned is_input scene.session (down_taken scene.session scene.moment k part).reports
    (down_lines is_input quiet scene.session scene.moment k part)
deed_owned scene (Give e) part =
    let bytes = bytes_of (message.Input e) in
    none_owned is_input scene.session (given scene.session (event_channel e) bytes part).reports
    (given_lines is_input quiet scene.session (event_channel e) bytes part)
deed_owned scene AskIdr part =
    let bytes = bytes_of message.IdrRequest in
    none_owned is_input scene.session (given scene.session request_channel bytes part).reports
    (given_lines is_input quiet scene.session request_channel bytes part)
deed_owned scene Close part = none_owned is_input scene.session (closed_part part).reports (close_lines is_input part)
deed_owned scene deed.Reset part = tt
deed_owned scene Mark part = tt

-- ---- a session that is opened was told nothing

record IsFresh (part : Part) : Type 0 where
  both : AreBoth part.client part.host
  calm_client : IsCalm part.client.peer
  calm_host : IsCalm part.host.peer
  none : part.client.peer.given ≡ []
  owed : part.owed ≡ []

fresh_new : (host_id now : ℕ) (settings : ClientSettings) → IsFresh (new_part host_id now settings)
fresh_new host_id now settings = record {
  both = new_gives 0 settings.stream.ssrc settings.stream.ssrc now host_id 0 settings.stream.ssrc now;
  calm_client = record { heard_few = λ c. omega arith; given_few = λ c. omega arith };
  calm_host = record { heard_few = λ c. omega arith; given_few = λ c. omega arith };
  none = refl;
  owed = refl;
}

fresh_written : (now : ℕ) (part : Part) → IsFresh part → IsFresh (both_written_out now part)
fresh_written now part is =
    let client = written_out now part.client in
    let host = written_out now part.host in
    let first : AreBoth client part.host = out_both now part.client part.host is.both in
    record {
      both = swapped host client (out_both now part.host client (swapped client part.host first));
      calm_client = calm_kept part.client.peer client.peer (kept_out now part.client) is.calm_client;
      calm_host = calm_kept part.host.peer host.peer (kept_out now part.host) is.calm_host;
      none = (kept_out now part.client).given ∙ is.none;
      owed = is.owed;
    }

fresh_owed : (os : List Owed) (part : Part) → os ≡ [] → IsFresh part → IsFresh (with_owed os part)
fresh_owed [] part e is = record { both = is.both; calm_client = is.calm_client; calm_host = is.calm_host; none = is.none; owed = refl }
fresh_owed (first ∷ rest) part e is = absurd cc

fresh_settled : (now : ℕ) (part : Part) → IsFresh part → IsFresh (settled_part now part)
unfolding settled_part
fresh_settled now part is = fresh_written now (with_owed part.owed part) (fresh_owed part.owed part is.owed is)

fresh_down : (n now k : ℕ) (part : Part) → IsFresh part → IsFresh (down_taken n now k part).value
unfolding down_taken
fresh_down n now k part is =
    let w = slice_get part.host.wrote (k - 1) in
    let client = came w now part.client in
    record {
      both = told_both client part.host (taken_both (k - 1) now part.client part.host is.calm_client.given_few is.calm_host.given_few is.both);
      calm_client = calm_all_told client.peer (calm_came (k - 1) now part.client part.host is.calm_client is.calm_host is.both);
      calm_host = is.calm_host;
      none = (kept_came w now part.client).given ∙ is.none;
      owed = is.owed;
    }

fresh_up : (n now k : ℕ) (part : Part) → IsFresh part → IsFresh (up_taken n now k part).value
unfolding up_taken
fresh_up n now k part is =
    let w = slice_get part.client.wrote (k - 1) in
    let host = came w now part.host in
    let turned_round = swapped part.client part.host is.both in
    let told = record host { peer = all_told host.peer } in
    record {
      both = swapped told part.client
          (told_both host part.client (taken_both (k - 1) now part.host part.client is.calm_host.given_few is.calm_client.given_few turned_round));
      calm_client = is.calm_client;
      calm_host = calm_all_told host.peer (calm_came (k - 1) now part.host part.client is.calm_host is.calm_client turned_round);
      none = is.none;
      owed = is.owed;
    }

empty_front : {X : Type 0} (xs ys : List X) → [] ≡ xs ++ ys → xs ≡ []
empty_front [] ys e = refl
empty_front (x ∷ xs) ys e = absurd cc

no_inputs : (es : List PeerEvent) → ((c : ℕ) → messages_on c es ≡ []) → flat_map input_of es ≡ []
no_inputs [] none = refl
no_inputs (event.Message d n bytes ∷ es) none = absurd (first (d == d) refl (none d)) where
  first : (b : Bool) → (d == d) ≡ b → cond b (bytes ∷ messages_on d es) (messages_on d es) ≡ [] → ⊥
  first true e h = absurd cc
  first false e h = absurd (eqb-false d d e refl)
no_inputs (event.Connected ∷ es) none = no_inputs es none
no_inputs (event.Closed ∷ es) none = no_inputs es none
no_inputs (event.PeerClosed ∷ es) none = no_inputs es none
no_inputs (event.Lost c n ∷ es) none = no_inputs es none

fresh_inputs : (n : ℕ) (part : Part) → IsFresh part → inputs n part ≡ []
fresh_inputs n part is = ap (map (input_report n)) (no_inputs part.host.peer.told here) where
  here : (c : ℕ) → messages_on c part.host.peer.told ≡ []
  here c =
      let front = is.both.0.in_order c in
      let all : [] ≡ messages_on c (heard part.host.peer) ++ front.0 = sym (ap (given_on c) is.none) ∙ front.1 in
      empty_front (messages_on c part.host.peer.told) (messages_on c part.host.peer.waiting)
      (sym (empty_front (messages_on c (heard part.host.peer)) front.0 all) ∙ messages_on-append c part.host.peer.told part.host.peer.waiting)

opened_inputs : (n session now : ℕ) (settings : ClientSettings) → inputs n (opened_part session now settings) ≡ []
unfolding opened_part
opened_inputs n session now settings =
    let written = both_written_out now (new_part (session - 1) now settings) in
    let down = (down_taken session now 1 written).value in
    let up = (up_taken session now 2 (settled_part now down)).value in
    let first = fresh_written now (new_part (session - 1) now settings) (fresh_new (session - 1) now settings) in
    fresh_inputs n (settled_part now up)
    (fresh_settled now up (fresh_up session now 2 (settled_part now down) (fresh_settled now down (fresh_down session now 1 written first))))

-- ---- the law

pub tells_inputs : Tells is_input inputs
tells_inputs = record {
  deed = deed_inputs;
  at_time = time_inputs;
  time_owned = time_owned;
  settles = λ n now part. inputs_same n part (settled_part now part) (settled_told now part);
  opens = opened_inputs;
  owned = deed_owned;
}

pub runs_report_inputs : RunsReportInputs
runs_report_inputs = reports_of is_input _ tells_inputs
