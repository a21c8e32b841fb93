-- Each line that a deed or the time reports names the session that it is in.
use Rattle.std.proofs.Common.{◌-◌, ℕ, Bool, true, false, not, cond, ◌&&◌, List, [], ◌∷◌, ◌++◌, map, Option, Some, None, refl}
use Rattle.std.specs.Prelude.{nat_lt, slice_get}
use Rattle.std.specs.List.{flat_map}
use Rattle.gs_tape.specs.Tick.{Tick, tick_numbered}
use Rattle.gs_refs.specs.declared.entry.Entry.{Entry}
use Rattle.gs_refs.specs.declared.entry.Entry.TheVariants as entry
use Rattle.gs_refs.specs.History.{frames, last_tick, has_ended}
use Rattle.gs_refs.specs.Answers.{named_range}
use Rattle.gs_refs.specs.Choice.{choice}
use Rattle.gs_frames.specs.declared.range.Range.{Range}
use Rattle.gs_frames.specs.Client.{Datagram}
use Rattle.gs_frames.specs.Handed.{Handed, newly_handed}
use Rattle.gs_frames.specs.Asks.{as_list, newly_asked}
use Rattle.gs_audio.specs.Played.{PlayedUnit, newly_played}
use Rattle.gs_control.specs.declared.message.Message.TheVariants as message
use Rattle.gs_control.specs.Message.{bytes_of}
use Rattle.gs_enet.proofs.Lists.{Each, each_append, each_filter}
use Rattle.gs_enet.specs.declared.event.PeerEvent.{PeerEvent}
use Rattle.gs_enet.specs.declared.event.PeerEvent.TheVariants as event
use Rattle.gs_enet.specs.Steps.{is_full}
use Rattle.gs_enet.specs.World.{Send, Time, acted, came}
use Rattle.gs_schedule.specs.declared.output.Output.{Output}
use Rattle.gs_schedule.specs.declared.output.Output.TheVariants as output
use Rattle.gs_run.specs.Session.{Part, video_of, audio_of}
use Rattle.gs_client_core.specs.Owed.{request_channel}
use Rattle.gs_run.specs.Report.{Report, Acted, quietly, reporting, ask_report, hand_report, play_report}
use Rattle.gs_run.specs.Message.{Act, Invalidate, AskIdr, Input, Nothing, act_of, event_channel}
use Rattle.gs_run.specs.Scene.{Scene}
use Rattle.gs_run.specs.Deed.{SessionDeed, Turn, TakeVideo, TakeAudio, TakeUp, TakeDown, Give, Close, Mark}
use Rattle.gs_run.specs.Deed as deed
use Rattle.gs_run.specs.Hearing.{client_reports, entered, entered_unless_ended, acts_on, host_heard, all_heard, up_taken, down_taken, timed_part}
use Rattle.gs_run.specs.Streaming.{turn_entry, newest_sent, turned, with_video_if, video_taken, with_audio_if, audio_taken, reset}
use Rattle.gs_run.specs.Giving.{given, closed_part}
use Rattle.gs_run.specs.Pump.{marked}
use Rattle.gs_run.specs.Done.{done_in}
use Rattle.gs_run.proofs.Reporting.{of_kind}
use Rattle.gs_run.proofs.PartLines.{IsOf}
use Rattle.gs_run.proofs.StreamLines.{owned_map}

entered_owned : (n : ℕ) (e : Entry) (h : List Entry) → Each (IsOf n) (entered n e h).reports
entered_owned n (entry.Sent tick kind reference) h = (refl, tt)
entered_owned n (entry.Invalid first last) h = (refl, tt)
entered_owned n entry.IdrAsked h = (refl, tt)
entered_owned n (entry.Ended first last) h = (refl, tt)

unless_owned : (n : ℕ) (e : Entry) (h : List Entry) → Each (IsOf n) (entered_unless_ended n e h).reports
unless_owned n e h = by (has_ended h) where
  by : (b : Bool) → Each (IsOf n) (cond {A = Acted (List Entry)} b (quietly h) (entered n e h)).reports
  by true = tt
  by false = entered_owned n e h

act_owned : (n c : ℕ) (a : Act) (h : List Entry) → Each (IsOf n) (acts_on n c a h).reports
act_owned n c (Invalidate first last) h = unless_owned n (named_range (frames h) first last) h
act_owned n c AskIdr h = unless_owned n entry.IdrAsked h
act_owned n c (Input e) h = (refl, tt)
act_owned n c Nothing h = tt

event_owned : (n : ℕ) (e : PeerEvent) (h : List Entry) → Each (IsOf n) (host_heard n e h).reports
event_owned n (event.Message c number bytes) h = act_owned n c (act_of bytes) h
event_owned n event.PeerClosed h = (refl, tt)
event_owned n (event.Lost c number) h = (refl, tt)
event_owned n event.Connected h = tt
event_owned n event.Closed h = tt

heard_owned : (n : ℕ) (es : List PeerEvent) (h : List Entry) → Each (IsOf n) (all_heard n es h).reports
heard_owned n [] h = tt
heard_owned n (e ∷ es) h =
    let mid = (host_heard n e h).value in
    each_append (IsOf n) (host_heard n e h).reports (all_heard n es mid).reports (event_owned n e h) (heard_owned n es mid)

hears_owned : (n : ℕ) (es : List PeerEvent) (h : List Entry) → Each (IsOf n) ((all_heard n es h).reports ++ [])
hears_owned n es h = each_append (IsOf n) (all_heard n es h).reports [] (heard_owned n es h) tt

client_owned : (n : ℕ) (es : List PeerEvent) → Each (IsOf n) (flat_map (client_reports n) es)
client_owned n [] = tt
client_owned n (event.Lost c number ∷ es) = (refl, client_owned n es)
client_owned n (event.Message c number bytes ∷ es) = client_owned n es
client_owned n (event.Connected ∷ es) = client_owned n es
client_owned n (event.Closed ∷ es) = client_owned n es
client_owned n (event.PeerClosed ∷ es) = client_owned n es

turn_owned : (scene : Scene) (part : Part) → Each (IsOf scene.session) (turned scene part).reports
unfolding turned
turn_owned scene part =
    each_append (IsOf scene.session) (newest_sent scene (tick_numbered scene.ticks scene.captured) part.history).reports []
    (on (tick_numbered scene.ticks scene.captured)) tt
  where
    on : (o : Option Tick) → Each (IsOf scene.session) (newest_sent scene o part.history).reports
    on None = tt
    on (Some t) = by (nat_lt (last_tick part.history) scene.captured && not (has_ended part.history)) where
      by : (b : Bool) → Each (IsOf scene.session) (cond {A = Acted (List Entry)} b (entered scene.session (turn_entry scene.captured
          (choice part.history t)) part.history) (quietly part.history)).reports
      by true = entered_owned scene.session (turn_entry scene.captured (choice part.history t)) part.history
      by false = tt

video_owned : (n : ℕ) (o : Option (List ℕ)) (part : Part) → Each (IsOf n) (with_video_if n o part).reports
video_owned n None part = tt
video_owned n (Some bytes) part =
    let lost = as_list (newly_asked part.settings (Datagram bytes) part.came) in
    let frames = newly_handed part.settings (Datagram bytes) part.came in
    each_append (IsOf n) (map (ask_report n) lost) (map (hand_report n) frames)
    (owned_map n (ask_report n) (λ (r : Range). refl) lost) (owned_map n (hand_report n) (λ (f : Handed). refl) frames)

audio_owned : (n : ℕ) (o : Option (List ℕ)) (part : Part) → Each (IsOf n) (with_audio_if n o part).reports
audio_owned n None part = tt
audio_owned n (Some bytes) part =
    owned_map n (play_report n) (λ (u : PlayedUnit). refl) (newly_played part.settings.stream bytes part.sound)

given_owned : (n c : ℕ) (bytes : List ℕ) (part : Part) → Each (IsOf n) (given n c bytes part).reports
unfolding given
given_owned n c bytes part = by (is_full part.client.peer c) where
  by : (b : Bool) → Each (IsOf n) (cond {A = Acted Part} b (reporting (output.Full n c) part) (quietly (record part {
    client = acted
        (Send c bytes) part.client;
  }))).reports
  by true = (refl, tt)
  by false = tt

pub deed_owned : (scene : Scene) (d : SessionDeed) (part : Part) → Each (IsOf scene.session) (done_in scene d part).reports
unfolding video_taken audio_taken up_taken down_taken closed_part reset marked
deed_owned scene Turn part = turn_owned scene part
deed_owned scene (TakeVideo k) part = video_owned scene.session (slice_get (video_of scene.ticks part) (k - 1)) part
deed_owned scene (TakeAudio k) part = audio_owned scene.session (slice_get (audio_of scene.ticks part) (k - 1)) part
deed_owned scene (TakeUp k) part =
    hears_owned scene.session (came (slice_get part.client.wrote (k - 1)) scene.moment part.host).peer.waiting part.history
deed_owned scene (TakeDown k) part =
    client_owned scene.session (came (slice_get part.host.wrote (k - 1)) scene.moment part.client).peer.waiting
deed_owned scene (Give e) part = given_owned scene.session (event_channel e) (bytes_of (message.Input e)) part
deed_owned scene deed.AskIdr part = given_owned scene.session request_channel (bytes_of message.IdrRequest) part
deed_owned scene Close part = tt
deed_owned scene deed.Reset part = (refl, tt)
deed_owned scene Mark part = tt

pub time_owned : (n now : ℕ) (part : Part) → Each (IsOf n) (timed_part n now part).reports
unfolding timed_part
time_owned n now part =
    each_append (IsOf n) (flat_map (client_reports n) (acted (Time now) part.client).peer.waiting)
    ((all_heard n (acted (Time now) part.host).peer.waiting part.history).reports ++ [])
    (client_owned n (acted (Time now) part.client).peer.waiting)
    (hears_owned n (acted (Time now) part.host).peer.waiting part.history)

pub kind_owned : (kind : Output → Bool) (n : ℕ) (rs : List Report) → Each (IsOf n) rs → Each (IsOf n) (of_kind kind rs)
kind_owned kind n rs all = each_filter (IsOf n) (λ (r : Report). kind r.output) rs all
