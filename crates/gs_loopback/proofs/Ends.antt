-- What a call of one of the two ends did in the session.
use Rattle.std.proofs.Common.{◌≡◌, ◌-◌, ℕ, Bool, true, false, not, cond, ◌&&◌, List, Option, Some, None, refl, sym, ap, subst, ◌∙◌}
use Rattle.std.specs.Prelude.{slice_get}
use Rattle.gs_tape.specs.Tick.{Tick}
use Rattle.gs_input.specs.declared.event.Event.{Event}
use Rattle.gs_schedule.specs.declared.output.Output.TheVariants as output
use Rattle.gs_store.specs.Named.{is_nameable, named}
use Rattle.gs_enet.specs.Steps.{is_full}
use Rattle.gs_enet.specs.World.{Side, Send, acted}
use Rattle.gs_client_core.specs.Owed.{request_channel}
use Rattle.gs_run.specs.Session.{Part, video_of, audio_of}
use Rattle.gs_run.specs.Scene.{Scene}
use Rattle.gs_run.specs.Report.{Acted, quietly, reporting}
use Rattle.gs_run.specs.Message.{event_channel}
use Rattle.gs_run.specs.Deed.{Turn, TakeVideo, TakeAudio, TakeUp, TakeDown, Give, AskIdr, Close, Reset}
use Rattle.gs_run.specs.Hearing.{up_taken, down_taken, timed_part}
use Rattle.gs_run.specs.Streaming.{turned, with_video, with_video_if, video_taken, with_audio, with_audio_if, audio_taken, reset}
use Rattle.gs_run.specs.Giving.{given, event_given, idr_asked, closed_part}
use Rattle.gs_run.specs.Pump.{ends_of, marked}
use Rattle.gs_run.specs.Refusal.{has_made_most, is_client_open, may_give, makes_ask, is_allowed}
use Rattle.gs_report.specs.Reporting.{Reporting, Did}
use Rattle.gs_report.proofs.Reported.{then_more, with_none}
use Rattle.gs_client_end.specs.declared.end.ClientEnd.{ClientEnd}
use Rattle.gs_client_end.specs.Standing.{IsClientEndOf}
use Rattle.gs_client_end.specs.Outcomes.{may_take, TakesVideo, TakesDown, Gives, AsksIdr, Resets, Closes, client_timed}
use Rattle.gs_host_end.specs.declared.end.HostEnd.{HostEnd}
use Rattle.gs_host_end.specs.Standing.{IsHostEndOf}
use Rattle.gs_host_end.specs.Outcomes.{TakesUp, host_timed}
use Rattle.gs_loopback.specs.declared.session.Loopback.{Loopback}
use Rattle.gs_loopback.specs.declared.marks.Marks.{Marks}
use Rattle.gs_loopback.specs.Standing.{IsLoopbackOf, run_marks}
use Rattle.gs_loopback.specs.Outcomes.{Attempts}
use Rattle.gs_loopback.proofs.Named.{none_named, one_named}
use Rattle.gs_loopback.proofs.Parts.{same_host, same_client}
use Rattle.gs_loopback.proofs.Turns.{client_attempts}

-- ---- messages

given_host : (session channel : ℕ) (bytes : List ℕ) (part : Part) (end : HostEnd) (s : ℕ) (ticks : List Tick)
    → IsHostEndOf end s ticks part → IsHostEndOf end s ticks (given session channel bytes part).value
unfolding given
given_host session channel bytes part end s ticks h = by (is_full part.client.peer channel) where
  gone : Side
  gone = acted (Send channel bytes) part.client

  by : (b : Bool) → IsHostEndOf end s ticks
      (cond {A = Acted Part} b (reporting (output.Full session channel) part) (quietly (record part { client = gone }))).value
  by true = h
  by false = same_host end s ticks part part.came part.sound gone part.owed part.marks h

given_marks : (session channel : ℕ) (bytes : List ℕ) (part : Part) → (given session channel bytes part).value.marks ≡ part.marks
unfolding given
given_marks session channel bytes part = by (is_full part.client.peer channel) where
  by : (b : Bool) → (cond {A = Acted Part} b (reporting (output.Full session channel) part)
      (quietly (record part { client = acted (Send channel bytes) part.client }))).value.marks ≡ part.marks
  by true = refl
  by false = refl

pub gives : (scene : Scene) (event : Event) (part : Part) (done : Bool) (old : Loopback) (client : ClientEnd) (before now : Reporting)
    → IsLoopbackOf old scene.session scene.ticks part → Gives scene.session event part done client before now
    → Attempts scene (Give event) part done (record old { client = client }) before now
gives scene event part done old client before now h x =
    client_attempts scene (Give event) part (may_give (event_channel event) part) (event_given scene.session event part) done
    (record old { client = client }) before now refl refl
    (given_host scene.session (event_channel event) _ part old.host scene.session scene.ticks h.host)
    (h.marks ∙ sym (given_marks scene.session (event_channel event) _ part)) x

pub asks_idr : (scene : Scene) (part : Part) (done : Bool) (old : Loopback) (client : ClientEnd) (before now : Reporting)
    → IsLoopbackOf old scene.session scene.ticks part → AsksIdr scene.session part done client before now
    → Attempts scene AskIdr part done (record old { client = client }) before now
asks_idr scene part done old client before now h x =
    client_attempts scene AskIdr part (may_give request_channel part) (idr_asked scene.session part) done
    (record old { client = client }) before now refl refl
    (given_host scene.session request_channel _ part old.host scene.session scene.ticks h.host)
    (h.marks ∙ sym (given_marks scene.session request_channel _ part)) x

pub resets : (scene : Scene) (part : Part) (done : Bool) (old : Loopback) (client : ClientEnd) (before now : Reporting)
    → IsLoopbackOf old scene.session scene.ticks part → Resets scene.session part done client before now
    → Attempts scene Reset part done (record old { client = client }) before now
unfolding reset
resets scene part done old client before now h x =
    let v : Part = (reset scene.session part).value in
    client_attempts scene Reset part (is_client_open part && not (has_made_most request_channel part)) (reset scene.session part) done
    (record old { client = client }) before now refl refl
    (same_host old.host scene.session scene.ticks part v.came v.sound v.client v.owed v.marks h.host) h.marks x

pub closes : (scene : Scene) (part : Part) (done : Bool) (old : Loopback) (client : ClientEnd) (before : Reporting)
    → IsLoopbackOf old scene.session scene.ticks part → Closes scene.session part done client
    → Attempts scene Close part done (record old { client = client }) before before
unfolding closed_part
closes scene part true old client before h x =
    let v : Part = (closed_part part).value in (
      x.0,
      record {
        stands = record {
          host = same_host old.host scene.session scene.ticks part v.came v.sound v.client v.owed v.marks h.host;
          client = x.1;
          marks = h.marks;
        };
        text = sym (with_none before);
      },
    )
closes scene part false old client before h x = (x, refl)

-- ---- datagrams

-- none of that number can be named
pub no_video : (scene : Scene) (k : ℕ) (part : Part) (new : Loopback) (now : Reporting)
    → named (video_of scene.ticks part) k ≡ None → Attempts scene (TakeVideo k) part false new now now
no_video scene k part new now e =
    let sent : List (List ℕ) = video_of scene.ticks part in (
      ap (λ (b : Bool). b && not (makes_ask (slice_get sent (k - 1)) part && has_made_most request_channel part))
          (none_named sent k e),
      refl,
    )

pub no_audio : (scene : Scene) (k : ℕ) (part : Part) (new : Loopback) (now : Reporting)
    → named (audio_of scene.ticks part) k ≡ None → Attempts scene (TakeAudio k) part false new now now
no_audio scene k part new now e = (none_named (audio_of scene.ticks part) k e, refl)

pub takes_video : (scene : Scene) (k : ℕ) (bytes : List ℕ) (part : Part) (done : Bool) (old : Loopback) (client : ClientEnd)
    (before now : Reporting) → IsLoopbackOf old scene.session scene.ticks part
    → named (video_of scene.ticks part) k ≡ Some bytes → TakesVideo scene.session part bytes done client before now
    → Attempts scene (TakeVideo k) part done (record old { client = client }) before now
unfolding video_taken
takes_video scene k bytes part done old client before now h e x =
    let sent : List (List ℕ) = video_of scene.ticks part in
    let one = one_named sent k bytes e in
    let v : Part = (with_video scene.session bytes part).value in
    let allowed : is_allowed scene (TakeVideo k) part ≡ may_take bytes part =
    ap (λ (b : Bool). b && not (makes_ask (slice_get sent (k - 1)) part && has_made_most request_channel part)) one.0
    ∙ ap (λ (o : Option (List ℕ)). not (makes_ask o part && has_made_most request_channel part)) one.1 in
    client_attempts scene (TakeVideo k) part (may_take bytes part) (with_video scene.session bytes part) done
    (record old { client = client }) before now allowed
    (ap (λ (o : Option (List ℕ)). with_video_if scene.session o part) one.1)
    (same_host old.host scene.session scene.ticks part v.came v.sound v.client v.owed v.marks h.host) h.marks x

pub takes_audio : (scene : Scene) (k : ℕ) (bytes : List ℕ) (part : Part) (old : Loopback) (client : ClientEnd)
    (before now : Reporting) → IsLoopbackOf old scene.session scene.ticks part
    → named (audio_of scene.ticks part) k ≡ Some bytes
    → Did (IsClientEndOf client scene.session) (with_audio scene.session bytes part) before now
    → Attempts scene (TakeAudio k) part true (record old { client = client }) before now
unfolding audio_taken
takes_audio scene k bytes part old client before now h e x =
    let one = one_named (audio_of scene.ticks part) k bytes e in
    let v : Part = (with_audio scene.session bytes part).value in
    client_attempts scene (TakeAudio k) part (is_nameable (audio_of scene.ticks part) k) (with_audio scene.session bytes part) true
    (record old { client = client }) before now refl
    (ap (λ (o : Option (List ℕ)). with_audio_if scene.session o part) one.1)
    (same_host old.host scene.session scene.ticks part v.came v.sound v.client v.owed v.marks h.host) h.marks (one.0, x)

pub takes_down : (scene : Scene) (now k : ℕ) (part : Part) (done : Bool) (old : Loopback) (client : ClientEnd) (before after : Reporting)
    → scene.moment ≡ now → IsLoopbackOf old scene.session scene.ticks part
    → TakesDown scene.session now k part done client before after
    → Attempts scene (TakeDown k) part done (record old { client = client }) before after
unfolding down_taken
takes_down scene now k part done old client before after at h x =
    let v : Part = (down_taken scene.session now k part).value in
    client_attempts scene (TakeDown k) part (is_nameable part.host.wrote k) (down_taken scene.session now k part) done
    (record old { client = client }) before after refl (ap (λ (m : ℕ). down_taken scene.session m k part) at)
    (same_host old.host scene.session scene.ticks part v.came v.sound v.client v.owed v.marks h.host) h.marks x

pub takes_up : (scene : Scene) (now k : ℕ) (part : Part) (done : Bool) (old : Loopback) (host : HostEnd) (before after : Reporting)
    → scene.moment ≡ now → IsLoopbackOf old scene.session scene.ticks part
    → TakesUp scene.session now k scene.ticks part done host before after
    → Attempts scene (TakeUp k) part done (record old { host = host }) before after
unfolding up_taken
takes_up scene now k part true old host before after at h x =
    let v : Part = (up_taken scene.session now k part).value in (
      x.0,
      subst (λ (m : ℕ). Did (IsLoopbackOf (record old { host = host }) scene.session scene.ticks) (up_taken scene.session m k part) before after)
          (sym at) (record {
            stands = record {
              host = x.1.stands;
              client = same_client old.client scene.session part v.history v.host v.marks h.client;
              marks = h.marks;
            };
            text = x.1.text;
          }),
    )
takes_up scene now k part false old host before after at h x = x

-- ---- the host's turn, and time

pub turns : (scene : Scene) (part : Part) (old : Loopback) (host : HostEnd) (before now : Reporting)
    → IsLoopbackOf old scene.session scene.ticks part
    → Did (IsHostEndOf host scene.session scene.ticks) (turned scene part) before now
    → Attempts scene Turn part true (record old { host = host }) before now
unfolding turned
turns scene part old host before now h x =
    let v : Part = (turned scene part).value in (
      refl,
      record {
        stands = record {
          host = x.stands;
          client = same_client old.client scene.session part v.history v.host v.marks h.client;
          marks = h.marks;
        };
        text = x.text;
      },
    )

-- the client's timers ran, and so does the host stand for what they left
pub client_times : (session : ℕ) (ticks : List Tick) (now : ℕ) (part : Part) (old : Loopback)
    → IsLoopbackOf old session ticks part → IsHostEndOf old.host session ticks (client_timed session now part).value
client_times session ticks now part old h =
    let v : Part = (client_timed session now part).value in
    same_host old.host session ticks part v.came v.sound v.client v.owed v.marks h.host

pub times : (session : ℕ) (ticks : List Tick) (now : ℕ) (part : Part) (old : Loopback) (client : ClientEnd) (host : HostEnd)
    (before mid after : Reporting) → IsLoopbackOf old session ticks part
    → Did (IsClientEndOf client session) (client_timed session now part) before mid
    → Did (IsHostEndOf host session ticks) (host_timed session now (client_timed session now part).value) mid after
    → Did (IsLoopbackOf (record old { client = client; host = host }) session ticks) (timed_part session now part) before after
unfolding timed_part
times session ticks now part old client host before mid after h x y =
    let u : Part = (client_timed session now part).value in
    let v : Part = (host_timed session now u).value in
    record {
      stands = record {
        host = y.stands;
        client = same_client client session u v.history v.host v.marks x.stands;
        marks = h.marks;
      };
      text = then_more before mid after (client_timed session now part).reports (host_timed session now u).reports x.text y.text;
    }

-- the marks move to the end
pub marks_move : (scene : Scene) (part : Part) (old : Loopback) (marks : Marks) → IsLoopbackOf old scene.session scene.ticks part
    → run_marks marks ≡ ends_of scene part
    → IsLoopbackOf (record old { marks = marks }) scene.session scene.ticks (marked scene part)
unfolding marked
marks_move scene part old marks h e =
    let v : Part = marked scene part in
    record {
      host = same_host old.host scene.session scene.ticks part v.came v.sound v.client v.owed v.marks h.host;
      client = same_client old.client scene.session part v.history v.host v.marks h.client;
      marks = e;
    }
