-- Each delivery of a pump leaves fewer deliveries in its session.
use Rattle.std.proofs.Common.{◌≡◌, ◌≢◌, ◌<◌, ◌≤◌, ◌+◌, ◌-◌, ℕ, zero, suc, Bool, true, false, cond, List, [], ◌∷◌, length, map, drop, Option, Some, None, refl}
use Rattle.std.proofs.Common.{sym, ap, subst, ◌∙◌, arith}
use Rattle.std.specs.Prelude.{ℤ, ◌&&◌, unsigned_abs, nat_lt, slice_get, unwrap_or}
use Rattle.std.specs.List.{find, range_with_len}
use Rattle.std.specs.Option.{option_map}
use Rattle.std.proofs.lemmas.Bool.{ltb-true}
use Rattle.std.proofs.lemmas.List.{length-append}
use Rattle.gs_tape.specs.Tick.{Tick}
use Rattle.gs_refs.specs.declared.entry.Entry.{Entry}
use Rattle.gs_refs.specs.declared.entry.Entry.TheVariants as entry
use Rattle.gs_refs.specs.History.{frames, has_ended}
use Rattle.gs_frames.specs.declared.range.Range.{Range}
use Rattle.gs_frames.specs.Client.{ClientSettings, Datagram}
use Rattle.gs_frames.specs.Asks.{newly_asked, as_list}
use Rattle.gs_stream.specs.Video.{video_stream}
use Rattle.gs_stream.specs.Audio.{audio_units, audio_stream}
use Rattle.gs_enet.specs.declared.event.PeerEvent.{PeerEvent}
use Rattle.gs_enet.specs.declared.event.PeerEvent.TheVariants as event
use Rattle.gs_enet.specs.Record.{channels}
use Rattle.gs_enet.specs.Steps.{can_send}
use Rattle.gs_enet.specs.World.{Side, Written, Send, acted, came}
use Rattle.gs_run.specs.Session.{PartMarks, Part, video_of, audio_of}
use Rattle.gs_client_core.specs.Owed.{request_channel, owed_message}
use Rattle.gs_client_core.specs.declared.asker.Owed.TheVariants.{Lost}
use Rattle.gs_client_core.specs.declared.asker.Owed.{Owed}
use Rattle.gs_run.specs.Message.{Act, Invalidate, AskIdr, Input, Nothing, act_of}
use Rattle.gs_run.specs.Scene.{Scene}
use Rattle.gs_run.specs.Deed.{SessionDeed, TakeVideo, TakeAudio, TakeUp, TakeDown, Mark}
use Rattle.gs_run.specs.Connection.{with_owed, settled_part}
use Rattle.gs_run.specs.Hearing.{entered, entered_unless_ended, acts_on, host_heard, all_heard, up_taken, down_taken}
use Rattle.gs_refs.specs.Answers.{named_range, is_range_sent}
use Rattle.gs_run.specs.Streaming.{with_video_if, video_taken, with_audio_if, audio_taken}
use Rattle.gs_run.specs.Pump.{Pumping, ends_of, is_kept, next_kept, next_above, or_else, next_control}
use Rattle.gs_run.specs.Deliveries.{deliveries_of, all_deliveries, deliveries_by, control_deliveries}
use Rattle.gs_run.specs.PumpLaws.{LeavesFewer, PumpsAdvance}
use Rattle.gs_bytes.proofs.Lists.{some_within}
use Rattle.gs_run.proofs.SideDeliveries.{sent_leaves, came_leaves, written_out_leaves, next_of_later}
use Rattle.gs_run.proofs.Uses.{wrote_came}

-- ---- how many datagrams of the streams there are

record SameEnds (ticks : List Tick) (old new : Part) : Type 0 where
  video : length (video_of ticks new) ≡ length (video_of ticks old)
  audio : length (audio_of ticks new) ≡ length (audio_of ticks old)

record SameHost (old new : Part) : Type 0 where
  settings : new.settings ≡ old.settings
  history : new.history ≡ old.history

same_ends : (ticks : List Tick) (old new : Part) → SameHost old new → SameEnds ticks old new
same_ends ticks old new same = record {
  video = ap (λ (s : ClientSettings). length (video_stream s.stream ticks new.history)) same.settings
      ∙ ap (λ (h : List Entry). length (video_stream old.settings.stream ticks h)) same.history;
  audio = ap (λ (s : ClientSettings). length (audio_stream s.stream ticks new.history)) same.settings
      ∙ ap (λ (h : List Entry). length (audio_stream old.settings.stream ticks h)) same.history;
}

owed_same : (os : List Owed) (part : Part) → SameHost part (with_owed os part)
owed_same [] part = record { settings = refl; history = refl }
owed_same (first ∷ rest) part =
    by (can_send part.client.peer request_channel) (record part { client = acted (Send request_channel (owed_message first)) part.client })
    refl refl (owed_same rest (record part { client = acted (Send request_channel (owed_message first)) part.client }))
  where
    by : (b : Bool) (next : Part) → next.settings ≡ part.settings → next.history ≡ part.history → SameHost next (with_owed rest next)
        → SameHost part (cond b (with_owed rest next) (record part { owed = first ∷ rest }))
    by true next settings history same = record { settings = same.settings ∙ settings; history = same.history ∙ history }
    by false next settings history same = record { settings = refl; history = refl }

settled_ends : (ticks : List Tick) (now : ℕ) (part : Part) → SameEnds ticks part (settled_part now part)
unfolding settled_part
settled_ends ticks now part =
    let same = owed_same part.owed part in
    same_ends ticks part (settled_part now part) (record { settings = same.settings; history = same.history })

-- ---- what the host hears sends nothing

-- what only counts entries of frames that were sent
record CountsSent {X : Type 0} (f : List Entry → X) : Type 0 where
  invalid : (first last : ℕ) (h : List Entry) → f (entry.Invalid first last ∷ h) ≡ f h
  asked : (h : List Entry) → f (entry.IdrAsked ∷ h) ≡ f h
  ended : (first last : ℤ) (h : List Entry) → f (entry.Ended first last ∷ h) ≡ f h

entered_same : {X : Type 0} (f : List Entry → X) (session : ℕ) (e : Entry) (h : List Entry) → f (e ∷ h) ≡ f h
    → f (entered_unless_ended session e h).value ≡ f h
entered_same {X} f session e h same = by (has_ended h) where
  by : (b : Bool) → f (cond b (record { value = h; reports = [] }) (entered session e h)).value ≡ f h
  by true = refl
  by false = same

range_same : {X : Type 0} (f : List Entry → X) → CountsSent f → (first last : ℤ) (h : List Entry) → f (named_range (frames h) first last ∷ h) ≡ f h
range_same {X} f counts first last h = by (is_range_sent (frames h) first last) where
  by : (b : Bool) → f (cond b (entry.Invalid (unsigned_abs first) (unsigned_abs last)) (entry.Ended first last) ∷ h) ≡ f h
  by true = counts.invalid (unsigned_abs first) (unsigned_abs last) h
  by false = counts.ended first last h

acts_same : {X : Type 0} (f : List Entry → X) → CountsSent f → (session channel : ℕ) (act : Act) (h : List Entry)
    → f (acts_on session channel act h).value ≡ f h
acts_same f counts session channel (Invalidate first last) h =
    entered_same f session (named_range (frames h) first last) h (range_same f counts first last h)
acts_same f counts session channel AskIdr h = entered_same f session entry.IdrAsked h (counts.asked h)
acts_same f counts session channel (Input e) h = refl
acts_same f counts session channel Nothing h = refl

heard_same : {X : Type 0} (f : List Entry → X) → CountsSent f → (session : ℕ) (e : PeerEvent) (h : List Entry) → f (host_heard session e h).value ≡ f h
heard_same f counts session (event.Message channel number bytes) h = acts_same f counts session channel (act_of bytes) h
heard_same f counts session event.PeerClosed h = refl
heard_same f counts session (event.Lost channel number) h = refl
heard_same f counts session event.Connected h = refl
heard_same f counts session event.Closed h = refl

all_same : {X : Type 0} (f : List Entry → X) → CountsSent f → (session : ℕ) (es : List PeerEvent) (h : List Entry)
    → f (all_heard session es h).value ≡ f h
all_same f counts session [] h = refl
all_same f counts session (e ∷ es) h = all_same f counts session es (host_heard session e h).value ∙ heard_same f counts session e h

up_ends : (ticks : List Tick) (session now k : ℕ) (part : Part) → SameEnds ticks part (up_taken session now k part).value
unfolding up_taken video_stream audio_units audio_stream
up_ends ticks session now k part =
    let es = (came (slice_get part.client.wrote (k - 1)) now part.host).peer.waiting in
    record {
      video = all_same (λ h. length (video_stream part.settings.stream ticks h))
          (record { invalid = λ first last h. refl; asked = λ h. refl; ended = λ first last h. refl }) session es part.history;
      audio = all_same (λ h. length (audio_stream part.settings.stream ticks h))
          (record { invalid = λ first last h. refl; asked = λ h. refl; ended = λ first last h. refl }) session es part.history;
    }

down_ends : (ticks : List Tick) (session now k : ℕ) (part : Part) → SameEnds ticks part (down_taken session now k part).value
unfolding down_taken
down_ends ticks session now k part = record { video = refl; audio = refl }

-- ---- behind a deed what is owed is given, and both sides write out

owed_leaves : (os : List Owed) (at : PartMarks) (part : Part) → control_deliveries at (with_owed os part) ≤ control_deliveries at (record part { owed = os })
owed_leaves [] at part = omega arith
owed_leaves (first ∷ rest) at part =
    let next : Part = record part { client = acted (Send request_channel (owed_message first)) part.client } in
    let sent = sent_leaves (nat_lt request_channel channels && can_send part.client.peer request_channel) request_channel (owed_message first)
    part.client.peer in
    let others = owed_leaves rest at next in
    by (can_send part.client.peer request_channel) next (omega (arith, sent, others))
  where
    by : (b : Bool) (next : Part) → control_deliveries at (with_owed rest next) ≤ control_deliveries at (record part { owed = first ∷ rest })
        → control_deliveries at (cond b (with_owed rest next) (record part { owed = first ∷ rest }))
        ≤ control_deliveries at (record part { owed = first ∷ rest })
    by true next h = h
    by false next h = omega arith

settled_leaves : (now : ℕ) (at : PartMarks) (part : Part) → control_deliveries at (settled_part now part) ≤ control_deliveries at part
unfolding settled_part
settled_leaves now at part =
    let given = with_owed part.owed part in
    let owed = owed_leaves part.owed at part in
    let client = written_out_leaves now at.up given.client in
    let host = written_out_leaves now at.down given.host in
    omega (arith, owed, client, host)

-- ---- the deliveries of the streams

asks_once : (o : Option Range) → length (map Lost (as_list o)) ≤ 1
asks_once None = omega arith
asks_once (Some range) = omega arith

-- behind a datagram of the streams the client may owe one request more
record TookStream (ticks : List Tick) (at : PartMarks) (more : ℕ) (old new : Part) : Type 0 where
  ends : SameEnds ticks old new
  control : control_deliveries at new ≤ control_deliveries at old + more

video_took : (ticks : List Tick) (at : PartMarks) (session : ℕ) (o : Option (List ℕ)) (part : Part)
    → TookStream ticks at 4 part (with_video_if session o part).value
video_took ticks at session None part = record { ends = record { video = refl; audio = refl }; control = omega arith }
video_took ticks at session (Some bytes) part =
    let lost = newly_asked part.settings (Datagram bytes) part.came in
    let once = asks_once lost in
    let owed = length-append part.owed (map Lost (as_list lost)) in
    record { ends = record { video = refl; audio = refl }; control = omega (arith, once, owed) }

audio_took : (ticks : List Tick) (at : PartMarks) (session : ℕ) (o : Option (List ℕ)) (part : Part)
    → TookStream ticks at 0 part (with_audio_if session o part).value
audio_took ticks at session None part = record { ends = record { video = refl; audio = refl }; control = omega arith }
audio_took ticks at session (Some bytes) part = record { ends = record { video = refl; audio = refl }; control = omega arith }

video_leaves : (scene : Scene) (pumping : Pumping) (part : Part) (k : ℕ) → pumping.at.video < k → k ≤ length (video_of scene.ticks part)
    → LeavesFewer scene pumping part (TakeVideo k)
unfolding video_taken
video_leaves scene pumping part k least most =
    let o = slice_get (video_of scene.ticks part) (k - 1) in
    let did : Part = (with_video_if scene.session o part).value in
    let took = video_took scene.ticks pumping.at scene.session o part in
    let ends = settled_ends scene.ticks scene.moment did in
    let control = settled_leaves scene.moment pumping.at did in
    omega (arith, least, most, took.ends.video, took.ends.audio, took.control, ends.video, ends.audio, control)

audio_leaves : (scene : Scene) (pumping : Pumping) (part : Part) (k : ℕ) → pumping.at.audio < k → k ≤ length (audio_of scene.ticks part)
    → LeavesFewer scene pumping part (TakeAudio k)
unfolding audio_taken
audio_leaves scene pumping part k least most =
    let o = slice_get (audio_of scene.ticks part) (k - 1) in
    let did : Part = (with_audio_if scene.session o part).value in
    let took = audio_took scene.ticks pumping.at scene.session o part in
    let ends = settled_ends scene.ticks scene.moment did in
    let control = settled_leaves scene.moment pumping.at did in
    omega (arith, least, most, took.ends.video, took.ends.audio, took.control, ends.video, ends.audio, control)

-- ---- the deliveries of control datagrams

-- one side's next datagram came to the other
record TookControl (at now : ℕ) (written : List Written) (side : Side) : Type 0 where
  left : deliveries_by (came (slice_get written (at + 1 - 1)) now side).peer + all_deliveries (drop (at + 1) written) + 1
      ≤ deliveries_by side.peer + all_deliveries (drop at written)
  wrote : (came (slice_get written (at + 1 - 1)) now side).wrote ≡ side.wrote

took_control : (at now : ℕ) (written : List Written) (side : Side) → at < length written → TookControl at now written side
took_control at now written side below =
    let found = some_within written at below in
    let w : Written = found.0 in
    let there : slice_get written (at + 1 - 1) ≡ Some w =
    ap (λ (n : ℕ). slice_get written n) (let e : at + 1 - 1 ≡ at = omega arith in e) ∙ found.1 in
    let one : deliveries_by (came (slice_get written (at + 1 - 1)) now side).peer + 1 ≤ deliveries_by side.peer + deliveries_of w =
    subst (λ (o : Option Written). deliveries_by (came o now side).peer + 1 ≤ deliveries_by side.peer + deliveries_of w) (sym there)
    (came_leaves w now side) in
    let later : all_deliveries (drop at written) ≡ deliveries_of w + all_deliveries (drop (at + 1) written) =
    next_of_later at written w found.1
    ∙ ap (λ (n : ℕ). deliveries_of w + all_deliveries (drop n written)) (let e : suc at ≡ at + 1 = omega arith in e) in
    record { left = omega (arith, one, later); wrote = wrote_came (slice_get written (at + 1 - 1)) now side }

up_leaves : (scene : Scene) (pumping : Pumping) (part : Part) → pumping.at.up < length part.client.wrote
    → LeavesFewer scene pumping part (TakeUp (pumping.at.up + 1))
unfolding up_taken
up_leaves scene pumping part below =
    let up : ℕ = pumping.at.up in
    let at : PartMarks = record (pumping.at) { up = up + 1 } in
    let did : Part = (up_taken scene.session scene.moment (up + 1) part).value in
    let took = took_control up scene.moment part.client.wrote part.host below in
    let wrote = ap (λ (l : List Written). all_deliveries (drop pumping.at.down l)) took.wrote in
    let ends = up_ends scene.ticks scene.session scene.moment (up + 1) part in
    let settles = settled_ends scene.ticks scene.moment did in
    let control = settled_leaves scene.moment at did in
    omega (arith, took.left, wrote, ends.video, ends.audio, settles.video, settles.audio, control)

down_leaves : (scene : Scene) (pumping : Pumping) (part : Part) → pumping.at.down < length part.host.wrote
    → LeavesFewer scene pumping part (TakeDown (pumping.at.down + 1))
unfolding down_taken
down_leaves scene pumping part below =
    let down : ℕ = pumping.at.down in
    let at : PartMarks = record (pumping.at) { down = down + 1 } in
    let did : Part = (down_taken scene.session scene.moment (down + 1) part).value in
    let took = took_control down scene.moment part.host.wrote part.client below in
    let wrote = ap (λ (l : List Written). all_deliveries (drop pumping.at.up l)) took.wrote in
    let settles = settled_ends scene.ticks scene.moment did in
    let control = settled_leaves scene.moment at did in
    omega (arith, took.left, wrote, settles.video, settles.audio, control)

-- ---- the next delivery

chosen : (P : SessionDeed → Type 0) (a b c : Option SessionDeed) → ((d : SessionDeed) → a ≡ Some d → P d) → ((d : SessionDeed) → b ≡ Some d → P d)
    → ((d : SessionDeed) → c ≡ Some d → P d) → unwrap_or (or_else a (or_else b c)) Mark ≢ Mark → P (unwrap_or (or_else a (or_else b c)) Mark)
chosen P (Some d) b c of_a of_b of_c some = of_a d refl
chosen P None (Some d) c of_a of_b of_c some = of_b d refl
chosen P None None (Some d) of_a of_b of_c some = of_c d refl
chosen P None None None of_a of_b of_c some = absurd (some refl)

of_either : (P : SessionDeed → Type 0) (a b : Option SessionDeed) → ((d : SessionDeed) → a ≡ Some d → P d) → ((d : SessionDeed) → b ≡ Some d → P d)
    → (d : SessionDeed) → or_else a b ≡ Some d → P d
of_either P None b of_a of_b d e = of_b d e
of_either P (Some x) b of_a of_b d e = of_a d e

of_mapped : (P : SessionDeed → Type 0) (f : ℕ → SessionDeed) (o : Option ℕ) → ((k : ℕ) → o ≡ Some k → P (f k))
    → (d : SessionDeed) → option_map f o ≡ Some d → P d
of_mapped P f None of d e = absurd cc
of_mapped P f (Some k) of d e = (let same : f k ≡ d = cc in subst P same (of k refl))

kept_within : (test : ℕ → Bool) (a n k : ℕ) → find test (range_with_len a n) ≡ Some k → (a ≤ k) × (k < a + n)
kept_within test a zero k e = absurd cc
kept_within test a (suc n) k e = by (test a) e (kept_within test (a + 1) n k) where
  by : (b : Bool) → cond b (Some a) (find test (range_with_len (a + 1) n)) ≡ Some k
      → (find test (range_with_len (a + 1) n) ≡ Some k → (a + 1 ≤ k) × (k < a + 1 + n)) → (a ≤ k) × (k < a + suc n)
  by true same rest = (let here : a ≡ k = cc in (omega (arith, here), omega (arith, here)))
  by false later rest = let within = rest later in (omega (arith, within.0), omega (arith, within.1))

above_within : (above to k : ℕ) → next_above above to ≡ Some k → (above + 1 ≡ k) × (above < to)
above_within above to k e = by (nat_lt above to) refl e where
  by : (b : Bool) → nat_lt above to ≡ b → cond b (Some (above + 1)) None ≡ Some k → (above + 1 ≡ k) × (above < to)
  by true below same = (cc, ltb-true above to below)
  by false not_below same = absurd cc

up_chosen : (scene : Scene) (pumping : Pumping) (part : Part) (d : SessionDeed)
    → option_map TakeUp (next_above pumping.at.up (length part.client.wrote)) ≡ Some d → LeavesFewer scene pumping part d
up_chosen scene pumping part d is =
    of_mapped (LeavesFewer scene pumping part) TakeUp (next_above pumping.at.up (length part.client.wrote))
    (λ k e. let within = above_within pumping.at.up (length part.client.wrote) k e in
    subst (λ (n : ℕ). LeavesFewer scene pumping part (TakeUp n)) within.0 (up_leaves scene pumping part within.1)) d is

down_chosen : (scene : Scene) (pumping : Pumping) (part : Part) (d : SessionDeed)
    → option_map TakeDown (next_above pumping.at.down (length part.host.wrote)) ≡ Some d → LeavesFewer scene pumping part d
down_chosen scene pumping part d is =
    of_mapped (LeavesFewer scene pumping part) TakeDown (next_above pumping.at.down (length part.host.wrote))
    (λ k e. let within = above_within pumping.at.down (length part.host.wrote) k e in
    subst (λ (n : ℕ). LeavesFewer scene pumping part (TakeDown n)) within.0 (down_leaves scene pumping part within.1)) d is

control_chosen : (scene : Scene) (pumping : Pumping) (part : Part) (b : Bool) (d : SessionDeed)
    → cond b (or_else (option_map TakeDown (next_above pumping.at.down (length part.host.wrote)))
    (option_map TakeUp (next_above pumping.at.up (length part.client.wrote))))
    (or_else (option_map TakeUp (next_above pumping.at.up (length part.client.wrote)))
    (option_map TakeDown (next_above pumping.at.down (length part.host.wrote)))) ≡ Some d
    → LeavesFewer scene pumping part d
control_chosen scene pumping part true d is =
    of_either (LeavesFewer scene pumping part) (option_map TakeDown (next_above pumping.at.down (length part.host.wrote)))
    (option_map TakeUp (next_above pumping.at.up (length part.client.wrote)))
    (down_chosen scene pumping part) (up_chosen scene pumping part) d is
control_chosen scene pumping part false d is =
    of_either (LeavesFewer scene pumping part) (option_map TakeUp (next_above pumping.at.up (length part.client.wrote)))
    (option_map TakeDown (next_above pumping.at.down (length part.host.wrote)))
    (up_chosen scene pumping part) (down_chosen scene pumping part) d is

pub pumps_advance : PumpsAdvance
pumps_advance scene every pumping part some =
    let ends : PartMarks = ends_of scene part in
    chosen (LeavesFewer scene pumping part) (option_map TakeVideo (next_kept every pumping.at.video ends.video))
    (option_map TakeAudio (next_kept every pumping.at.audio ends.audio)) (next_control pumping ends)
    (of_mapped (LeavesFewer scene pumping part) TakeVideo (next_kept every pumping.at.video ends.video) (λ k e.
    let within = kept_within (is_kept every) (pumping.at.video + 1) (ends.video - pumping.at.video) k e in
    video_leaves scene pumping part k (omega (arith, within.0)) (omega (arith, within.0, within.1))))
    (of_mapped (LeavesFewer scene pumping part) TakeAudio (next_kept every pumping.at.audio ends.audio) (λ k e.
    let within = kept_within (is_kept every) (pumping.at.audio + 1) (ends.audio - pumping.at.audio) k e in
    audio_leaves scene pumping part k (omega (arith, within.0)) (omega (arith, within.0, within.1))))
    (control_chosen scene pumping part pumping.down_is_next) some
