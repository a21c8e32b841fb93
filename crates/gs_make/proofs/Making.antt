-- What each deed of the generated schedule keeps of a session's part: its messages and control datagrams are few, and its
-- connection stays up.
use Rattle.std.proofs.Common.{◌≡◌, ◌<◌, ◌≤◌, ◌+◌, ◌-◌, ◌*◌, ℕ, zero, suc, Bool, true, false, cond, ◌&&◌, List, [], ◌∷◌, length, map, drop, Option, Some, None}
use Rattle.std.proofs.Common.{refl, sym, ap, subst, ◌∙◌, arith}
use Rattle.std.specs.Prelude.{nat_lt, slice_get}
use Rattle.std.proofs.Math.Seq.{drop-length}
use Rattle.std.proofs.lemmas.List.{length-append, length-map}
use Rattle.gs_bytes.proofs.Lists.{some_within}
use Rattle.gs_frames.specs.declared.range.Range.{Range}
use Rattle.gs_frames.specs.Client.{ClientSettings, Arrival, Datagram}
use Rattle.gs_frames.specs.Asks.{asks, as_list, newly_asked}
use Rattle.gs_frames.proofs.AsksGrow.{arrival_asks}
use Rattle.gs_enet.specs.declared.state.PeerState.{PeerState}
use Rattle.gs_enet.specs.declared.state.PeerState.TheVariants as state
use Rattle.gs_enet.specs.Record.{PeerRecord, GivenMessage, Unacknowledged, channels}
use Rattle.gs_enet.specs.Receive.{leave_if}
use Rattle.gs_enet.specs.Steps.{can_send, close_if, closed, is_full, with_message}
use Rattle.gs_enet.specs.World.{Side, Written, Send, sent_if, acted, came}
use Rattle.gs_enet.specs.Sides.{written_out}
use Rattle.gs_client_core.specs.Owed.{request_channel, owed_message}
use Rattle.gs_client_core.specs.declared.asker.Owed.TheVariants.{Lost}
use Rattle.gs_client_core.specs.declared.asker.Owed.{Owed}
use Rattle.gs_input.specs.declared.event.Event.{Event}
use Rattle.gs_schedule.specs.declared.output.Output.TheVariants as output
use Rattle.gs_run.specs.Session.{PartMarks, Part, video_of, audio_of}
use Rattle.gs_run.specs.Report.{quietly, reporting}
use Rattle.gs_run.specs.Scene.{Scene}
use Rattle.gs_run.specs.Connection.{with_owed, settled_part}
use Rattle.gs_run.specs.Hearing.{up_taken, down_taken}
use Rattle.gs_run.specs.Streaming.{with_video_if, video_taken, with_audio_if, audio_taken, turned}
use Rattle.gs_run.specs.Giving.{given, event_given}
use Rattle.gs_run.specs.Giving as giving
use Rattle.gs_run.specs.Pump.{ends_of, marked}
use Rattle.gs_run.specs.Deliveries.{deliveries_of, all_deliveries, deliveries_by, control_deliveries}
use Rattle.gs_run.proofs.SideDeliveries.{sent_leaves, came_leaves, written_out_leaves, next_of_later}
use Rattle.gs_run.proofs.Standing.{kept_out}
use Rattle.gs_run.proofs.Uses.{kept_came, wrote_came}
use Rattle.gs_make.proofs.Staying.{IsUp, sent_is_up, written_out_is_up, came_is_up, told_is_up}

-- how often the client asked
abbrev pub asked : Part → ℕ
asked part = length (asks part.settings part.came)

-- Its client has made no more messages than it asked and its user gave, and so few control datagrams may be delivered.
pub record IsMade (gives : ℕ) (at : PartMarks) (part : Part) : Type 0 where
  pub counts : length part.client.peer.given + length part.owed ≤ asked part + gives
  pub control : control_deliveries at part ≤ 4 * (asked part + gives)

pub record AreUp (part : Part) : Type 0 where
  pub client : IsUp part.client
  pub host : IsUp part.host

-- ---- what is owed is given, and both sides write out

-- A part became another: its streams and marks are as before, and no messages and deliveries were added.
pub record Settles (at : PartMarks) (p q : Part) : Type 0 where
  pub settings : q.settings ≡ p.settings
  pub history : q.history ≡ p.history
  pub came : q.came ≡ p.came
  pub marks : q.marks ≡ p.marks
  pub counts : length q.client.peer.given + length q.owed ≤ length p.client.peer.given + length p.owed
  pub control : control_deliveries at q ≤ control_deliveries at p
  pub up : AreUp p → AreUp q

settles_same : (at : PartMarks) (p : Part) → Settles at p p
settles_same at p = record {
  settings = refl;
  history = refl;
  came = refl;
  marks = refl;
  counts = omega arith;
  control = omega arith;
  up = λ k. k;
}

settles_on : (at : PartMarks) (p q r : Part) → Settles at p q → Settles at q r → Settles at p r
settles_on at p q r a b = record {
  settings = b.settings ∙ a.settings;
  history = b.history ∙ a.history;
  came = b.came ∙ a.came;
  marks = b.marks ∙ a.marks;
  counts = omega (arith, a.counts, b.counts);
  control = omega (arith, a.control, b.control);
  up = λ k. b.up (a.up k);
}

-- one message more at most
pub given_one : (channel : ℕ) (bytes : List ℕ) (s : Side) → length (acted (Send channel bytes) s).peer.given ≤ length s.peer.given + 1
unfolding with_message
given_one channel bytes s = by (nat_lt channel channels && can_send s.peer channel) where
  by : (b : Bool) → length (sent_if b channel bytes s.peer).given ≤ length s.peer.given + 1
  by true = omega (arith, length-append s.peer.given ((record { channel = channel; bytes = bytes }) ∷ []))
  by false = omega arith

pub sent_few : (channel : ℕ) (bytes : List ℕ) (s : Side) → deliveries_by (acted (Send channel bytes) s).peer ≤ deliveries_by s.peer + 4
sent_few channel bytes s = sent_leaves (nat_lt channel channels && can_send s.peer channel) channel bytes s.peer

owed_settles : (os : List Owed) (at : PartMarks) (part : Part) → Settles at (record part { owed = os }) (with_owed os part)
owed_settles [] at part = settles_same at (record part { owed = [] })
owed_settles (first ∷ rest) at part =
    let next : Part = record part { client = acted (Send request_channel (owed_message first)) part.client } in
    let more = given_one request_channel (owed_message first) part.client in
    let few = sent_few request_channel (owed_message first) part.client in
    let one : Settles at (record part { owed = first ∷ rest }) (record next { owed = rest }) = record {
      settings = refl;
      history = refl;
      came = refl;
      marks = refl;
      counts = omega (arith, more);
      control = omega (arith, few);
      up = λ k. record { client = sent_is_up request_channel (owed_message first) part.client k.client; host = k.host };
    } in
    by (can_send part.client.peer request_channel)
    (settles_on at (record part { owed = first ∷ rest }) (record next { owed = rest }) (with_owed rest next) one (owed_settles rest at next))
  where
    by : (b : Bool)
        → Settles at (record part { owed = first ∷ rest })
        (with_owed rest (record part { client = acted (Send request_channel (owed_message first)) part.client }))
        → Settles at (record part { owed = first ∷ rest })
        (cond b (with_owed rest (record part { client = acted (Send request_channel (owed_message first)) part.client }))
        (record part { owed = first ∷ rest }))
    by true given = given
    by false given = settles_same at (record part { owed = first ∷ rest })

pub settles : (now : ℕ) (at : PartMarks) (part : Part) → Settles at part (settled_part now part)
unfolding settled_part
settles now at part =
    let owes : Part = with_owed part.owed part in
    let first : Settles at part owes = owed_settles part.owed at part in
    let client = written_out_leaves now at.up owes.client in
    let host = written_out_leaves now at.down owes.host in
    let same = ap (λ (gs : List GivenMessage). length gs) (kept_out now owes.client).given in
    settles_on at part owes (record owes { client = written_out now owes.client; host = written_out now owes.host }) first (record {
      settings = refl;
      history = refl;
      came = refl;
      marks = refl;
      counts = omega (arith, same);
      control = omega (arith, client, host);
      up = λ k. record { client = written_out_is_up now owes.client k.client; host = written_out_is_up now owes.host k.host };
    })

pub asked_same : (p q : Part) → q.settings ≡ p.settings → q.came ≡ p.came → asked q ≡ asked p
asked_same p q settings came =
    ap (λ (c : ClientSettings). length (asks c q.came)) settings ∙ ap (λ (l : List Arrival). length (asks p.settings l)) came

pub made_settled : (now gives : ℕ) (at : PartMarks) (part : Part) → IsMade gives at part → IsMade gives at (settled_part now part)
made_settled now gives at part k =
    let s = settles now at part in
    let same = asked_same part (settled_part now part) s.settings s.came in
    record { counts = omega (arith, k.counts, s.counts, same); control = omega (arith, k.control, s.control, same) }

pub up_settled : (now : ℕ) (part : Part) → AreUp part → AreUp (settled_part now part)
up_settled now part k = (settles now part.marks part).up k

-- ---- the streams

pub video_made : (scene : Scene) (k gives : ℕ) (at : PartMarks) (part : Part) → IsMade gives at part → IsMade gives at (video_taken scene k part).value
unfolding video_taken
video_made scene k gives at part m = by (slice_get (video_of scene.ticks part) (k - 1)) where
  by : (o : Option (List ℕ)) → IsMade gives at (with_video_if scene.session o part).value
  by None = record { counts = m.counts; control = m.control }
  by (Some bytes) =
      let lost : List Range = as_list (newly_asked part.settings (Datagram bytes) part.came) in
      let more = ap (λ (l : List Range). length l) (arrival_asks part.settings (Datagram bytes) part.came) in
      let both = length-append (asks part.settings part.came) lost in
      let owed = length-append part.owed (map Lost lost) in
      let same = length-map lost Lost in
      record { counts = omega (arith, m.counts, more, both, owed, same); control = omega (arith, m.control, more, both, owed, same) }

pub video_up : (scene : Scene) (k : ℕ) (part : Part) → AreUp part → AreUp (video_taken scene k part).value
unfolding video_taken
video_up scene k part u = by (slice_get (video_of scene.ticks part) (k - 1)) where
  by : (o : Option (List ℕ)) → AreUp (with_video_if scene.session o part).value
  by None = u
  by (Some bytes) = record { client = u.client; host = u.host }

pub audio_made : (scene : Scene) (k gives : ℕ) (at : PartMarks) (part : Part) → IsMade gives at part → IsMade gives at (audio_taken scene k part).value
unfolding audio_taken
audio_made scene k gives at part m = by (slice_get (audio_of scene.ticks part) (k - 1)) where
  by : (o : Option (List ℕ)) → IsMade gives at (with_audio_if scene.session o part).value
  by None = record { counts = m.counts; control = m.control }
  by (Some bytes) = record { counts = m.counts; control = m.control }

pub audio_up : (scene : Scene) (k : ℕ) (part : Part) → AreUp part → AreUp (audio_taken scene k part).value
unfolding audio_taken
audio_up scene k part u = by (slice_get (audio_of scene.ticks part) (k - 1)) where
  by : (o : Option (List ℕ)) → AreUp (with_audio_if scene.session o part).value
  by None = u
  by (Some bytes) = record { client = u.client; host = u.host }

pub turn_made : (scene : Scene) (gives : ℕ) (at : PartMarks) (part : Part) → IsMade gives at part → IsMade gives at (turned scene part).value
unfolding turned
turn_made scene gives at part m = record { counts = m.counts; control = m.control }

pub turn_up : (scene : Scene) (part : Part) → AreUp part → AreUp (turned scene part).value
unfolding turned
turn_up scene part u = record { client = u.client; host = u.host }

-- ---- control datagrams

-- the next datagram of one side comes to the other
came_few : (at now : ℕ) (written : List Written) (s : Side) → at < length written
    → deliveries_by (came (slice_get written (at + 1 - 1)) now s).peer + all_deliveries (drop (at + 1) written)
    ≤ deliveries_by s.peer + all_deliveries (drop at written)
came_few at now written s below =
    let found = some_within written at below in
    let w : Written = found.0 in
    let there : slice_get written (at + 1 - 1) ≡ Some w =
    ap (λ (n : ℕ). slice_get written n) (let e : at + 1 - 1 ≡ at = omega arith in e) ∙ found.1 in
    let one : deliveries_by (came (slice_get written (at + 1 - 1)) now s).peer + 1 ≤ deliveries_by s.peer + deliveries_of w =
    subst (λ (o : Option Written). deliveries_by (came o now s).peer + 1 ≤ deliveries_by s.peer + deliveries_of w) (sym there) (came_leaves w now s) in
    let later : all_deliveries (drop at written) ≡ deliveries_of w + all_deliveries (drop (at + 1) written) =
    next_of_later at written w found.1
    ∙ ap (λ (n : ℕ). deliveries_of w + all_deliveries (drop n written)) (let e : suc at ≡ at + 1 = omega arith in e) in
    omega (arith, one, later)

pub up_made : (session now gives : ℕ) (at : PartMarks) (part : Part) → at.up < length part.client.wrote → IsMade gives at part
    → IsMade gives (record at { up = at.up + 1 }) (up_taken session now (at.up + 1) part).value
unfolding up_taken
up_made session now gives at part below m =
    let few = came_few at.up now part.client.wrote part.host below in
    let wrote = ap (λ (l : List Written). all_deliveries (drop at.down l)) (wrote_came (slice_get part.client.wrote (at.up + 1 - 1)) now part.host) in
    record { counts = m.counts; control = omega (arith, m.control, few, wrote) }

pub up_up : (session now k : ℕ) (part : Part) → AreUp part → AreUp (up_taken session now k part).value
unfolding up_taken
up_up session now k part u = record {
  client = u.client;
  host = told_is_up (came (slice_get part.client.wrote (k - 1)) now part.host) (came_is_up (k - 1) now part.host part.client u.host u.client);
}

pub down_made : (session now gives : ℕ) (at : PartMarks) (part : Part) → at.down < length part.host.wrote → IsMade gives at part
    → IsMade gives (record at { down = at.down + 1 }) (down_taken session now (at.down + 1) part).value
unfolding down_taken
down_made session now gives at part below m =
    let o : Option Written = slice_get part.host.wrote (at.down + 1 - 1) in
    let few = came_few at.down now part.host.wrote part.client below in
    let wrote = ap (λ (l : List Written). all_deliveries (drop at.up l)) (wrote_came o now part.client) in
    let same = ap (λ (gs : List GivenMessage). length gs) (kept_came o now part.client).given in
    record { counts = omega (arith, m.counts, same); control = omega (arith, m.control, few, wrote) }

pub down_up : (session now k : ℕ) (part : Part) → AreUp part → AreUp (down_taken session now k part).value
unfolding down_taken
down_up session now k part u = record {
  client = told_is_up (came (slice_get part.host.wrote (k - 1)) now part.client) (came_is_up (k - 1) now part.client part.host u.client u.host);
  host = u.host;
}

-- ---- the marks

pub mark_made : (scene : Scene) (gives : ℕ) (at : PartMarks) (part : Part) → IsMade gives at part → IsMade gives (ends_of scene part) (marked scene part)
unfolding marked
mark_made scene gives at part m =
    let up = ap all_deliveries (drop-length part.client.wrote) in
    let down = ap all_deliveries (drop-length part.host.wrote) in
    record { counts = m.counts; control = omega (arith, m.control, up, down) }

pub mark_up : (scene : Scene) (part : Part) → AreUp part → AreUp (marked scene part)
unfolding marked
mark_up scene part u = record { client = u.client; host = u.host }

-- ---- the user

pub give_made : (session : ℕ) (event : Event) (gives : ℕ) (at : PartMarks) (part : Part) → IsMade gives at part
    → IsMade (gives + 1) at (event_given session event part).value
unfolding given
give_made session event gives at part m = by _ _ (is_full part.client.peer _) where
  by : (channel : ℕ) (bytes : List ℕ) (b : Bool)
      → IsMade (gives + 1) at (cond b (reporting (output.Full session channel) part)
      (quietly (record part { client = acted (Send channel bytes) part.client }))).value
  by channel bytes true = record { counts = omega (arith, m.counts); control = omega (arith, m.control) }
  by channel bytes false =
      let more = given_one channel bytes part.client in
      let few = sent_few channel bytes part.client in
      record { counts = omega (arith, m.counts, more); control = omega (arith, m.control, few) }

pub give_up : (session : ℕ) (event : Event) (part : Part) → AreUp part → AreUp (event_given session event part).value
unfolding given
give_up session event part u = by _ _ (is_full part.client.peer _) where
  by : (channel : ℕ) (bytes : List ℕ) (b : Bool)
      → AreUp (cond b (reporting (output.Full session channel) part) (quietly (record part { client = acted (Send channel bytes) part.client }))).value
  by channel bytes true = u
  by channel bytes false = record { client = sent_is_up channel bytes part.client u.client; host = u.host }

-- the client may have to disconnect
leave_few : (s : PeerState) (us : List Unacknowledged) (r : PeerRecord) → (us ≡ r.unacknowledged)
    → (deliveries_by (leave_if s us r) ≤ deliveries_by r + 4) × ((leave_if s us r).given ≡ r.given)
leave_few state.Closing [] r same =
    let e = ap (λ (l : List Unacknowledged). length l) same in (omega arith, refl)
leave_few state.Closing (u ∷ us) r same = (omega arith, refl)
leave_few state.Connecting us r same = (omega arith, refl)
leave_few state.Accepting us r same = (omega arith, refl)
leave_few state.Connected us r same = (omega arith, refl)
leave_few state.Shut us r same = (omega arith, refl)

close_few : (s : PeerState) (r : PeerRecord) → (deliveries_by (close_if s r) ≤ deliveries_by r + 4) × ((close_if s r).given ≡ r.given)
close_few state.Connected r =
    leave_few state.Closing r.unacknowledged (record r { state = state.Closing }) refl
close_few state.Connecting r = (omega arith, refl)
close_few state.Accepting r = (omega arith, refl)
close_few state.Closing r = (omega arith, refl)
close_few state.Shut r = (omega arith, refl)

pub close_made : (gives : ℕ) (at : PartMarks) (part : Part) → IsMade gives at part → IsMade (gives + 1) at (giving.closed_part part).value
unfolding giving.closed_part closed
close_made gives at part m =
    let few = close_few part.client.peer.state part.client.peer in
    let same = ap (λ (gs : List GivenMessage). length gs) few.1 in
    record { counts = omega (arith, m.counts, same); control = omega (arith, m.control, few.0) }
