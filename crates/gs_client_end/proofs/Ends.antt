-- What a client's end stands for behind each call.
use Rattle.std.proofs.Common.{◌≡◌, ◌+◌, ◌-◌, ℕ, suc, Bool, true, false, not, ◌&&◌, ◌||◌, List, [], ◌∷◌, ◌++◌, length, take, drop, Ok, Err, refl, sym, ap, subst}
use Rattle.std.proofs.Common.{◌∙◌, arith}
use Rattle.std.specs.Prelude.{nat_lt, if◌then◌else◌}
use Rattle.std.specs.List.{flat_map}
use Rattle.std.proofs.Math.Seq.{take-append_seam}
use Rattle.std.proofs.lemmas.Bool.{and_parts, or_right, or_left, and_from, not-true}
use Rattle.std.proofs.lemmas.List.{length-drop}
use Rattle.gs_control.specs.declared.message.Message.{Message}
use Rattle.gs_control.specs.Message.{bytes_of}
use Rattle.gs_enet.specs.declared.send_error.SendError.TheVariants.{WindowFull}
use Rattle.gs_enet.specs.declared.event.PeerEvent.{PeerEvent}
use Rattle.gs_enet.specs.Record.{PeerRecord, channels}
use Rattle.gs_enet.specs.Steps.{is_open, is_full, can_send}
use Rattle.gs_enet.specs.World.{Side, Send, Close, acted, sent_if}
use Rattle.gs_enet.specs.Sides.{all_told, written_out}
use Rattle.gs_schedule.specs.declared.output.Output.TheVariants as output
use Rattle.gs_client_core.specs.declared.client.Client.{Client}
use Rattle.gs_client_core.specs.declared.asker.Owed.{Owed}
use Rattle.gs_client_core.specs.Owed.{request_channel, owed_message, asked, all_asked, going}
use Rattle.gs_client_core.specs.Standing.{IsClientOf}
use Rattle.gs_sides.specs.declared.side.ControlSide.{ControlSide}
use Rattle.gs_sides.specs.Standing.{IsSideOf}
use Rattle.gs_sides.specs.Outcomes.{SideTellsAll, SideSends, SideTakes, GivesOwed}
use Rattle.gs_run.specs.Session.{Part}
use Rattle.gs_run.specs.Connection.{with_owed, settled_part}
use Rattle.gs_run.specs.Report.{Acted, quietly, reporting, plain}
use Rattle.gs_run.specs.Hearing.{client_reports, client_hears, down_taken}
use Rattle.gs_run.specs.Giving.{given, closed_part}
use Rattle.gs_run.specs.Refusal.{has_made_most, is_client_open}
use Rattle.gs_report.specs.Reporting.{Reporting, with_reports, Did}
use Rattle.gs_report.proofs.Reported.{with_none}
use Rattle.gs_client_end.specs.declared.end.ClientEnd.{ClientEnd}
use Rattle.gs_client_end.specs.declared.sums.ClientSums.{ClientSums}
use Rattle.gs_client_end.specs.Standing.{IsClientEndOf}
use Rattle.gs_client_end.specs.Steps.{GivesMessage}
use Rattle.gs_client_end.specs.Outcomes.{TakesDown}

-- nothing but its side changes
pub record IsMoved (old new : ClientEnd) : Type 0 where
  pub session : new.session ≡ old.session
  pub client : new.client ≡ old.client
  pub asker : new.asker ≡ old.asker
  pub owed : new.owed ≡ old.owed
  pub sums : new.sums ≡ old.sums

pub side_moves : (old new : ClientEnd) (session : ℕ) (part : Part) (x : Side) → IsClientEndOf old session part → IsMoved old new
    → IsSideOf new.side x → IsClientEndOf new session (record part { client = x })
side_moves old new session part x h same side =
    record {
      session_is = same.session ∙ h.session_is;
      client = subst (λ (c : Client). IsClientOf c part.settings part.came part.sound) (sym same.client) h.client;
      side = side;
      asker = same.asker ∙ h.asker;
      owed = same.owed ∙ h.owed;
      sums = record {
        handed = ap (λ (s : ClientSums). s.handed) same.sums ∙ h.sums.handed;
        asks = ap (λ (s : ClientSums). s.asks) same.sums ∙ h.sums.asks;
        units = ap (λ (s : ClientSums). s.units) same.sums ∙ h.sums.units;
      };
    }

-- ---- the user

pub closes : (old new : ClientEnd) (session : ℕ) (part : Part) → IsClientEndOf old session part → IsMoved old new
    → IsSideOf new.side (acted Close part.client) → IsClientEndOf new session (closed_part part).value
unfolding closed_part
closes old new session part h same side = side_moves old new session part (acted Close part.client) h same side

neither_holds : (a b c : Bool) → b ≡ false → c ≡ false → (a && (b || c)) ≡ false
neither_holds true false false e f = refl
neither_holds false false false e f = refl
neither_holds a true c e f = cc
neither_holds a b true e f = cc

given_quietly : (session channel : ℕ) (bytes : List ℕ) (part : Part) → is_full part.client.peer channel ≡ false
    → given session channel bytes part ≡ quietly (record part { client = acted (Send channel bytes) part.client })
unfolding given
given_quietly session channel bytes part room = rw room refl

given_full : (session channel : ℕ) (bytes : List ℕ) (part : Part) → is_full part.client.peer channel ≡ true
    → given session channel bytes part ≡ reporting (output.Full session channel) part
unfolding given
given_full session channel bytes part full = rw full refl

-- the message was given
pub message_given : (old new : ClientEnd) (session channel number : ℕ) (bytes : List ℕ) (part : Part) (most : Bool) (r : Reporting)
    → IsClientEndOf old session part → most ≡ has_made_most channel part → IsMoved old new
    → SideSends part.client channel bytes (Ok number) new.side → GivesMessage session channel bytes part (not most) new r r
message_given old new session channel number bytes part most r h most_is same sends =
    let able = and_parts (is_open part.client.peer.state) (not (is_full part.client.peer channel)) sends.0 in
    by able.0 (not-true (is_full part.client.peer channel) able.1) most most_is
  where
    by : is_open part.client.peer.state ≡ true → is_full part.client.peer channel ≡ false → (most : Bool) → most ≡ has_made_most channel part
        → GivesMessage session channel bytes part (not most) new r r
    by open' room true is = (
      neither_holds (is_client_open part) (is_full part.client.peer channel) (not (has_made_most channel part)) room (ap not (sym is)),
      refl,
    )
    by open' room false is = (
      and_from (is_client_open part) (is_full part.client.peer channel || not (has_made_most channel part)) open'
          (or_right (is_full part.client.peer channel) (not (has_made_most channel part)) (ap not (sym is))),
      subst (λ (did : Acted Part). Did (IsClientEndOf new session) did r r) (sym (given_quietly session channel bytes part room)) (record {
        stands = side_moves old new session part (acted (Send channel bytes) part.client) h same sends.2;
        text = sym (with_none r);
      }),
    )

-- the window is full
pub window_full : (old new : ClientEnd) (session channel : ℕ) (bytes : List ℕ) (part : Part) (before now : Reporting)
    → IsClientEndOf old session part → IsMoved old new → SideSends part.client channel bytes (Err WindowFull) new.side
    → now ≡ with_reports before (plain (output.Full old.session channel) ∷ [])
    → GivesMessage session channel bytes part true new before now
window_full old new session channel bytes part before now h same sends text = (
  and_from (is_client_open part) (is_full part.client.peer channel || not (has_made_most channel part)) sends.0
      (or_left (is_full part.client.peer channel) (not (has_made_most channel part)) sends.1),
  subst (λ (did : Acted Part). Did (IsClientEndOf new session) did before now) (sym (given_full session channel bytes part sends.1)) (record {
    stands = side_moves old new session part part.client h same sends.2;
    text = subst (λ (s : ℕ). now ≡ with_reports before (plain (output.Full s channel) ∷ [])) h.session_is text;
  }),
)

-- the bytes that were written are those of the message
pub bytes_written : (message : Message) (old new : List ℕ) (n : ℕ) → n ≡ length (bytes_of message) → new ≡ bytes_of message ++ drop n old
    → take n new ≡ bytes_of message
bytes_written message old new n size written =
    ap (take n) written ∙ ap (λ (k : ℕ). take k (bytes_of message ++ drop n old)) size ∙ take-append_seam (bytes_of message) (drop n old)

-- of one channel and the same bytes
pub same_message : (session channel other : ℕ) (bytes others : List ℕ) (part : Part) (done : Bool) (new : ClientEnd) (before now : Reporting)
    → channel ≡ other → bytes ≡ others → GivesMessage session channel bytes part done new before now
    → GivesMessage session other others part done new before now
same_message session channel other bytes others part done new before now channel_is bytes_are gives =
    subst (λ (l : List ℕ). GivesMessage session other l part done new before now) bytes_are
    (subst (λ (c : ℕ). GivesMessage session c bytes part done new before now) channel_is gives)

-- ---- settled

-- the first so many of what is owed are given
abbrev given_first : ℕ → List Owed → Part → Part
given_first k owed part = record part {
  client = record (part.client) { peer = all_asked (take k owed) part.client.peer };
  owed = drop k owed;
}

-- what is owed goes as far as the window takes it
with_owed-is : (owed : List Owed) (part : Part) → with_owed owed part ≡ given_first (going part.client.peer owed) owed part
with_owed-is [] part = refl
with_owed-is (first ∷ rest) part =
    by (with_owed-is rest (record part { client = record (part.client) { peer = asked first part.client.peer } }))
    (can_send part.client.peer request_channel)
  where
    r : PeerRecord
    r = part.client.peer

    moved : Bool → Part
    moved b = record part { client = record (part.client) { peer = sent_if (nat_lt 1 channels && b) 1 (owed_message first) r } }

    by : with_owed rest (moved true) ≡ given_first (going (asked first r) rest) rest (moved true) → (b : Bool)
        → (if b then with_owed rest (moved b) else record part { owed = first ∷ rest })
        ≡ given_first (if b then suc (going (asked first r) rest) else 0) (first ∷ rest) part
    by more true = more
    by more false = refl

pub settles : (old new : ClientEnd) (mid : ControlSide) (session now count : ℕ) (part : Part) → IsClientEndOf old session part
    → GivesOwed part.client old.asker new.asker count mid
    → ((x : Side) → IsSideOf mid x → IsSideOf new.side (written_out now x))
    → new.session ≡ old.session → new.client ≡ old.client → new.owed + count ≡ old.owed → new.sums ≡ old.sums
    → IsClientEndOf new session (settled_part now part)
unfolding settled_part
settles old new mid session now count part h gives writes session_same client_same owed_is sums_same =
    let k = going part.client.peer part.owed in
    let count_is : count ≡ k = gives.count_is ∙ ap (going part.client.peer) h.asker in
    let went : Side = record (part.client) { peer = all_asked (take k part.owed) part.client.peer } in
    let stands : IsSideOf mid went =
    subst (λ (n : ℕ). IsSideOf mid (record (part.client) { peer = all_asked (take n part.owed) part.client.peer })) count_is
    (subst (λ (os : List Owed). IsSideOf mid (record (part.client) { peer = all_asked (take count os) part.client.peer })) h.asker gives.stands) in
    let stays : new.asker ≡ drop k part.owed =
    gives.stays_are ∙ ap (λ (os : List Owed). drop count os) h.asker ∙ ap (λ (n : ℕ). drop n part.owed) count_is in
    let size : length (drop k part.owed) ≡ length part.owed - k = length-drop k part.owed in
    let had = h.owed in
    subst (λ (p : Part). IsClientEndOf new session (record p { client = written_out now p.client; host = written_out now p.host }))
    (sym (with_owed-is part.owed part)) (record {
      session_is = session_same ∙ h.session_is;
      client = subst (λ (c : Client). IsClientOf c part.settings part.came part.sound) (sym client_same) h.client;
      side = writes went stands;
      asker = stays;
      owed = omega (arith, owed_is, count_is, size, had);
      sums = record {
        handed = ap (λ (s : ClientSums). s.handed) sums_same ∙ h.sums.handed;
        asks = ap (λ (s : ClientSums). s.asks) sums_same ∙ h.sums.asks;
        units = ap (λ (s : ClientSums). s.units) sums_same ∙ h.sums.units;
      };
    })

-- ---- what it is told

-- its side went on to another, and told what arose
pub hears : (old new : ClientEnd) (session : ℕ) (part : Part) (x : Side) (events : List PeerEvent) (before now : Reporting)
    → IsClientEndOf old session part → IsMoved old new → SideTellsAll x events new.side
    → now ≡ with_reports before (flat_map (client_reports old.session) events)
    → Did (IsClientEndOf new session) (client_hears session (record part { client = x })) before now
hears old new session part x events before now h same tells text =
    record {
      stands = side_moves old new session part (record x { peer = all_told x.peer }) h same tells.stands;
      text = text ∙ ap (λ (s : ℕ). with_reports before (flat_map (client_reports s) events)) h.session_is
          ∙ ap (λ (es : List PeerEvent). with_reports before (flat_map (client_reports session) es)) tells.events_are;
    }

pub takes_down : (old new : ClientEnd) (session moment k : ℕ) (part : Part) (events : List PeerEvent) (before now : Reporting)
    → IsClientEndOf old session part → IsMoved old new → SideTakes part.client part.host k moment true events new.side
    → now ≡ with_reports before (flat_map (client_reports old.session) events)
    → TakesDown session moment k part true new before now
unfolding down_taken
takes_down old new session moment k part events before now h same takes text =
    (takes.0, hears old new session part _ events before now h same takes.1 text)
