-- What the host and the client do with a control datagram, and with what their sides then have to tell.
use Rattle.std.specs.Prelude.{ℕ, ℤ, ◌+◌, ◌-◌, ◌&&◌, Bool, List, [], ◌∷◌, pos, unsigned_abs, int_le}
use Rattle.std.specs.Prelude.{slice_get, if◌then◌else◌}
use Rattle.std.specs.List.{flat_map}
use Rattle.gs_refs.specs.declared.entry.Entry.{Entry}
use Rattle.gs_refs.specs.declared.entry.Entry.TheVariants as entry
use Rattle.gs_refs.specs.History.{frames, has_ended}
use Rattle.gs_refs.specs.Answers.{named_range}
use Rattle.gs_enet.specs.declared.event.PeerEvent.{PeerEvent}
use Rattle.gs_enet.specs.declared.event.PeerEvent.TheVariants as event
use Rattle.gs_enet.specs.World.{Time, acted, came}
use Rattle.gs_schedule.specs.declared.output.Output.{Output}
use Rattle.gs_schedule.specs.declared.output.Output.TheVariants as output
use Rattle.gs_run.specs.Session.{Part}
use Rattle.gs_run.specs.Report.{Report, plain, Acted, quietly, reporting, ◌>>=◌}
use Rattle.gs_run.specs.Message.{Act, Invalidate, AskIdr, Input, Nothing, act_of}
use Rattle.gs_enet.specs.Sides.{all_told}

-- ---- the host's history

-- what is reported of an entry that comes behind a history
abbrev pub entry_output : ℕ → List Entry → Entry → Output
entry_output session h (entry.Sent tick kind reference) = output.Sent session (frames h + 1) kind tick reference
entry_output session h (entry.Invalid first last) = output.Invalid session first last
entry_output session h entry.IdrAsked = output.Idr session
entry_output session h (entry.Ended first last) = output.Ended session first last

abbrev pub entered : ℕ → Entry → List Entry → Acted (List Entry)
entered session e h = reporting (entry_output session h e) (e ∷ h)

-- nothing is entered behind the end
abbrev pub entered_unless_ended : ℕ → Entry → List Entry → Acted (List Entry)
entered_unless_ended session e h = if has_ended h then quietly h else entered session e h

-- ---- what is heard

-- the host acts on a message, whichever channel it came on
abbrev pub acts_on : ℕ → ℕ → Act → List Entry → Acted (List Entry)
acts_on session channel (Invalidate first last) h =
    entered_unless_ended session (named_range (frames h) first last) h
acts_on session channel AskIdr h = entered_unless_ended session entry.IdrAsked h
acts_on session channel (Input event) h = reporting (output.Input session channel event) h
acts_on session channel Nothing h = quietly h

abbrev pub host_heard : ℕ → PeerEvent → List Entry → Acted (List Entry)
host_heard session (event.Message channel number bytes) h = acts_on session channel (act_of bytes) h
host_heard session event.PeerClosed h = reporting (output.Closed session) h
host_heard session (event.Lost channel number) h = reporting (output.Lost session) h
host_heard session event.Connected h = quietly h
host_heard session event.Closed h = quietly h

abbrev pub all_heard : ℕ → List PeerEvent → List Entry → Acted (List Entry)
all_heard session [] h = quietly h
all_heard session (e ∷ es) h = do
  heard ← host_heard session e h
  all_heard session es heard

-- the host hears all that its side has to tell
abbrev pub host_hears : ℕ → Part → Acted Part
host_hears session part = do
  history ← all_heard session part.host.peer.waiting part.history
  quietly (record part { history = history; host = record (part.host) { peer = all_told part.host.peer } })

-- a client is told nothing but how its connection fares
abbrev pub client_reports : ℕ → PeerEvent → List Report
client_reports session (event.Lost channel number) = plain (output.Lost session) ∷ []
client_reports session _ = []

abbrev pub client_hears : ℕ → Part → Acted Part
client_hears session part = record {
  value = record part { client = record (part.client) { peer = all_told part.client.peer } };
  reports = flat_map (client_reports session) part.client.peer.waiting;
}

-- ---- the deeds

-- the host is given the k-th datagram that the client wrote
unfoldable pub up_taken : ℕ → ℕ → ℕ → Part → Acted Part
up_taken session now k part =
    host_hears session (record part { host = came (slice_get part.client.wrote (k - 1)) now part.host })

-- the client is given the k-th datagram that the host wrote
unfoldable pub down_taken : ℕ → ℕ → ℕ → Part → Acted Part
down_taken session now k part =
    client_hears session (record part { client = came (slice_get part.host.wrote (k - 1)) now part.client })

-- the timers of both sides run, the client's first
unfoldable pub timed_part : ℕ → ℕ → Part → Acted Part
timed_part session now part = do
  client ← client_hears session (record part { client = acted (Time now) part.client })
  host_hears session (record client { host = acted (Time now) client.host })
