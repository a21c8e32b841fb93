-- What a call of a client's end did, over a part that it stood for.
use Rattle.std.specs.Prelude.{ℕ, ◌≡◌, ◌&&◌, Bool, true, false, not, List, Some}
use Rattle.gs_input.specs.declared.event.Event.{Event}
use Rattle.gs_store.specs.Named.{is_nameable}
use Rattle.gs_enet.specs.World.{Time, acted}
use Rattle.gs_client_core.specs.Owed.{request_channel}
use Rattle.gs_run.specs.Session.{Part}
use Rattle.gs_run.specs.Message.{event_channel}
use Rattle.gs_run.specs.Report.{Acted}
use Rattle.gs_run.specs.Hearing.{client_hears, down_taken}
use Rattle.gs_run.specs.Streaming.{with_video, reset}
use Rattle.gs_run.specs.Giving.{event_given, idr_asked, closed_part}
use Rattle.gs_run.specs.Refusal.{has_made_most, is_client_open, may_give, makes_ask}
use Rattle.gs_report.specs.Reporting.{Reporting, Did}
use Rattle.gs_client_end.specs.declared.end.ClientEnd.{ClientEnd}
use Rattle.gs_client_end.specs.Standing.{IsClientEndOf}

-- It was done exactly where it is allowed. Where it is not, nothing is reported, and nothing is said of the end any
-- more: the run has refused the deed, and ends. A message that a channel may not have, and a datagram with which the
-- client may not ask, were taken by then.
abbrev pub DoneIf : Bool → ℕ → Acted Part → Bool → ClientEnd → Reporting → Reporting → Type 0
DoneIf allowed session did true new before now = (allowed ≡ true) × Did (IsClientEndOf new session) did before now
DoneIf allowed session did false new before now = (allowed ≡ false) × (now ≡ before)

-- no ask is made behind the last that a channel may have
abbrev pub may_take : List ℕ → Part → Bool
may_take bytes part = not (makes_ask (Some bytes) part && has_made_most request_channel part)

abbrev pub TakesVideo : ℕ → Part → List ℕ → Bool → ClientEnd → Reporting → Reporting → Type 0
TakesVideo session part bytes = DoneIf (may_take bytes part) session (with_video session bytes part)

-- the control datagram of that number of those that the host wrote
abbrev pub TakesDown : ℕ → ℕ → ℕ → Part → Bool → ClientEnd → Reporting → Reporting → Type 0
TakesDown session now k part = DoneIf (is_nameable part.host.wrote k) session (down_taken session now k part)

abbrev pub Gives : ℕ → Event → Part → Bool → ClientEnd → Reporting → Reporting → Type 0
Gives session event part = DoneIf (may_give (event_channel event) part) session (event_given session event part)

abbrev pub AsksIdr : ℕ → Part → Bool → ClientEnd → Reporting → Reporting → Type 0
AsksIdr session part = DoneIf (may_give request_channel part) session (idr_asked session part)

abbrev pub Resets : ℕ → Part → Bool → ClientEnd → Reporting → Reporting → Type 0
Resets session part =
    DoneIf (is_client_open part && not (has_made_most request_channel part)) session (reset session part)

abbrev pub Closes : ℕ → Part → Bool → ClientEnd → Type 0
Closes session part true new = (is_client_open part ≡ true) × IsClientEndOf new session (closed_part part).value
Closes session part false new = is_client_open part ≡ false

-- its timers run
abbrev pub client_timed : ℕ → ℕ → Part → Acted Part
client_timed session now part = client_hears session (record part { client = acted (Time now) part.client })
