-- What a side does when its user calls, and when time passes.
use Rattle.std.specs.Prelude.{ℕ, ◌+◌, ◌-◌, ◌*◌, ◌^◌, ◌%◌, ◌==◌, ◌&&◌, ◌||◌, not, Bool, true, false, if◌then◌else◌}
use Rattle.std.specs.Prelude.{nat_lt, nat_le, min, List, [], ◌∷◌, ◌++◌, find, map, Option, Some, None}
use Rattle.std.specs.List.{list_any}
use Rattle.gs_enet.specs.declared.event.PeerEvent.{PeerEvent}
use Rattle.gs_enet.specs.declared.event.PeerEvent.TheVariants as event
use Rattle.gs_enet.specs.declared.limits.TheConstants.{FIRST_WAIT, LONGEST_WAIT, MOST_WRITES}
use Rattle.gs_enet.specs.declared.state.PeerState.{PeerState}
use Rattle.gs_enet.specs.declared.state.PeerState.TheVariants as state
use Rattle.gs_enet.specs.Record.{PeerRecord, Message, Order, Unacknowledged, window_span, last_number, given_count}
use Rattle.gs_enet.specs.Record.{is_shut, at_moment, happened, shut, fresh}
use Rattle.gs_enet.specs.Receive.{leaving}

-- ---- send

-- the number that the next message given on a channel gets
abbrev pub next_number : PeerRecord → ℕ → ℕ
next_number r channel = given_count r channel + 1

-- The window of a channel is full: a number of it that isn't acknowledged is the window's span below the next. (No
-- number is further below.)
abbrev pub is_full : PeerRecord → ℕ → Bool
is_full r channel =
    list_any
    (λ (u : Unacknowledged). (u.order.channel == channel)
    && nat_le (u.order.number + window_span) (next_number r channel))
    r.unacknowledged
    || nat_le last_number (next_number r channel)

-- the control channel, the last that a byte can name, stands before channel 0
abbrev pub rank : ℕ → ℕ
rank channel = (channel + 1) % 256

abbrev pub comes_before : Order → Order → Bool
comes_before a b = nat_lt (rank a.channel) (rank b.channel) || ((a.channel == b.channel) && nat_lt a.number b.number)

-- a command, put at its place among the others
abbrev pub placed : Unacknowledged → List Unacknowledged → List Unacknowledged
placed u [] = u ∷ []
placed u (v ∷ vs) = if comes_before u.order v.order then u ∷ v ∷ vs else v ∷ placed u vs

-- the message is given, numbered and due
unfoldable pub with_message : ℕ → List ℕ → PeerRecord → PeerRecord
with_message channel bytes r =
    record r {
      given = r.given ++ (record { channel = channel; bytes = bytes }) ∷ [];
      unacknowledged = placed (fresh (Message bytes) channel (next_number r channel)) r.unacknowledged;
    }

abbrev pub is_open : PeerState → Bool
is_open state.Connected = true
is_open _ = false

-- a message is given only where the connection is up and the channel's window isn't full
abbrev pub can_send : PeerRecord → ℕ → Bool
can_send r channel = is_open r.state && not (is_full r channel)

-- ---- close

abbrev pub close_if : PeerState → PeerRecord → PeerRecord
close_if state.Connected r = leaving (record r { state = state.Closing })
close_if _ r = r

-- from Connected the side is closing; it disconnects once all that it sent is acknowledged
unfoldable pub closed : PeerRecord → PeerRecord
closed r = close_if r.state r

-- ---- the next event

abbrev pub first_event : List PeerEvent → Option PeerEvent
first_event [] = None
first_event (e ∷ es) = Some e

abbrev pub next_event : PeerRecord → Option PeerEvent
next_event r = first_event r.waiting

abbrev pub telling : List PeerEvent → PeerRecord → PeerRecord
telling [] r = r
telling (e ∷ es) r = record r { told = r.told ++ e ∷ []; waiting = es }

-- the event that has waited longest is told
unfoldable pub told_next : PeerRecord → PeerRecord
told_next r = telling r.waiting r

-- ---- time

-- milliseconds that the first writing of a command waits for its acknowledgement, and the most that any one waits
abbrev pub first_wait : ℕ
first_wait = FIRST_WAIT

abbrev pub longest_wait : ℕ
longest_wait = LONGEST_WAIT

-- milliseconds that the n-th writing waits: each wait is twice the one before, up to the longest
abbrev pub wait_after : ℕ → ℕ
wait_after n = min longest_wait (first_wait * 2 ^ (n - 1))

-- the most writings of one command
abbrev pub most_writes : ℕ
most_writes = MOST_WRITES

-- the command was written, and its wait has passed
abbrev pub has_waited : ℕ → Unacknowledged → Bool
has_waited now u = not u.due && nat_le (u.written + wait_after u.writes) now

-- the command had its last wait
abbrev pub had_last_wait : ℕ → Unacknowledged → Bool
had_last_wait now u = has_waited now u && nat_le most_writes u.writes

abbrev pub due_again : ℕ → Unacknowledged → Unacknowledged
due_again now u = record u { due = u.due || has_waited now u }

-- A command that is lost ends the connection; the event names the first. Else each that has waited is due again.
abbrev pub timed_if : (over : Bool) → Option Unacknowledged → PeerRecord → PeerRecord
timed_if true lost r = r
timed_if false (Some u) r = shut (happened (event.Lost u.order.channel u.order.number) r)
timed_if false None r = record r { unacknowledged = map (due_again r.now) r.unacknowledged }

abbrev pub timed_at : PeerRecord → PeerRecord
timed_at r = timed_if (is_shut r.state) (find (had_last_wait r.now) r.unacknowledged) r

unfoldable pub timed : ℕ → PeerRecord → PeerRecord
timed now r = timed_at (at_moment now r)

-- the channel and the number by which a command is named
abbrev pub name_of : Unacknowledged → ℕ × ℕ
name_of u = (u.order.channel, u.order.number)
