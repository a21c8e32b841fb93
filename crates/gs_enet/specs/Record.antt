-- What one side of a connection is. A channel's messages are numbered from 1, without wrap; the protocol's
-- `reliableSequenceNumber` is that number modulo 2^16. Moments are in milliseconds (`serviceTime`).
use Rattle.std.specs.Prelude.{ℕ, ◌-◌, ◌^◌, ◌==◌, Bool, true, false, if◌then◌else◌, List, [], ◌∷◌, ◌++◌, length, map}
use Rattle.std.specs.Prelude.{max, Option, Some, None}
use Rattle.std.specs.List.{filter}
use Rattle.gs_enet.specs.declared.answer.Answer.{Answer}
use Rattle.gs_enet.specs.declared.limits.TheConstants.{CHANNELS, CONTROL, NOBODY, MOST_MESSAGE, DATAGRAM_ROOM}
use Rattle.gs_enet.specs.declared.limits.TheConstants.{WINDOW_SPAN}
use Rattle.gs_enet.specs.declared.event.PeerEvent.{PeerEvent}
use Rattle.gs_enet.specs.declared.event.PeerEvent.TheVariants as event
use Rattle.gs_enet.specs.declared.state.PeerState.{PeerState}
use Rattle.gs_enet.specs.declared.state.PeerState.TheVariants as state

-- how many channels carry messages (`channelCount`)
abbrev pub channels : ℕ
channels = CHANNELS

-- the channel of the commands that are no messages
abbrev pub control : ℕ
control = CONTROL

-- the id by which no side is addressed (`ENET_PROTOCOL_MAXIMUM_PEER_ID`)
abbrev pub nobody : ℕ
nobody = NOBODY

-- the most bytes of a message
abbrev pub most_message : ℕ
most_message = MOST_MESSAGE

-- the most bytes of a datagram that a side writes (`mtu`)
abbrev pub datagram_room : ℕ
datagram_room = DATAGRAM_ROOM

-- how many numbers the window of a channel spans
abbrev pub window_span : ℕ
window_span = WINDOW_SPAN

-- no message has this number
abbrev pub last_number : ℕ
last_number = 2 ^ 64 - 1

-- what a command says, besides its channel and its number
pub data Content : Type 0 where
  Connect : Content
  VerifyConnect : Content
  Disconnect : Content
  Message : (bytes : List ℕ) → Content

-- a command that asks for an acknowledgement: a message on its channel, any other on the control channel
pub record Order : Type 0 where
  pub content : Content
  pub channel : ℕ
  pub number : ℕ

-- a command that isn't acknowledged yet: how often it was written (`sendAttempts`), the moment of the last writing
-- (`sentTime`), and whether it is to be written
pub record Unacknowledged : Type 0 where
  pub order : Order
  pub writes : ℕ
  pub written : ℕ
  pub due : Bool

-- a message that the user gave to be sent
pub record GivenMessage : Type 0 where
  pub channel : ℕ
  pub bytes : List ℕ

pub record PeerRecord : Type 0 where
  pub state : PeerState
  -- the id by which the other side addresses this one (`incomingPeerID`), and that by which this one addresses the
  -- other (`outgoingPeerID`), once it is known
  pub own : ℕ
  pub other : Option ℕ
  -- the number that both sides know the connection by (`connectID`)
  pub connect_id : ℕ
  -- the number that a client's connect carries (`data`); a host has none
  pub extra : Option ℕ
  -- the greatest moment that it was told, in milliseconds (`serviceTime`)
  pub now : ℕ
  -- whether it has read a disconnect
  pub disconnected : Bool
  -- the last number that it used on the control channel
  pub last_control : ℕ
  -- every message given, in order
  pub given : List GivenMessage
  -- every event told, in order, and those that wait to be told
  pub told : List PeerEvent
  pub waiting : List PeerEvent
  -- the answers that it owes, in the order in which they arose
  pub pending : List Answer
  -- in the order in which they are written: the control channel first, then channels rising, numbers rising
  pub unacknowledged : List Unacknowledged

-- ---- what was given and what was told, by channel

abbrev pub given_on : ℕ → List GivenMessage → List (List ℕ)
given_on channel [] = []
given_on channel (g ∷ gs) = if g.channel == channel then g.bytes ∷ given_on channel gs else given_on channel gs

abbrev pub messages_on : ℕ → List PeerEvent → List (List ℕ)
messages_on channel [] = []
messages_on channel (event.Message c number bytes ∷ es) =
    if c == channel then bytes ∷ messages_on channel es else messages_on channel es
messages_on channel (event.Connected ∷ es) = messages_on channel es
messages_on channel (event.Closed ∷ es) = messages_on channel es
messages_on channel (event.PeerClosed ∷ es) = messages_on channel es
messages_on channel (event.Lost c number ∷ es) = messages_on channel es

-- the messages told on a channel
abbrev pub told : PeerRecord → ℕ → List (List ℕ)
told r channel = messages_on channel r.told

-- every event that arose, told or not
abbrev pub heard : PeerRecord → List PeerEvent
heard r = r.told ++ r.waiting

-- how many messages were given on a channel, and how many are told there or wait
abbrev pub given_count : PeerRecord → ℕ → ℕ
given_count r channel = length (given_on channel r.given)

abbrev pub heard_count : PeerRecord → ℕ → ℕ
heard_count r channel = length (messages_on channel (heard r))

-- ---- small changes of a record

-- the commands that aren't acknowledged yet
abbrev pub orders : PeerRecord → List Order
orders r = map (λ u. u.order) r.unacknowledged

abbrev pub is_shut : PeerState → Bool
is_shut state.Shut = true
is_shut _ = false

-- the moment: one that is smaller than the last counts as the last
abbrev pub at_moment : ℕ → PeerRecord → PeerRecord
at_moment now r = record r { now = max r.now now }

-- an event waits to be told
abbrev pub happened : PeerEvent → PeerRecord → PeerRecord
happened e r = record r { waiting = r.waiting ++ e ∷ [] }

-- an answer is owed
abbrev pub owing : Answer → PeerRecord → PeerRecord
owing a r = record r { pending = r.pending ++ a ∷ [] }

-- the connection is over, and of the answers that are owed only those to a disconnect are still written
abbrev pub shut : PeerRecord → PeerRecord
shut r = record r { state = state.Shut; pending = filter (λ a. a.to_disconnect) r.pending }

-- a command to be written, which wasn't written yet
abbrev pub fresh : Content → ℕ → ℕ → Unacknowledged
fresh content channel number = record {
  order = record { content = content; channel = channel; number = number };
  writes = 0;
  written = 0;
  due = true;
}

-- ---- new sides

-- A side without messages, events and answers, which holds its first command, due and never written.
abbrev pub opened : PeerState → ℕ → Option ℕ → ℕ → Option ℕ → Content → ℕ → PeerRecord
opened state own other connect_id extra content now =
    record {
      state = state;
      own = own;
      other = other;
      connect_id = connect_id;
      extra = extra;
      now = now;
      disconnected = false;
      last_control = 1;
      given = [];
      told = [];
      waiting = [];
      pending = [];
      unacknowledged = fresh content control 1 ∷ [];
    }

-- a client, and a host that answers a connect with that connect id from a side with that id
abbrev pub connecting : ℕ → ℕ → ℕ → ℕ → PeerRecord
connecting own connect_id extra now = opened state.Connecting own None connect_id (Some extra) Connect now

abbrev pub accepting : ℕ → ℕ → ℕ → ℕ → PeerRecord
accepting own other connect_id now = opened state.Accepting own (Some other) connect_id None VerifyConnect now
