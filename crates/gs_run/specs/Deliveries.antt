-- How many deliveries a pump may still make, at most: a number that each delivery lessens.
use Rattle.std.specs.Prelude.{ℕ, ◌+◌, ◌-◌, ◌*◌, Bool, true, false, List, [], ◌∷◌, length, drop}
use Rattle.std.specs.List.{filter}
use Rattle.gs_enet.specs.Record.{PeerRecord, Content, Message, Unacknowledged}
use Rattle.gs_enet.specs.Write.{Item, Answers, Orders, is_due}
use Rattle.gs_enet.specs.World.{Written}
use Rattle.gs_run.specs.Session.{PartMarks, Part, video_of, audio_of}
use Rattle.gs_run.specs.Scene.{Scene}
use Rattle.gs_run.specs.Pump.{Pumping}

-- ---- one side's control datagrams

-- a command that asks for an answer
abbrev pub is_order : Item → Bool
is_order (Answers answer) = false
is_order (Orders order) = true

-- a datagram that is to be delivered, and an answer to each of its commands
abbrev pub deliveries_of : Written → ℕ
deliveries_of written = 1 + length (filter is_order written.items)

abbrev pub all_deliveries : List Written → ℕ
all_deliveries [] = 0
all_deliveries (written ∷ rest) = deliveries_of written + all_deliveries rest

abbrev pub is_message_content : Content → Bool
is_message_content (Message bytes) = true
is_message_content _ = false

abbrev pub carries_message : Unacknowledged → Bool
carries_message u = is_message_content u.order.content

-- What a side may still write: an answer that it owes makes one delivery, a command that is due two, since it is
-- answered. The last message that is acknowledged may let its side disconnect, which is one command more.
abbrev pub deliveries_by : PeerRecord → ℕ
deliveries_by peer =
    length peer.pending + 2 * length (filter is_due peer.unacknowledged)
    + 2 * length (filter carries_message peer.unacknowledged)

-- ---- a session

-- what both sides wrote and may write; a request that is owed becomes a message that is due
abbrev pub control_deliveries : PartMarks → Part → ℕ
control_deliveries at part =
    all_deliveries (drop at.up part.client.wrote) + all_deliveries (drop at.down part.host.wrote)
    + deliveries_by part.client.peer + deliveries_by part.host.peer + 4 * length part.owed

-- A video datagram lets the client ask once at most.
abbrev pub most_deliveries : Scene → Pumping → Part → ℕ
most_deliveries scene pumping part =
    5 * (length (video_of scene.ticks part) - pumping.at.video)
    + (length (audio_of scene.ticks part) - pumping.at.audio) + control_deliveries pumping.at part
