-- What holds of two sides, whatever happens.
use Rattle.std.specs.Prelude.{ℕ, ◌≡◌, List, ◌++◌, Contains}
use Rattle.gs_bytes.specs.Prefix.{IsPrefixOf}
use Rattle.gs_enet.specs.declared.event.PeerEvent.TheVariants as event
use Rattle.gs_enet.specs.Record.{PeerRecord, given_on, messages_on, told, heard}
use Rattle.gs_enet.specs.World.{WorldEvent, WorldOpening, world_start, run, AllNear}

-- What the one side gave and what the other told, on every channel. What was told is what was given first, in order;
-- once the other side told that this one disconnected, it is all of it. Once this side heard that its own disconnect
-- was acknowledged, the other has told all of it or holds what is left ready to be told.
pub record AreInOrder (giver reader : PeerRecord) : Type 0 where
  pub prefix : (channel : ℕ) → IsPrefixOf (told reader channel) (given_on channel giver.given)
  pub whole : Contains reader.told event.PeerClosed → (channel : ℕ) → told reader channel ≡ given_on channel giver.given
  pub arrived : Contains (heard giver) event.Closed → (channel : ℕ)
      → messages_on channel (heard reader) ≡ given_on channel giver.given

-- of two new sides, whatever each user does and whatever is lost, repeated or late, as long as numbers are near
abbrev pub MessagesInOrder : Type 0
MessagesInOrder =
    (left right : WorldOpening) (events : List WorldEvent) → AllNear events (world_start left right)
    → AreInOrder (run events (world_start left right)).left.peer (run events (world_start left right)).right.peer
    × AreInOrder (run events (world_start left right)).right.peer (run events (world_start left right)).left.peer
