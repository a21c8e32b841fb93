-- A side of a connection: new, with all events told, with all written that is due.
use Rattle.std.specs.Prelude.{ℕ, zero, suc, [], ◌++◌, length}
use Rattle.gs_enet.specs.Record.{PeerRecord, at_moment}
use Rattle.gs_enet.specs.Write.{going_out}
use Rattle.gs_enet.specs.World.{Side, Write, acted}

-- a side that wrote nothing
abbrev pub new_side : PeerRecord → Side
new_side peer = record { peer = peer; wrote = [] }

-- every event that waits is told
abbrev pub all_told : PeerRecord → PeerRecord
all_told peer = record peer { told = peer.told ++ peer.waiting; waiting = [] }

-- so many datagrams are written, or as many as there are
abbrev pub writing_within : ℕ → ℕ → Side → Side
writing_within zero now side = side
writing_within (suc n) now side = writing_within n now (acted (Write now) side)

-- All that is due is written. Each datagram has an item at least, so that the last of these writings finds nothing.
unfoldable pub written_out : ℕ → Side → Side
written_out now side = writing_within (suc (length (going_out (at_moment now side.peer)))) now side
