-- What repeated writing writes.
use Rattle.std.specs.Prelude.{◌≡◌, ℕ, [], ◌∷◌, Some, None}
use Rattle.gs_enet_wire.specs.declared.datagram.Datagram.{Datagram}
use Rattle.gs_enet.specs.Record.{PeerRecord}
use Rattle.gs_enet.specs.Write.{next_datagram, wrote_next, written}

-- where a datagram is written next, it is the first of all that are written; where none is, none are
abbrev pub WrittenByRepeating : Type 0
WrittenByRepeating =
    (r : PeerRecord) (now : ℕ)
    → ((d : Datagram) → next_datagram now r ≡ Some d → written r now ≡ d ∷ written (wrote_next now r) now)
    × (next_datagram now r ≡ None → written r now ≡ [])
