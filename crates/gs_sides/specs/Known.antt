-- What is known of every value: its peer stands for a record, and its store for a list of datagrams.
use Rattle.std.specs.Prelude.{◌≡◌, ℕ, List, map}
use Rattle.std.specs.List.{All}
use Rattle.gs_enet_wire.specs.declared.datagram.Datagram.{Datagram}
use Rattle.gs_enet_wire.specs.Grammar.{SpellsDatagram, spelling}
use Rattle.gs_enet.specs.declared.peer.Peer.{Peer}
use Rattle.gs_enet.specs.Record.{PeerRecord}
use Rattle.gs_enet.specs.Standing.{IsPeerOf}
use Rattle.gs_enet.specs.World.{Written}
use Rattle.gs_enet.specs.Write.{items_datagram}
use Rattle.gs_store.specs.declared.store.Store.{Store}
use Rattle.gs_store.specs.Standing.{IsStoreOf}

-- a datagram that was written, and its bytes
abbrev pub datagram_by : Written → Datagram
datagram_by w = items_datagram w.by w.items

abbrev pub bytes_by : Written → List ℕ
bytes_by w = spelling (datagram_by w)

-- its bytes are read as itself
abbrev pub IsReadAsItself : Written → Type 0
IsReadAsItself w = SpellsDatagram (bytes_by w) (datagram_by w)

-- the store has the bytes of these datagrams
pub record HoldsAll (store : Store (List ℕ)) (wrote : List Written) : Type 0 where
  pub bytes : IsStoreOf store (map bytes_by wrote)
  pub read_again : All IsReadAsItself wrote

-- there are such a record and such a list: it can't be that none is one
abbrev pub HasRecord : Peer → Type 0
HasRecord p = ((r : PeerRecord) → IsPeerOf p r → ⊥) → ⊥

-- bytes that are no datagram at fault
abbrev pub IsReadable : List ℕ → Type 0
IsReadable bytes = ((d : Datagram) → SpellsDatagram bytes d → ⊥) → ⊥

-- bytes of a datagram that was written
abbrev pub IsWrittenBytes : List ℕ → Type 0
IsWrittenBytes bytes = ((w : Written) → bytes ≡ bytes_by w → IsReadAsItself w → ⊥) → ⊥

abbrev pub HasList : Store (List ℕ) → Type 0
HasList store = ((wrote : List Written) → HoldsAll store wrote → ⊥) → ⊥
