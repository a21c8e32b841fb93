-- What holds of the grammar.
use Rattle.std.specs.Prelude.{◌≡◌, ℕ, ◌<◌, ◌^◌, List}
use Rattle.std.specs.List.{AllByRecursion}
use Rattle.gs_enet_wire.specs.declared.datagram.Datagram.{Datagram}
use Rattle.gs_enet_wire.specs.Grammar.{SpellsDatagram, IsFaultAt, IsWritable, spelling}

-- bytes spell one datagram at most
abbrev pub OneValue : Type 0
OneValue = (bytes : List ℕ) (d e : Datagram) → SpellsDatagram bytes d → SpellsDatagram bytes e → d ≡ e

-- bytes have their fault at one place at most
abbrev pub OnePlace : Type 0
OnePlace = (bytes : List ℕ) (place other : ℕ) → IsFaultAt bytes place → IsFaultAt bytes other → place ≡ other

-- bytes that spell a datagram have no fault
abbrev pub NotBoth : Type 0
NotBoth = (bytes : List ℕ) (d : Datagram) (place : ℕ) → SpellsDatagram bytes d → IsFaultAt bytes place → ⊥

-- any bytes spell a datagram or have a fault
abbrev pub NotNeither : Type 0
NotNeither = (bytes : List ℕ) → AllByRecursion (λ b. b < 2 ^ 8) bytes → ((d : Datagram) → SpellsDatagram bytes d → ⊥)
    → ((place : ℕ) → IsFaultAt bytes place → ⊥) → ⊥

-- the spelling of what can be written spells it
abbrev pub ReadAgain : Type 0
ReadAgain = (d : Datagram) → IsWritable d → SpellsDatagram (spelling d) d

-- no two datagrams that can be written have one spelling
abbrev pub OneSpelling : Type 0
OneSpelling = (d e : Datagram) → IsWritable d → IsWritable e → spelling d ≡ spelling e → d ≡ e
