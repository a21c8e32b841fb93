-- Cited by private contracts alone: what a reader takes from the front of the bytes.
use Rattle.std.specs.Prelude.{◌≡◌, ℕ, ◌/◌, ◌%◌, ◌<◌, List, [], ◌∷◌, ◌++◌, Bool}
use Rattle.gs_enet_wire.specs.declared.command.Command.{Command}
use Rattle.gs_enet_wire.specs.declared.command.Head.{Head}
use Rattle.gs_enet_wire.specs.Grammar.{WireField, u8, u16, fields_bytes, Fit, command_head, kind, fields, payload}
use Rattle.gs_enet_wire.specs.Grammar.{asking}
use Rattle.gs_enet_wire.specs.Grammar.{IsCommand}

-- the old bytes are those fields and then the new bytes
pub record TakesFields (fs : List WireField) (old new : List ℕ) : Type 0 where
  pub parts : old ≡ fields_bytes fs ++ new
  pub fit : Fit fs

-- the old bytes are the head of a command of that kind, and then the new bytes
pub record TakesHead (k : ℕ) (h : Head) (old new : List ℕ) : Type 0 where
  pub first : ℕ
  pub small : first < 256
  pub low : first % 16 ≡ k
  pub high : first / 128 ≡ asking h.asks
  pub parts : old ≡ first ∷ (fields_bytes (u8 h.channel ∷ u16 h.number ∷ []) ++ new)
  pub fit : Fit (u8 h.channel ∷ u16 h.number ∷ [])

-- a command without its head
abbrev pub body : Command → List ℕ
body c = fields_bytes (fields c) ++ payload c

-- the old bytes are the body of a command of that kind and head, and then the new bytes
pub record TakesBody (k : ℕ) (h : Head) (c : Command) (old new : List ℕ) : Type 0 where
  pub is_kind : kind c ≡ k
  pub is_head : command_head c ≡ h
  pub parts : old ≡ body c ++ new
  pub fit : Fit (fields c)

-- the bytes don't begin with the body of a command of that kind
abbrev pub BeginsNoBody : ℕ → List ℕ → Type 0
BeginsNoBody k bytes = (c : Command) (rest : List ℕ) → kind c ≡ k → Fit (fields c) → bytes ≡ body c ++ rest → ⊥

-- the old bytes are a command and then the new bytes
pub record TakesCommand (timed : Bool) (c : Command) (old new : List ℕ) : Type 0 where
  pub front : List ℕ
  pub parts : old ≡ front ++ new
  pub is_command : IsCommand timed front c
