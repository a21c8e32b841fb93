-- Cited by private contracts alone: what a reader takes of a header, and of all the commands.
use Rattle.std.specs.Prelude.{◌≡◌, ℕ, ◌/◌, Bool, List, [], ◌++◌, Option, is_some}
use Rattle.gs_enet_wire.specs.declared.command.Command.{Command}
use Rattle.gs_enet_wire.specs.declared.error.WireError.{WireError}
use Rattle.gs_enet_wire.specs.declared.error.WireError.TheVariants.{BadDatagram, OutOfMemory}
use Rattle.gs_enet_wire.specs.declared.reading.DatagramHeader.{DatagramHeader}
use Rattle.gs_enet_wire.specs.Grammar.{fields_bytes, Fit, asking, sent_field, header, HasHeader, with_header}
use Rattle.gs_enet_wire.specs.Grammar.{AreCommands, StopsAt}

-- the old bytes are the sent time, where the header's first two bytes say that there is one, and then the new bytes
pub record TakesTime (word : ℕ) (sent : Option ℕ) (old new : List ℕ) : Type 0 where
  pub said : word / 32768 ≡ asking (is_some sent)
  pub parts : old ≡ fields_bytes (sent_field sent) ++ new
  pub fit : Fit (sent_field sent)

-- the old bytes are the header, and then the new bytes
pub record TakesHeader (h : DatagramHeader) (old new : List ℕ) : Type 0 where
  pub has_header : HasHeader (with_header h [])
  pub parts : old ≡ fields_bytes (header (with_header h [])) ++ new

-- the old bytes are those commands, and then the new bytes
pub record TakesCommands (timed : Bool) (commands : List Command) (old new : List ℕ) : Type 0 where
  pub front : List ℕ
  pub parts : old ≡ front ++ new
  pub are_commands : AreCommands timed front commands

-- why the bytes behind a header are no commands
abbrev pub StopsWith : Bool → ℕ → List ℕ → WireError → Type 0
StopsWith timed start bytes (BadDatagram place) = StopsAt timed start bytes place
StopsWith timed start bytes OutOfMemory = Unit {0}
