-- What is read of a file's rest, tick by tick.
use Rattle.std.proofs.Common.{◌≡◌, Option, Some, None}
use Rattle.std.specs.Prelude.{⊤}
use Rattle.gs_tape.specs.Reading.{ReadTape}

-- ticks were read of what was to be read, and the fault behind them is still to come
pub record PassesTold (all : ReadTape) (after : Option ReadTape) : Type 0 where
  pub rest : ReadTape
  pub after_is : after ≡ Some rest
  pub same_fault : all.fault ≡ rest.fault

abbrev pub Passes : Option ReadTape → Option ReadTape → Type 0
Passes None after = ⊤
Passes (Some all) after = PassesTold all after
