-- Flags that stay told over several calls.
use Rattle.std.proofs.Common.{Bool, Option, None, Some}
use Rattle.gs_bytes.specs.Outside.{KeepsFlag, SetsFlag}
use Rattle.gs_schedule.specs.Lines.{TellsFlag}

pub TellsFlag-refl : (a : Option Bool) → TellsFlag a a
TellsFlag-refl None = tt
TellsFlag-refl (Some x) = tt

pub TellsFlag-trans : (a b c : Option Bool) → TellsFlag a b → TellsFlag b c → TellsFlag a c
TellsFlag-trans None b c p q = tt
TellsFlag-trans (Some x) None c p q = absurd p
TellsFlag-trans (Some x) (Some y) c p q = q

pub kept_is_told : (a b : Option Bool) → KeepsFlag a b → TellsFlag a b
kept_is_told None b h = tt
kept_is_told (Some x) None h = h
kept_is_told (Some x) (Some y) h = tt

pub set_is_told : (a b : Option Bool) → SetsFlag a b → TellsFlag a b
set_is_told None b h = tt
set_is_told (Some x) None h = h
set_is_told (Some x) (Some y) h = tt

-- a flag that stays told until it is set is set
pub told_then_set : (a b c : Option Bool) → TellsFlag a b → SetsFlag b c → SetsFlag a c
told_then_set None b c p q = tt
told_then_set (Some x) None c p q = absurd p
told_then_set (Some x) (Some y) c p q = q
