-- the settings stay
use Rattle.std.proofs.Common.{◌≡◌}
use Rattle.gsbench.proofs.frames.split_often.Given as goal

abbrev pub invariant-loop-turn : goal.invariant-loop-turn
invariant-loop-turn l = record { stays : l.splitter.settings ≡ l.initial.splitter.settings }
