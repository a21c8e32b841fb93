use Rattle.std.proofs.Common.{[], ◌∷◌}
use Rattle.gs_turn.proofs.turn.Turn.call.Given as goal

-- the call that is made
abbrev pub ghosts-take_turn : goal.ghosts-take_turn
ghosts-take_turn g a = record { call = a.call ∷ [] }
