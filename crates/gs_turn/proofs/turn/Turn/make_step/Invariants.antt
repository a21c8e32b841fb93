use Rattle.std.proofs.Common.{[], ◌∷◌}
use Rattle.gs_turn.proofs.turn.Turn.make_step.Given as goal

-- the reply that was given
abbrev pub ghosts-count : goal.ghosts-count
ghosts-count g a = record { reply = a.reply.now ∷ [] }
