use Rattle.std.proofs.Common.{◌≡◌, ◌+◌, ◌-◌, ◌≤◌, length}
use Rattle.gs_turn.specs.Cells.{made_by, IsNewPass, AreNewPasses}
use Rattle.gs_turn.proofs.turn.Turn.others.Given as goal

abbrev pub invariant-loop-made : goal.invariant-loop-made
invariant-loop-made g l =
    record {
      count : (made_by l.first ≡ l.made) × (length l.all.items + 1 ≡ l.made) × (1 ≤ l.made) × (l.made ≤ l.fn.passes);
      first : IsNewPass l.fn.self 0 l.first;
      others : AreNewPasses l.fn.self 1 l.all.items;
    }

abbrev pub decreases-loop-made : goal.decreases-loop-made
decreases-loop-made g l = l.fn.passes - l.made
