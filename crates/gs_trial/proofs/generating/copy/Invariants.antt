use Rattle.std.proofs.Common.{◌≡◌, ◌<◌, length}
use Rattle.gs_trial.proofs.Copies.{IsCopied}
use Rattle.gs_trial.proofs.generating.copy.Given as goal

abbrev pub invariant-pieces : goal.invariant-pieces
invariant-pieces g l =
    let told = g.K.Outside in
    record {
      some : 0 < length l.piece;
      copied : IsCopied l.fn.tape.left l.tape.left (told.written l.fn.out) (told.written l.out);
      faults : told.faults l.out ≡ told.faults l.fn.out;
    }

abbrev pub decreases-pieces : goal.decreases-pieces
decreases-pieces g l = length l.tape.left
