use Rattle.std.proofs.Common.{◌≡◌, ◌-◌, ◌≤◌, length, false}
use Rattle.gs_capture.proofs.tests.append_all.Given as goal

abbrev pub invariant-loop-made : goal.invariant-loop-made
invariant-loop-made g l =
    record {
      count : (length l.recorder.appended ≡ l.made) × (l.made ≤ l.fn.count);
      most : l.recorder.most ≡ l.initial.recorder.most;
      capture : l.recorder.capture ≡ l.initial.recorder.capture;
      unrefused : l.recorder.refused ≡ false;
    }

abbrev pub decreases-loop-made : goal.decreases-loop-made
decreases-loop-made g l = l.fn.count - l.made
