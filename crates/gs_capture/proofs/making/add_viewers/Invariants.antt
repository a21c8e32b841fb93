use Rattle.std.proofs.Common.{◌≡◌, ◌-◌, ◌≤◌, length, drop, Some}
use Rattle.std.specs.List.{AllByRecursion}
use Rattle.left_right.specs.Sides.{view}
use Rattle.gs_capture.specs.Captures.{unread_capture}
use Rattle.gs_capture.proofs.making.add_viewers.Given as goal

abbrev pub invariant-loop-made : goal.invariant-loop-made
invariant-loop-made l =
    let now = l.fn.writer.desk.shown.value in
    record {
      count : (length l.all.items ≡ l.made) × (l.made ≤ l.fn.viewers);
      shown : l.writer.desk.shown.value ≡ now;
      pending : drop l.writer.behind l.writer.log.items ≡ drop l.fn.writer.behind l.fn.writer.log.items;
      told : (view l.writer.desk.place).told ≡ Some now;
      viewers : AllByRecursion (λ v. v ≡ unread_capture now.book now.audio) l.all.items;
    }

abbrev pub decreases-loop-made : goal.decreases-loop-made
decreases-loop-made l = l.fn.viewers - l.made
