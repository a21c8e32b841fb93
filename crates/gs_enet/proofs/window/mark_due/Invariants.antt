use Rattle.std.proofs.Common.{◌≡◌, ◌≤◌, length, take, drop}
use Rattle.std.specs.List.{AllZip}
use Rattle.gs_enet.specs.Window.{IsMarkedDue}
use Rattle.gs_enet.proofs.window.mark_due.Given as goal

abbrev pub invariant-loop-place : goal.invariant-loop-place
invariant-loop-place l = record {
  len : length l.window.items ≡ length l.initial.window.items;
  marked : AllZip (IsMarkedDue l.now) (take l.place l.initial.window.items) (take l.place l.window.items);
  rest : drop l.place l.window.items ≡ drop l.place l.initial.window.items;
}
