use Rattle.std.proofs.Common.{◌≡◌, All, length}
use Rattle.gs_fecqueue.proofs.rooms.no_frames.Given as goal

-- so many rooms were made, with no frame in them
abbrev pub invariant-frames : goal.invariant-frames
invariant-frames l = record {
  count : length l.frames.items ≡ l.counter;
  none : All (λ frame. frame.number ≡ 0) l.frames.items;
}
