use Rattle.std.proofs.Common.{◌≡◌, take, reverse}
use Rattle.gs_refs.specs.History.{frames}
use Rattle.gs_refs.proofs.Walking.{Walked}
use Rattle.gs_refs.proofs.walk.walk.Given as goal

abbrev pub invariant-loop-place : goal.invariant-loop-place
invariant-loop-place l = record {
  count : l.frame ≡ frames (reverse (take l.place l.entries));
  walked : Walked (reverse l.entries) l.tick (reverse (take l.place l.entries)) l.greatest;
}
