use Rattle.std.proofs.Common.{◌≡◌, ◌≤◌, take, reverse}
use Rattle.gs_refs.specs.History.{frames, reference_of}
use Rattle.gs_pair.proofs.lookup.reference_among.Given as goal

abbrev pub invariant-loop-entry : goal.invariant-loop-entry
invariant-loop-entry l = record {
  most : l.sent ≤ l.entry-index;
  count : l.sent ≡ frames (reverse (take l.entry-index l.entries));
  known : l.reference ≡ reference_of (reverse (take l.entry-index l.entries)) l.frame;
}
