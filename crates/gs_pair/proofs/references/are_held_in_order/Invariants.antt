use Rattle.std.proofs.Common.{◌≡◌, ◌≤◌, take, reverse}
use Rattle.gs_refs.specs.History.{frames}
use Rattle.gs_pair.specs.References.{ReferencesHeldSince}
use Rattle.gs_pair.proofs.references.are_held_in_order.Given as goal

abbrev pub invariant-loop-entry : goal.invariant-loop-entry
invariant-loop-entry l = record {
  most : l.sent ≤ l.entry-index;
  count : l.sent ≡ frames (reverse (take l.entry-index l.entries));
  held : ReferencesHeldSince (reverse (take l.entry-index l.entries)) l.handed l.cuts;
}
