use Rattle.std.proofs.Common.{drop}
use Rattle.gs_host_end.specs.Heard.{KeepsHosting}
use Rattle.gs_host_end.proofs.Listening.{HearsTo}
use Rattle.gs_host_end.proofs.heard.hear_all.Given as goal

abbrev pub invariant-events : goal.invariant-events
invariant-events l = record {
  heard : HearsTo l.session l.events (drop l.event-index l.events) l.fn.host.history l.host.history l.fn.reporter l.reporter l.fn.inputs l.inputs;
  keeps : KeepsHosting l.fn.host l.host;
}
