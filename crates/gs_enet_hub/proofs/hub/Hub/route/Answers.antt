use Rattle.gs_enet_hub.proofs.Routings.{same_read, no_fault, routes_request, routes_other}
use Rattle.gs_enet_hub.proofs.hub.Hub.route.Goals as goal

pub returns-in-Err-BadDatagram-clause-routed : goal.returns-in-Err-BadDatagram-clause-routed
returns-in-Err-BadDatagram-clause-routed c =
    λ d spelled. absurd (no_fault c.read.result d c.in-Err-BadDatagram.field-0 c.in-Err-BadDatagram.place c.in-Err-BadDatagram.is
    c.in-Err-BadDatagram.field-0-is (c.read.ensures.found_only d spelled))

pub returns-in-Some-clause-routed : goal.returns-in-Some-clause-routed
returns-in-Some-clause-routed c =
    λ d spelled. routes_request d c.in-Ok.datagram c.request_of.result c.in-Some.connect c.args.from c.args.now c.args.self.now c.join.result c.join.new.self
    (same_read c.read.result c.in-Ok.datagram d c.in-Ok.is (c.read.ensures.found_only d spelled)) c.request_of.ensures c.in-Some.is c.join.ensures

pub returns-clause-routed : goal.returns-clause-routed
returns-clause-routed c =
    λ d spelled. routes_other d c.in-Ok.datagram c.request_of.result c.args.from c.args.now c.args.self.now c.find.result c.args.self.now
    (same_read c.read.result c.in-Ok.datagram d c.in-Ok.is (c.read.ensures.found_only d spelled)) c.request_of.ensures c.in-None.is c.find.ensures
