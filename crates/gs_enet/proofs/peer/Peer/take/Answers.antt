use Rattle.std.proofs.lemmas.Result.{IfOk-weaker, on_err_weaker}
use Rattle.gs_enet.specs.Outcomes.{PeerTakes}
use Rattle.gs_enet.proofs.Commands.{takes_through}
use Rattle.gs_enet.proofs.peer.Peer.take.Goals as goal

pub returns-clause-taken : goal.returns-clause-taken
returns-clause-taken c =
    IfOk-weaker c.take_by-taken.result (λ _. PeerTakes c.args.datagram.now c.args.now c.lend_commands-commands.new.self c.take_by-taken.new.self)
    (λ _. PeerTakes c.args.datagram.now c.args.now c.args.self.now c.keep_commands.new.self)
    (λ _ t. takes_through c.args.datagram.now c.args.now c.args.self.now c.lend_commands-commands.new.self c.take_by-taken.new.self c.keep_commands.new.self
    c.lend_commands-commands.ensures c.keep_commands.ensures t) c.take_by-taken.ensures.taken

pub returns-clause-refused : goal.returns-clause-refused
returns-clause-refused c =
    on_err_weaker c.take_by-taken.result (λ same r s. c.keep_commands.ensures r (same r (c.lend_commands-commands.ensures r s))) c.take_by-taken.ensures.refused
