use Rattle.std.proofs.Common.{◌≡◌, ap, sym, subst}
use Rattle.gs_enet.specs.declared.answer.Answer.{Answer}
use Rattle.gs_enet.specs.Receive.{command_received, other_came, disconnect_came, verify_came}
use Rattle.gs_enet.specs.Standing.{IsPeerOf}
use Rattle.gs_enet.proofs.Commands.{command_received-asking, command_received-disconnect, command_received-verify, command_received-ignored}
use Rattle.gs_enet.proofs.peer.Peer.receive_other.Goals as goal

pub returns-in-Acknowledge-clause-stands : goal.returns-in-Acknowledge-clause-stands
unfolding command_received
returns-in-Acknowledge-clause-stands c = λ r s. rw c.in-Acknowledge.is (c.acknowledge_came.ensures.stands r s)

pub returns-in-VerifyConnect-clause-stands : goal.returns-in-VerifyConnect-clause-stands
returns-in-VerifyConnect-clause-stands c = λ r s.
    subst (IsPeerOf c.verify_came.new.self) (sym (command_received-verify c.args.answer c.args.command.now r _ _ _ _ _ _ _ _ _ _ _ _ _ _ _ c.in-VerifyConnect.is
    c.requires.answer))
    (c.verify_came.ensures.stands r s)

pub returns-in-Disconnect-clause-stands : goal.returns-in-Disconnect-clause-stands
returns-in-Disconnect-clause-stands c = λ r s.
    subst (IsPeerOf c.disconnect_came.new.self)
    (sym (command_received-disconnect c.args.answer c.args.command.now r _ _ _ _ c.in-Disconnect.is c.requires.answer))
    (c.disconnect_came.ensures.stands r s)

pub returns-in_default-clause-stands : goal.returns-in_default-clause-stands
returns-in_default-clause-stands c = λ r s.
    let d = c.in_default in
    subst (IsPeerOf c.args.self.now)
    (sym (command_received-ignored c.args.answer.sent c.args.command.now r c.requires.other d.not-Acknowledge d.not-VerifyConnect
    d.not-Disconnect d.not-Ping d.not-Bandwidth d.not-Throttle)) s

pub returns-in-Ping-clause-stands : goal.returns-in-Ping-clause-stands
returns-in-Ping-clause-stands c = λ r s.
    subst (IsPeerOf c.other_came.new.self) (sym (command_received-asking c.args.answer c.args.command.now r c.in-Ping.asks c.in-Ping.is c.requires.answer))
    (c.other_came.ensures.stands r s)
