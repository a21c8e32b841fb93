use Rattle.std.proofs.Common.{◌≡◌, ◌∙◌, ℕ, List, take, subst, sym}
use Rattle.gs_enet.specs.declared.send_error.SendError.TheVariants.{NotOpen, WindowFull, OutOfMemory}
use Rattle.gs_enet.specs.Steps.{with_message}
use Rattle.gs_enet.specs.Standing.{IsPeerOf}
use Rattle.gs_client_core.specs.Owed.{request_channel, owed_message}
use Rattle.gs_client_core.proofs.Went.{message_bytes, refused, unsent}
use Rattle.gs_client_core.proofs.asker.Owed.send.Goals as goal

pub returns-in-Ok : goal.returns-in-Ok
returns-in-Ok c = λ r stands.
    let sends = c.in-Ok.ensures r stands in
    let bytes : take c.write-length.result c.write-length.new.out ≡ owed_message c.args.self.now =
    message_bytes c.args.self.now c.message.result _ c.write-length.new.out c.write-length.result c.message.ensures.is c.write-length.ensures.length
    c.write-length.ensures.written in
    (sends.0, subst (λ (l : List ℕ). IsPeerOf c.send.new.self (with_message request_channel l r)) bytes sends.2)

pub returns-in-Err-NotOpen : goal.returns-in-Err-NotOpen
returns-in-Err-NotOpen c = λ r stands.
    let is = c.in-Err-NotOpen.field-0-is in
    refused r (take c.write-length.result c.write-length.new.out) c.in-Err-NotOpen.field-0 c.send.new.self
    (λ other. let both : NotOpen ≡ OutOfMemory = sym is ∙ other in cc) (c.in-Err-NotOpen.ensures r stands)

pub returns-in-Err-WindowFull : goal.returns-in-Err-WindowFull
returns-in-Err-WindowFull c = λ r stands.
    let is = c.in-Err-WindowFull.field-0-is in
    refused r (take c.write-length.result c.write-length.new.out) c.in-Err-WindowFull.field-0 c.send.new.self
    (λ other. let both : WindowFull ≡ OutOfMemory = sym is ∙ other in cc) (c.in-Err-WindowFull.ensures r stands)

pub returns-in-Err-OutOfMemory : goal.returns-in-Err-OutOfMemory
returns-in-Err-OutOfMemory c = λ r stands.
    unsent r (take c.write-length.result c.write-length.new.out) c.in-Err-OutOfMemory.field-0 c.send.new.self c.in-Err-OutOfMemory.field-0-is
    (c.in-Err-OutOfMemory.ensures r stands)
