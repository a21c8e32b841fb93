use Rattle.std.proofs.Common.{ℕ, refl, take}
use Rattle.std.proofs.lemmas.Result.{IfOk-weaker}
use Rattle.gs_control.specs.declared.message.Message.TheVariants as message
use Rattle.gs_control.specs.Message.{bytes_of}
use Rattle.gs_run.specs.Session.{Part}
use Rattle.gs_client_end.specs.Standing.{IsClientEndOf}
use Rattle.gs_client_end.specs.Steps.{GivesMessage}
use Rattle.gs_client_end.specs.Outcomes.{AsksIdr}
use Rattle.gs_client_end.proofs.Ends.{bytes_written, same_message}
use Rattle.gs_client_end.proofs.end.ClientEnd.ask_idr.Goals as goal

pub returns : goal.returns
returns c =
    let out = take c.write-length.result c.write-length.new.out in
    IfOk-weaker c.give_message.result
    (λ done. (session : ℕ) (part : Part) → IsClientEndOf c.args.self.now session part
    → GivesMessage session 1 out part done c.give_message.new.self c.args.reporter.now c.give_message.new.reporter)
    (λ done. (session : ℕ) (part : Part) → IsClientEndOf c.args.self.now session part
    → AsksIdr session part done c.give_message.new.self c.args.reporter.now c.give_message.new.reporter)
    (λ done gives session part h.
    same_message session 1 1 out (bytes_of message.IdrRequest) part done c.give_message.new.self c.args.reporter.now
    c.give_message.new.reporter refl
    (bytes_written message.IdrRequest _ c.write-length.new.out c.write-length.result c.write-length.ensures.length c.write-length.ensures.written)
    (gives session part h)) c.give_message.ensures
