use Rattle.std.proofs.Common.{refl, subst}
use Rattle.std.specs.Prelude.{Err}
use Rattle.gs_enet.specs.declared.send_error.SendError.{SendError}
use Rattle.gs_sides.specs.Outcomes.{SideSends}
use Rattle.gs_client_end.proofs.Ends.{message_given, window_full}
use Rattle.gs_client_end.proofs.end.ClientEnd.give_message.Goals as goal

pub returns-in-Ok : goal.returns-in-Ok
returns-in-Ok c = λ session part h.
    message_given c.args.self.now _ session c.args.channel c.in-Ok.field-0 c.args.bytes.now part c.has_made_most-may_make.result c.args.reporter.now h
    (c.has_made_most-may_make.ensures session part h) (record { session = refl; client = refl; asker = refl; owed = refl; sums = refl })
    (c.in-Ok.ensures part.client h.side)

pub returns-in_ok-report-in-Err-WindowFull : goal.returns-in_ok-report-in-Err-WindowFull
returns-in_ok-report-in-Err-WindowFull c = λ session part h.
    window_full c.args.self.now _ session c.args.channel c.args.bytes.now part c.args.reporter.now _ h
    (record { session = refl; client = refl; asker = refl; owed = refl; sums = refl })
    (subst (λ (e : SendError). SideSends part.client c.args.channel c.args.bytes.now (Err e) c.send.new.self) c.in-Err-WindowFull.field-0-is
    (c.in-Err-WindowFull.ensures part.client h.side)) c.in_ok-report-in-Err-WindowFull.ensures.ok
