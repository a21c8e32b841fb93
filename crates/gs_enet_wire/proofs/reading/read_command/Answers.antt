use Rattle.std.proofs.Common.{◌≡◌, true, inl, inr}
use Rattle.std.proofs.lemmas.Result.{IfOk-weaker}
use Rattle.gs_enet_wire.specs.Reading.{TakesBody, TakesCommand}
use Rattle.gs_enet_wire.proofs.Readers.{takes_command}
use Rattle.gs_enet_wire.proofs.reading.read_command.Goals as goal

pub returns-clause-taken : goal.returns-clause-taken
returns-clause-taken c =
    let s = c.in_ok-start.start in
    let answerable : s.head.asks ≡ true → c.args.timed ≡ true = λ e. elim c.else-start.either [ inl both ↦ both.1 | inr apart ↦ absurd cc ] in
    IfOk-weaker c.body.result (λ x. TakesBody s.kind s.head x c.start_of.new.cursor c.body.new.cursor)
    (λ x. TakesCommand c.args.timed x c.args.cursor.now c.body.new.cursor)
    (λ x h. takes_command c.in_ok-start.ensures.taken h answerable) c.body.ensures.taken
