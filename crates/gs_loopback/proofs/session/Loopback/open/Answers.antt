use Rattle.gs_loopback.proofs.Parts.{still_keeps}
use Rattle.gs_loopback.proofs.Opened.{opens}
use Rattle.gs_loopback.proofs.session.Loopback.open.Goals as goal

pub returns-clause-stands : goal.returns-clause-stands
returns-clause-stands c =
    λ ticks c' numbers number window.
    opens c.args.session c.args.now ticks c' c.in_ok-opened.opened c.settle.new.self c.in_ok-deliver.field-0 c.in_ok-deliver-2.field-0
    c.deliver.new.self c.deliver-2.new.self _ _ _ _ (c.in_ok-opened.ensures.stands ticks c' numbers number window)
    c.in_ok-settle.ensures.settled c.in_ok-deliver.ensures.ran c.in_ok-deliver-2.ensures.ran

pub returns-clause-keeps : goal.returns-clause-keeps
returns-clause-keeps c = λ feed same.
    still_keeps feed c.deliver.new.self.host c.deliver-2.new.self.host c.in_ok-deliver-2.ensures.sent
    (still_keeps feed c.settle.new.self.host c.deliver.new.self.host c.in_ok-deliver.ensures.sent
    (still_keeps feed c.in_ok-opened.opened.host c.settle.new.self.host c.in_ok-settle.ensures.sent
    (c.in_ok-opened.ensures.keeps feed same)))
