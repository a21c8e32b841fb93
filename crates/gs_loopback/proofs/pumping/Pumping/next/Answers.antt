use Rattle.std.proofs.Common.{sym, ◌∙◌}
use Rattle.gs_loopback.specs.Standing.{run_marks}
use Rattle.gs_loopback.specs.Running.{run_pumping}
use Rattle.gs_loopback.proofs.Numbers.{next_is}
use Rattle.gs_loopback.proofs.pumping.Pumping.next.Goals as goal

pub returns : goal.returns
returns c =
    next_is c.args.every (run_pumping c.args.self.now) (run_marks c.args.ends.now) c.next_control.result
    (sym c.next_kept.ensures ∙ c.in_default.is) (sym c.next_kept-2.ensures ∙ c.in_default-next_kept.is) c.next_control.ensures
