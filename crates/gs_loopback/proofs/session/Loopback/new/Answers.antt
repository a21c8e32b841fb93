use Rattle.std.proofs.Common.{◌-◌, refl}
use Rattle.gs_loopback.proofs.session.Loopback.new.Goals as goal

pub returns-clause-stands : goal.returns-clause-stands
returns-clause-stands c = λ ticks c' numbers number window. record {
  host = c.in_ok-open.ensures.stands ticks c' numbers number;
  client = c.in_ok-open-2.ensures (c.args.session - 1) c' numbers number window;
  marks = refl;
}
