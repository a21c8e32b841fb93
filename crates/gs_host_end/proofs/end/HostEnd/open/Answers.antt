use Rattle.std.proofs.Common.{refl}
use Rattle.gs_rtp.specs.Stream.{numbers_of}
use Rattle.gs_host_end.proofs.Standing.{opens}
use Rattle.gs_host_end.proofs.end.HostEnd.open.Goals as goal

pub returns-clause-stands : goal.returns-clause-stands
returns-clause-stands c = λ ticks client same ssrc.
    opens _ c.args.session c.args.now ticks client (numbers_of c.args.settings.now) same ssrc refl c.in_ok-open.ensures.settings
    c.in_ok-open.ensures.history (c.in_ok-open.ensures.stands ticks) refl c.in_ok-accept.ensures c.in_ok-new.ensures c.in_ok-new-2.ensures refl
