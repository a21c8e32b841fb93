use Rattle.gs_enet_wire.proofs.Datagrams.{one_value, one_place, not_both}
use Rattle.gs_enet_wire.proofs.NotNeither.{neither}
use Rattle.gs_enet_wire.proofs.laws.one_reading.Goals as goal

pub returns-clause-value : goal.returns-clause-value
returns-clause-value c = one_value

pub returns-clause-place : goal.returns-clause-place
returns-clause-place c = one_place

pub returns-clause-not_both : goal.returns-clause-not_both
returns-clause-not_both c = not_both

pub returns-clause-not_neither : goal.returns-clause-not_neither
returns-clause-not_neither c = neither
