use Rattle.gs_audio.proofs.PlayedRise.{played-rise}
use Rattle.gs_audio.proofs.laws.played_units_rise.Goals as goal

pub returns : goal.returns
returns c = played-rise
