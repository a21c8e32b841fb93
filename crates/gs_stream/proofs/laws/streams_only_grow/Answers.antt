use Rattle.gs_stream.proofs.AudioGrowth.{audio_only_grows}
use Rattle.gs_stream.proofs.Growth.{streams_only_grow, sounds_only_grow, ranges_only_grow}
use Rattle.gs_stream.proofs.laws.streams_only_grow.Goals as goal

pub returns-clause-video : goal.returns-clause-video
returns-clause-video c = streams_only_grow

pub returns-clause-audio : goal.returns-clause-audio
returns-clause-audio c = audio_only_grows

pub returns-clause-units : goal.returns-clause-units
returns-clause-units c = sounds_only_grow

pub returns-clause-invalid : goal.returns-clause-invalid
returns-clause-invalid c = ranges_only_grow
