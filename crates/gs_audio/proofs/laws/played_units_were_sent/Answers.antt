use Rattle.gs_audio.proofs.PlayedSent.{played-were_sent}
use Rattle.gs_audio.proofs.laws.played_units_were_sent.Goals as goal

pub returns : goal.returns
returns c = played-were_sent c.audio_header_reads_back.ensures
