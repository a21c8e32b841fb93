use Rattle.gs_rtp.proofs.audio.audio_header_reads_back.Goals as goal
use Rattle.gs_rtp.proofs.AudioReading.{audio-reads_back}

pub returns : goal.returns
returns c = λ settings h shard. audio-reads_back settings h shard
