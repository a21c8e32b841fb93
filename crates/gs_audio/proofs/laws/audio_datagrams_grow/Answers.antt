use Rattle.gs_audio.proofs.Sent.{datagrams-grow}
use Rattle.gs_audio.proofs.laws.audio_datagrams_grow.Goals as goal

pub returns : goal.returns
returns c = datagrams-grow
