use Rattle.gs_sdp.proofs.Table.{is_read_again}
use Rattle.gs_sdp.proofs.laws.written_settings_are_read.Goals as goal

pub returns : goal.returns
returns c = is_read_again
