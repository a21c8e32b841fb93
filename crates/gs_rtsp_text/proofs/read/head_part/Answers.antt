use Rattle.std.proofs.lemmas.List.{take_min}
use Rattle.gs_rtsp_text.specs.Message.{most_head}
use Rattle.gs_rtsp_text.proofs.read.head_part.Goals as goal

pub returns-clause-part : goal.returns-clause-part
returns-clause-part c = rw c.min.ensures (take_min most_head c.args.bytes.now)
