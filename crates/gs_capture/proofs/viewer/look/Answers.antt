use Rattle.gs_capture.proofs.Keeping.{looks}
use Rattle.gs_capture.proofs.viewer.look.Goals as goal

pub enter_as-requires : goal.enter_as-requires
enter_as-requires g c x = looks _ _ x
