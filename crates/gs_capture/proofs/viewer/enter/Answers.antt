use Rattle.gs_capture.proofs.Keeping.{sees}
use Rattle.gs_capture.proofs.viewer.enter.Goals as goal

pub enter_as-requires : goal.enter_as-requires
enter_as-requires g c x = sees _ _ x
