use Rattle.std.proofs.Common.{sym, subst}
use Rattle.gs_capture.specs.Growing.{Follows}
use Rattle.gs_capture.proofs.Keeping.{publishes}
use Rattle.gs_capture.proofs.recorder.publish.Goals as goal

pub publish_as-requires : goal.publish_as-requires
publish_as-requires g c next is =
    let now = c.args.writer.desk.shown.value in publishes _ _ now next (subst (Follows now) (sym is) c.requires)
