use Rattle.std.proofs.Common.{◌∙◌, map}
use Rattle.std.proofs.lemmas.List.{length-map}
use Rattle.gs_sides.specs.Known.{bytes_by}
use Rattle.gs_sides.proofs.side.ControlSide.wrote.Goals as goal

pub returns : goal.returns
returns c = λ x h. c.count.ensures (map bytes_by x.wrote) h.wrote.bytes ∙ length-map x.wrote bytes_by
