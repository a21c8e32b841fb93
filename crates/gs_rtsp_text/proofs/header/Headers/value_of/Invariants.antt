use Rattle.std.proofs.Common.{◌≡◌, drop}
use Rattle.gs_rtsp_text.specs.Lines.{value_by}
use Rattle.gs_rtsp_text.proofs.header.Headers.value_of.Given as goal

-- the name is still to be found
abbrev pub invariant-loop-header : goal.invariant-loop-header
invariant-loop-header l = value_by l.name (drop l.header-index l.header-items) ≡ value_by l.name l.self
