use Rattle.std.proofs.Common.{◌≡◌, ◌++◌, take}
use Rattle.std.specs.List.{flat_map}
use Rattle.gs_rtsp_text.specs.Writing.{header_text}
use Rattle.gs_rtsp_text.proofs.write.push_headers.Given as goal

-- the lines of the headers so far stand at the end
abbrev pub invariant-loop-header : goal.invariant-loop-header
invariant-loop-header l = l.out.items ≡ l.initial.out.items ++ flat_map header_text (take l.header-index l.headers)
