use Rattle.std.proofs.Common.{◌<◌, ◌++◌}
use Rattle.gs_rs.specs.Codeword.{IsBlock}
use Rattle.gsbench.proofs.codes.encode_often.Given as goal

abbrev pub invariant-loop-turn : goal.invariant-loop-turn
invariant-loop-turn l = 0 < l.turn → IsBlock l.code l.len (l.source ++ l.parity)
