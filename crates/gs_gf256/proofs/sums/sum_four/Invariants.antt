use Rattle.gs_gf256.proofs.RowSums.{IsRowSoFar}
use Rattle.gs_gf256.proofs.sums.sum_four.Given as goal

-- the sums over the shards before the index
abbrev pub invariant-loop-i : goal.invariant-loop-i
invariant-loop-i l = record {
  first : IsRowSoFar l.shards l.len l.numbers l.at l.tables 4 0 l.first l.i;
  second : IsRowSoFar l.shards l.len l.numbers l.at l.tables 4 1 l.second l.i;
  third : IsRowSoFar l.shards l.len l.numbers l.at l.tables 4 2 l.third l.i;
  fourth : IsRowSoFar l.shards l.len l.numbers l.at l.tables 4 3 l.fourth l.i;
}
