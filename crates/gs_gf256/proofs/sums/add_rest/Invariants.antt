use Rattle.std.proofs.Common.{◌≡◌, ℕ, ◌<◌, ◌≤◌, get_or, bit_xor}
use Rattle.gs_gf256.specs.Table.{times}
use Rattle.gs_gf256.proofs.sums.add_rest.Given as goal

abbrev pub invariant-loop-i : goal.invariant-loop-i
invariant-loop-i l = record {
  before : (x : ℕ) → x < l.from → get_or l.dst x 0 ≡ get_or l.initial.dst x 0;
  sums : (x : ℕ) → l.from ≤ x → x < l.i → get_or l.dst x 0 ≡ bit_xor (get_or l.initial.dst x 0) (times l.table 0 (get_or l.src x 0));
  rest : (x : ℕ) → l.i ≤ x → get_or l.dst x 0 ≡ get_or l.initial.dst x 0;
}
