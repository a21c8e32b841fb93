use Rattle.std.proofs.Common.{◌≡◌, ℕ, ◌-◌, ◌<◌, ◌≤◌, length, get_or, bit_xor}
use Rattle.gs_gf256.specs.Table.{times}
use Rattle.gs_gf256.proofs.sums.add_blocks.Given as goal

-- the sums are made below the place, and no byte is changed from there on
abbrev pub invariant-loop-dst : goal.invariant-loop-dst
invariant-loop-dst l = record {
  inside : l.at ≤ length l.initial.dst;
  sums : (i : ℕ) → i < l.at → get_or l.dst i 0 ≡ bit_xor (get_or l.initial.dst i 0) (times l.table 0 (get_or l.src i 0));
  rest : (i : ℕ) → l.at ≤ i → get_or l.dst i 0 ≡ get_or l.initial.dst i 0;
}

abbrev pub decreases-loop-dst : goal.decreases-loop-dst
decreases-loop-dst l = length l.initial.dst - l.at
