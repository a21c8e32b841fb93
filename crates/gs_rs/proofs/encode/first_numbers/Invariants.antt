use Rattle.std.proofs.Common.{◌≡◌, ℕ, ◌<◌, length, get_or}
use Rattle.gs_rs.proofs.encode.first_numbers.Given as goal

abbrev pub invariant-loop-i : goal.invariant-loop-i
invariant-loop-i l = (length l.numbers ≡ 255) × ((k : ℕ) → k < l.i → get_or l.numbers k 0 ≡ k)
