-- the checksum of the bytes so far
use Rattle.std.proofs.Common.{◌≡◌, take}
use Rattle.gsbench.specs.Checksum.{fnv_1a}
use Rattle.gsbench.proofs.sample.checksum.Given as goal

abbrev pub invariant-loop-byte : goal.invariant-loop-byte
invariant-loop-byte l = l.sum ≡ fnv_1a (take l.byte-index l.bytes)
