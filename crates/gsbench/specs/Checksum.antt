-- The checksum FNV-1a of 32 bits.
use Rattle.std.specs.Prelude.{ℕ, ◌*◌, ◌%◌, ◌^◌, List, bit_xor}
use Rattle.std.specs.List.{fold}

-- one more byte
abbrev pub summed_byte : ℕ → ℕ → ℕ
summed_byte sum byte = bit_xor sum byte * 16777619 % 2 ^ 32

abbrev pub fnv_1a : List ℕ → ℕ
fnv_1a bytes = fold summed_byte 2166136261 bytes
