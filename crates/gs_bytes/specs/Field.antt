-- Numbers in the fields of wire formats, in byteorder's words: `big_from place n bytes` is the number in
-- the n bytes from a place, the highest byte first, and `big_bytes n x` the lowest n bytes of x; `little_from`
-- and `little_bytes` have the lowest byte first. A list of bytes is a list of numbers below 256, and the place
-- of a field is the number of bytes before it.
use Rattle.std.specs.Prelude.{◌≡◌, ◌<◌, ◌^◌, ℕ, List, ◌++◌, length}
pub use Rattle.byteorder.specs.Endian.{big_from, little_from, big_bytes, little_bytes}

-- what stands in a field of n bytes is read from its place, in both byte orders
abbrev pub ReadsBack : Type 0
ReadsBack = (n x : ℕ) (front rest : List ℕ) → x < 256 ^ n
    → (big_from (length front) n (front ++ big_bytes n x ++ rest) ≡ x)
    × (little_from (length front) n (front ++ little_bytes n x ++ rest) ≡ x)
