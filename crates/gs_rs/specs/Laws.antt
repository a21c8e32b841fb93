-- The laws of the two codes.
use Rattle.std.specs.Prelude.{◌≡◌, ◌≢◌, ℕ, ◌+◌, ◌*◌, ◌<◌, ◌≤◌, ◌↔◌, List, length, All, AllPairs}
use Rattle.gs_gf256.specs.Field.{IsByte}
use Rattle.gs_rs.specs.Limits.{most_shards_of_code}
use Rattle.gs_rs.specs.declared.shape.CodeShape.{CodeShape}
use Rattle.gs_rs.specs.Shape.{shard_count, IsCode, video_code, audio_code, point, denominator}
use Rattle.gs_rs.specs.Codeword.{IsBlock, IsCodeword, HasParityRows, column, shard_of}

-- counts within the limits make a video code, and the audio code is one
abbrev pub LimitsMakeCodes : Type 0
LimitsMakeCodes = ((d p : ℕ) → 0 < d → d + p ≤ most_shards_of_code → IsCode (video_code d p)) × IsCode audio_code

-- each shard stands at a byte, and no other shard stands there
abbrev pub PointsAreDistinct : Type 0
PointsAreDistinct = (code : CodeShape) → IsCode code
    → ((a : ℕ) → a < shard_count code → IsByte (point code a))
    × ((a b : ℕ) → a < shard_count code → b < shard_count code → a ≢ b → point code a ≢ point code b)

-- what a value is divided by
abbrev pub DenominatorsAreNotZero : Type 0
DenominatorsAreNotZero = (code : CodeShape) → IsCode code → (x : ℕ) → IsByte x → denominator code x ≢ 0

-- the values of one polynomial at the shards' points are those that the parity rows give, for both codes
abbrev pub PointFormIsRowForm : Type 0
PointFormIsRowForm = (code : CodeShape) (bytes : List ℕ) → IsCode code
    → IsCodeword code bytes ↔ HasParityRows code bytes

-- numbers of shards, no two of them equal, and as many as there are data shards
pub record AreEnough (code : CodeShape) (numbers : List ℕ) : Type 0 where
  pub count : length numbers ≡ code.data
  pub in_range : All (λ number. number < shard_count code) numbers
  pub distinct : AllPairs (λ m n. m ≢ n) numbers

-- two blocks that have the same shards at that many numbers are the same
abbrev pub EnoughShardsDetermineBlock : Type 0
EnoughShardsDetermineBlock = (code : CodeShape) (len : ℕ) (numbers a b : List ℕ) → IsCode code → AreEnough code numbers
    → IsBlock code len a → IsBlock code len b
    → All (λ number. shard_of len a number ≡ shard_of len b number) numbers → a ≡ b

-- and whatever bytes stand there, some block has them
abbrev pub EnoughShardsHaveBlock : Type 0
EnoughShardsHaveBlock = (code : CodeShape) (len : ℕ) (numbers shards : List ℕ) → IsCode code → AreEnough code numbers
    → length shards ≡ shard_count code * len → All IsByte shards
    → (block : List ℕ) × IsBlock code len block
    × All (λ number. shard_of len block number ≡ shard_of len shards number) numbers

-- without parity shards, any data shards are a block, however many they are
abbrev pub DataAloneIsBlock : Type 0
DataAloneIsBlock = (code : CodeShape) (len : ℕ) (shards : List ℕ) → code.parity ≡ 0
    → length shards ≡ code.data * len → All IsByte shards → IsBlock code len shards

-- and where they are those of a code, each of their columns is a codeword
abbrev pub DataAloneHasCodewords : Type 0
DataAloneHasCodewords = (code : CodeShape) (len : ℕ) (shards : List ℕ) → IsCode code → code.parity ≡ 0
    → length shards ≡ code.data * len → All IsByte shards
    → (k : ℕ) → k < len → IsCodeword code (column (shard_count code) len shards k)
