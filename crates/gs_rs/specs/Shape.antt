-- The two erasure codes, by their counts of shards and by the points at which their shards stand.
use Rattle.std.specs.Prelude.{◌≡◌, ℕ, ◌+◌, ◌-◌, ◌<◌, ◌≤◌, List, [], ◌∷◌, map, if◌then◌else◌, ◌==◌, nat_lt, slice_index}
use Rattle.std.specs.Prelude.{bit_xor}
use Rattle.std.specs.List.{range_with_len}
use Rattle.gs_gf256.specs.Field.{product, inverse}
use Rattle.gs_rs.specs.Limits.{most_shards_of_code}
use Rattle.gs_rs.specs.declared.shape.Form.TheVariants.{Video, Audio}
use Rattle.gs_rs.specs.declared.shape.CodeShape.{CodeShape}

-- a shape that is a code: there is a data shard, a point for each shard among the bytes below 255, and the audio code
-- has four data shards and two parity shards
pub record IsCode (code : CodeShape) : Type 0 where
  pub some_data : 0 < code.data
  pub points_fit : code.data + code.parity ≤ most_shards_of_code
  pub audio_counts : code.form ≡ Audio → (code.data ≡ 4) × (code.parity ≡ 2)

-- the video code of d data shards and p parity shards
abbrev pub video_code : ℕ → ℕ → CodeShape
video_code d p = record { «data» = d; parity = p; form = Video }

-- the audio code
abbrev pub audio_code : CodeShape
audio_code = record { «data» = 4; parity = 2; form = Audio }

-- how many shards a block has: first the data shards, then the parity shards
abbrev pub shard_count : CodeShape → ℕ
shard_count code = code.data + code.parity

-- the points of the audio code's shards
abbrev pub audio_points : List ℕ
audio_points = 0 ∷ 1 ∷ 2 ∷ 4 ∷ 8 ∷ 16 ∷ []

-- the point of a shard of the video code: parity shard j stands at j, and data shard i at P + i
abbrev pub video_point : ℕ → ℕ → ℕ → ℕ
video_point d p shard = if nat_lt shard d then p + shard else shard - d

-- the point at which a shard stands, by its number
abbrev pub point : CodeShape → ℕ → ℕ
point code shard =
    elim code.form [ Video ↦ video_point code.data code.parity shard | Audio ↦ slice_index audio_points shard ]

-- the points of the data shards
abbrev pub data_points : CodeShape → List ℕ
data_points code = map (point code) (range_with_len 0 code.data)

-- the product of `x xor y` over the points y other than x
unfoldable pub differences : List ℕ → ℕ → ℕ
differences [] x = 1
differences (y ∷ ys) x = product (if y == x then 1 else bit_xor x y) (differences ys x)

-- what a polynomial's value at a point is divided by, to be the shard there: in the video code the product of `x xor y`
-- over the points y of the data shards other than x, which is never 0
abbrev pub denominator : CodeShape → ℕ → ℕ
denominator code x = elim code.form [ Video ↦ differences (data_points code) x | Audio ↦ 1 ]

-- the audio code's parity rows: for each parity shard its coefficient at each data shard
abbrev pub audio_row : ℕ → List ℕ
audio_row row = if row == 0 then 0x77 ∷ 0x40 ∷ 0x38 ∷ 0x0E ∷ [] else 0xC7 ∷ 0xA7 ∷ 0x0D ∷ 0x6C ∷ []

-- a parity shard's coefficient at a data shard
abbrev pub coefficient : CodeShape → ℕ → ℕ → ℕ
coefficient code row shard =
    elim code.form [ Video ↦ inverse (bit_xor (code.parity + shard) row) | Audio ↦ slice_index (audio_row row) shard ]
