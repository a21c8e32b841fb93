-- The limit of a code.
use Rattle.std.specs.Prelude.{ℕ}
use Rattle.gs_rs.specs.declared.limits.TheConstants.{MAX_SHARDS}

-- all shards of a block of a code
abbrev pub most_shards_of_code : ℕ
most_shards_of_code = MAX_SHARDS
