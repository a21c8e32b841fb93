-- The audio datagrams of the units that a session puts: each unit's own, and behind the last unit of each block those
-- of its two parity shards.
use Rattle.std.specs.Prelude.{ℕ, zero, suc, ◌-◌, ◌*◌, ◌/◌, ◌%◌, true, false, List, [], ◌∷◌, ◌++◌, length, take, drop}
use Rattle.std.specs.Prelude.{◌==◌, if◌then◌else◌}
use Rattle.std.specs.List.{flat_map, range_with_len}
use Rattle.gs_rs.specs.Shape.{audio_code}
use Rattle.gs_rs.specs.Shards.{parity_shard}
use Rattle.gs_rtp.specs.Stream.{StreamSettings}
use Rattle.gs_rtp.specs.Audio.{block_units, audio_header}

-- the unit of a number, from 0
abbrev pub numbered : List (List ℕ) → ℕ → List ℕ
numbered [] n = []
numbered (unit ∷ units) zero = unit
numbered (unit ∷ units) (suc n) = numbered units n

-- the units of a block
abbrev pub units_of_block : List (List ℕ) → ℕ → List (List ℕ)
units_of_block units block = take block_units (drop (block * block_units) units)

-- the datagram of a unit
abbrev pub unit_datagram : StreamSettings → List (List ℕ) → ℕ → List ℕ
unit_datagram settings units n =
    audio_header settings
    (record { parity = false; shard = n % block_units; block = n / block_units; ssrc = settings.ssrc })
    ++ numbered units n

-- the datagram of a parity shard of a block
abbrev pub parity_datagram : StreamSettings → List (List ℕ) → ℕ → ℕ → List ℕ
parity_datagram settings units block shard =
    audio_header settings (record { parity = true; shard = shard; block = block; ssrc = settings.ssrc })
    ++ parity_shard audio_code settings.audio (units_of_block units block) shard

-- a unit's datagram, and behind the last unit of a block its two parity datagrams
abbrev pub unit_datagrams : StreamSettings → List (List ℕ) → ℕ → List (List ℕ)
unit_datagrams settings units n =
    unit_datagram settings units n
    ∷ (if n % block_units == block_units - 1
    then parity_datagram settings units (n / block_units) 0 ∷ parity_datagram settings units (n / block_units) 1 ∷ []
    else [])

-- Those of all the units, in the order in which they go out.
abbrev pub audio_datagrams : StreamSettings → List (List ℕ) → List (List ℕ)
audio_datagrams settings units = flat_map (unit_datagrams settings units) (range_with_len 0 (length units))
