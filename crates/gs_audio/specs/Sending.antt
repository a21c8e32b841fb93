-- What a sender keeps of the units that were pushed.
use Rattle.std.specs.Prelude.{ℕ, ◌≡◌, ◌+◌, ◌-◌, ◌*◌, ◌/◌, ◌%◌, ◌<◌, ◌≤◌, true, false, List, [], ◌∷◌, ◌++◌, length, take}
use Rattle.std.specs.Prelude.{All, ◌==◌, if◌then◌else◌}
use Rattle.std.specs.List.{concat}
use Rattle.gs_bytes.specs.Limits.{most_audio}
use Rattle.gs_rs.specs.Shape.{audio_code}
use Rattle.gs_rs.specs.Shards.{with_parity_shards}
use Rattle.gs_rtp.specs.Stream.{StreamSettings}
use Rattle.gs_rtp.specs.declared.audio.AudioHead.{AudioHead}
use Rattle.gs_rtp.specs.Audio.{block_units, units_end}
use Rattle.gs_rtp.specs.AudioDatagrams.{units_of_block, unit_datagrams, audio_datagrams}

-- The stream's settings, how many units were pushed, how many datagrams of the last one are ready, and the bytes of the
-- shards of its block.
pub record Sending : Type 0 where
  pub settings : StreamSettings
  pub pushed : ℕ
  pub ready : ℕ
  pub shards : List ℕ

-- the datagrams of the last unit: its own, and those of its block's parity where it is the block's last
abbrev pub last_datagrams : StreamSettings → List (List ℕ) → List (List ℕ)
last_datagrams settings units = unit_datagrams settings units (length units - 1)

-- the units of the last one's block up to it
abbrev pub last_block : List (List ℕ) → List (List ℕ)
last_block units = units_of_block units ((length units - 1) / block_units)

-- what is ready behind so many units
abbrev pub ready_behind : StreamSettings → List (List ℕ) → ℕ
ready_behind settings [] = 0
ready_behind settings (unit ∷ units) = length (last_datagrams settings (unit ∷ units))

-- the shards begin with these units, all of a block, and end with their parity
abbrev pub HasParityShards : ℕ → List (List ℕ) → List ℕ → Type 0
HasParityShards size units shards = shards ≡ concat (with_parity_shards audio_code size units)

-- These units were pushed, in this order: those of the last one's block are kept, with their parity where it is whole.
pub record HasPushed (s : Sending) (units : List (List ℕ)) : Type 0 where
  pub count : s.pushed ≡ length units
  pub sizes : All (λ unit. length unit ≡ s.settings.audio) units
  pub ready : s.ready ≡ ready_behind s.settings units
  pub kept : take (length (last_block units) * s.settings.audio) s.shards ≡ concat (last_block units)
  pub whole :
      length (last_block units) ≡ block_units
      → HasParityShards s.settings.audio (last_block units) s.shards

-- what a sender's fields have: room for the shards of a block, and at most so many units and datagrams
pub record IsSendingSound (audio pushed ready room : ℕ) : Type 0 where
  pub most : audio ≤ most_audio
  pub size : room ≡ 6 * audio
  pub few : pushed ≤ units_end
  pub some : 0 < ready → 0 < pushed
  pub few_ready : ready ≤ 3

-- One more unit adds its datagrams behind those of the units before it.
abbrev pub AudioDatagramsGrow : Type 0
AudioDatagramsGrow =
    (settings : StreamSettings) (units : List (List ℕ)) (unit : List ℕ)
    → audio_datagrams settings (units ++ unit ∷ [])
    ≡ audio_datagrams settings units ++ last_datagrams settings (units ++ unit ∷ [])

-- the units of the block that the next one joins
abbrev pub next_units : List (List ℕ) → List (List ℕ)
next_units units = units_of_block units (length units / block_units)

-- the head of a datagram that is ready behind so many units, by its number
abbrev pub ready_head : Sending → ℕ → AudioHead
ready_head s k =
    if k == 0
    then record {
      parity = false;
      shard = (s.pushed - 1) % block_units;
      block = (s.pushed - 1) / block_units;
      ssrc = s.settings.ssrc;
    }
    else record { parity = true; shard = k - 1; block = (s.pushed - 1) / block_units; ssrc = s.settings.ssrc }

-- the place of its shard
abbrev pub ready_place : Sending → ℕ → ℕ
ready_place s k = if k == 0 then (s.pushed - 1) % block_units else block_units + (k - 1)
