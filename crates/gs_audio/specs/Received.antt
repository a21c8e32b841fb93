-- What a client takes of audio datagrams. Every list here has the newest member first: what stands behind a member came
-- before it.
use Rattle.std.specs.Prelude.{ℕ, ◌+◌, ◌-◌, List, length, drop, map, Option, Some, None, ◌==◌, if◌then◌else◌}
use Rattle.std.specs.List.{filter, filter_map}
use Rattle.gs_rs.specs.Shards.{HeldShard}
use Rattle.gs_rtp.specs.Stream.{StreamSettings}
use Rattle.gs_rtp.specs.declared.audio.AudioHead.{AudioHead}
use Rattle.gs_rtp.specs.Audio.{block_units, audio_head}

-- a datagram in the grammar, of the session: its block, and the shard of it that it carries
pub record AudioShard : Type 0 where
  pub block : ℕ
  pub shard : HeldShard

-- the number of a shard in its block: first the units, then the parity shards
abbrev pub shard_number : AudioHead → ℕ
shard_number head = if head.parity then block_units + head.shard else head.shard

-- the shard that such a datagram carries: its last bytes
abbrev pub carried_audio : StreamSettings → List ℕ → AudioHead → AudioShard
carried_audio settings bytes head = record {
  block = head.block;
  shard = record { index = shard_number head; bytes = drop (length bytes - settings.audio) bytes };
}

abbrev pub audio_of_session : StreamSettings → List ℕ → Option AudioHead → Option AudioShard
audio_of_session settings bytes None = None
audio_of_session settings bytes (Some head) =
    if head.ssrc == settings.ssrc then Some (carried_audio settings bytes head) else None

-- what a client takes of the bytes that came: nothing where they aren't a datagram of its session
unfoldable pub received_audio : StreamSettings → List ℕ → Option AudioShard
received_audio settings bytes = audio_of_session settings bytes (audio_head settings bytes)

-- what is taken of all that came
abbrev pub taken_audio : StreamSettings → List (List ℕ) → List AudioShard
taken_audio settings came = filter_map (received_audio settings) came

-- the shards among them that are of a block
abbrev pub shards_of_block : ℕ → List AudioShard → List HeldShard
shards_of_block block rs = map (λ r. r.shard) (filter (λ r. r.block == block) rs)
