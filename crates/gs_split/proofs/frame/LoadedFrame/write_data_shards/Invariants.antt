-- so many of the block's data shards are laid end to end
use Rattle.std.proofs.Common.{◌≡◌, ◌*◌, take}
use Rattle.std.specs.List.{concat}
use Rattle.gs_rtp.specs.Stream.{numbers_of}
use Rattle.gs_split.specs.Loaded.{block_data}
use Rattle.gs_split.proofs.frame.LoadedFrame.write_data_shards.Given as goal

abbrev pub invariant-shards : goal.invariant-shards
invariant-shards l =
    record { laid : take (l.index * l.settings.packet) l.out ≡ concat (take l.index (block_data (numbers_of l.settings) l.self l.block l.unit)) }
