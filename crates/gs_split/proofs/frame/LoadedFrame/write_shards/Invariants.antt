-- so many blocks are laid end to end
use Rattle.std.proofs.Common.{◌≡◌, ◌*◌, take}
use Rattle.gs_rtp.specs.Stream.{numbers_of}
use Rattle.gs_frames.specs.Image.{frame_image}
use Rattle.gs_frames.specs.Shards.{payload_of}
use Rattle.gs_split.specs.Plans.{blocks_of}
use Rattle.gs_split.specs.Places.{datagrams_before}
use Rattle.gs_split.proofs.FrameShards.{laid}
use Rattle.gs_split.proofs.frame.LoadedFrame.write_shards.Given as goal

abbrev pub invariant-each : goal.invariant-each
invariant-each l =
    record {
      laid : take (datagrams_before l.number (blocks_of l.self.plan) * l.settings.packet) l.out
          ≡ laid (numbers_of l.settings) l.number l.self.count (blocks_of l.self.plan)
          (frame_image l.self.kind l.unit (payload_of (numbers_of l.settings)));
    }
