-- Datagrams of another ssrc change nothing.
use Rattle.std.specs.Prelude.{◌≡◌, ◌≢◌, Bool, false, List, Some, All}
use Rattle.std.specs.List.{filter}
use Rattle.gs_rtp.specs.Stream.{StreamSettings}
use Rattle.gs_rtp.specs.declared.video.VideoHead.{VideoHead}
use Rattle.gs_rtp.specs.Video.{video_head}
use Rattle.gs_frames.specs.Client.{ClientSettings, Arrival, Datagram, Reset}
use Rattle.gs_frames.specs.Handed.{handed}
use Rattle.gs_frames.specs.Asks.{asks}

-- a datagram whose header reads, and says another ssrc
abbrev pub IsOfOtherSsrc : StreamSettings → Arrival → Type 0
IsOfOtherSsrc settings (Datagram bytes) =
    (head : VideoHead) × (video_head settings.packet bytes ≡ Some head) × (head.ssrc ≢ settings.ssrc)
IsOfOtherSsrc settings Reset = ⊥

-- Where what isn't kept is of another ssrc, what is kept hands the same frames and asks for the same ranges.
abbrev pub OtherSsrcChangesNothing : Type 0
OtherSsrcChangesNothing =
    (client : ClientSettings) (keep : Arrival → Bool) (came : List Arrival)
    → All (λ arrival. keep arrival ≡ false → IsOfOtherSsrc client.stream arrival) came
    → (handed client (filter keep came) ≡ handed client came) × (asks client (filter keep came) ≡ asks client came)
