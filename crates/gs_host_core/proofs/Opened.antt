-- A host of which nothing was sent.
use Rattle.std.proofs.Common.{◌≡◌, ◌≤◌, ◌%◌, ◌^◌, List, [], length, sym, ap, subst, ◌∙◌, arith}
use Rattle.gs_rtp.specs.Limits.{most_packet}
use Rattle.gs_rtp.specs.Stream.{StreamSettings}
use Rattle.gs_tape.specs.Tick.{Tick}
use Rattle.gs_refs.specs.declared.entry.Entry.{Entry}
use Rattle.gs_refs.specs.History.{frames, last_tick}
use Rattle.gs_audio.specs.Sending.{Sending, HasPushed}
use Rattle.gs_stream.specs.Video.{video_stream}
use Rattle.gs_stream.specs.Audio.{audio_units}
use Rattle.gs_host_core.specs.Hosting.{Hosting, IsHostingSound, StandsOver}

pub stands-fresh : (host : Hosting) (ticks : List Tick) → host.history ≡ [] → host.count ≡ 0 → HasPushed host.audio [] → StandsOver host ticks
unfolding video_stream audio_units
stands-fresh host ticks none count pushed = record {
  video = ap (λ (h : List Entry). length (video_stream host.settings ticks h) % 2 ^ 32) none ∙ sym count;
  audio = subst (λ (h : List Entry). HasPushed host.audio (audio_units ticks h)) (sym none) pushed;
}

pub sound-fresh : (s : StreamSettings) (h : List Entry) (x : Sending) → h ≡ [] → s.packet ≤ most_packet → x.settings ≡ s → x.pushed ≡ 0 → IsHostingSound s h x
sound-fresh s h x none packet same pushed =
    let sent : frames h ≡ 0 = ap frames none in
    let last : last_tick h ≡ 0 = ap last_tick none in
    record {
      packet = packet;
      same_settings = same;
      few_frames = omega (arith, sent);
      few_ticks = omega (arith, last);
      few_units = omega (arith, pushed);
    }
