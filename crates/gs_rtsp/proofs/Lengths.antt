-- How long the texts of the set-up are at most.
use Rattle.std.proofs.Common.{◌≡◌, ℕ, ◌+◌, ◌^◌, ◌<◌, ◌≤◌, List, ◌++◌, length, codes, arith, length-append, lit<}
use Rattle.std.specs.Prelude.{decimal}
use Rattle.std.proofs.lemmas.Bool.Decides.{nat_tests}
use Rattle.std.proofs.lemmas.Fmt.{length-decimal-le}
use Rattle.gs_rtp.specs.declared.settings.Settings.{Settings}
use Rattle.gs_sdp.specs.declared.attributes.SettingName.TheVariants.{PacketSize, MaxFps, Minimum, Duration}
use Rattle.gs_sdp.specs.Lines.{line_text}
use Rattle.gs_sdp.specs.Table.{setting_name}
use Rattle.gs_rtp.specs.Stream.{StreamSettings}
use Rattle.gs_rtsp.specs.Reply.{description}
use Rattle.gs_rtsp.specs.Asking.{announcement}

pub short_decimal : (n : ℕ) → n < 10 ^ 5 → length (decimal n) ≤ 5
short_decimal n lt = length-decimal-le 5 n (lit< tt) lt (omega arith)

pub length_line : (name value : List ℕ) → length (line_text name value) ≡ length name + length value + 5
length_line name value = simp length-append (omega arith)

pub length_description : (offer : Settings) → length (description offer) ≤ 100
unfolding description
length_description offer =
    let first = line_text (setting_name Duration) (decimal offer.duration) in
    let second = line_text (codes "x-gs-audio.length") (decimal offer.audio) in
    let short : offer.duration ≤ 10 = grind (arith, nat_tests, offer.duration_known) in
    let duration : offer.duration < 10 ^ 5 = omega arith in
    let audio : offer.audio < 10 ^ 5 = omega (arith, offer.audio_greatest) in
    omega (
      arith,
      length-append first second,
      length_line (setting_name Duration) (decimal offer.duration),
      length_line (codes "x-gs-audio.length") (decimal offer.audio),
      short_decimal offer.duration duration,
      short_decimal offer.audio audio,
    )

pub length_announcement : (s : StreamSettings) → s.packet < 10 ^ 5 → s.fps < 10 ^ 5 → s.minimum < 10 ^ 5 → s.duration < 10 ^ 5
    → length (announcement s) ≤ 200
unfolding announcement
length_announcement s packet fps minimum duration =
    let a = line_text (setting_name PacketSize) (decimal s.packet) in
    let b = line_text (setting_name MaxFps) (decimal s.fps) in
    let c = line_text (setting_name Minimum) (decimal s.minimum) in
    let d = line_text (setting_name Duration) (decimal s.duration) in
    omega (
      arith,
      length-append (a ++ b ++ c) d,
      length-append (a ++ b) c,
      length-append a b,
      length_line (setting_name PacketSize) (decimal s.packet),
      length_line (setting_name MaxFps) (decimal s.fps),
      length_line (setting_name Minimum) (decimal s.minimum),
      length_line (setting_name Duration) (decimal s.duration),
      short_decimal s.packet packet,
      short_decimal s.fps fps,
      short_decimal s.minimum minimum,
      short_decimal s.duration duration,
    )
