-- A session that is opened is one that every deed keeps.
use Rattle.std.proofs.Common.{◌≡◌, ◌≤◌, ◌-◌, ℕ, true, ◌&&◌, [], refl, arith}
use Rattle.std.specs.Prelude.{nat_le}
use Rattle.std.specs.List.{Contains}
use Rattle.std.proofs.lemmas.Bool.{and_parts, leb-true}
use Rattle.std.proofs.lemmas.List.Elements.{All-nil}
use Rattle.gs_tape.specs.Limits.{most_audio}
use Rattle.gs_frames.specs.Asks.{asks, asks_of}
use Rattle.gs_stream.specs.Video.{video_stream}
use Rattle.gs_stream.specs.Audio.{audio_stream}
use Rattle.gs_stream.specs.Paired.{IsOfStream}
use Rattle.gs_run.specs.CaptureFile.{CaptureFile}
use Rattle.gs_run.specs.Connection.{both_written_out, settled_part}
use Rattle.gs_run.specs.Hearing.{up_taken, down_taken}
use Rattle.gs_run.specs.Opening.{client_of, most_sessions, numbers_are_allowed, session_settings, new_part, opened_part}
use Rattle.gs_run.specs.RunLaws.{IsCapture}
use Rattle.gs_run.proofs.TwoSides.{new_gives}
use Rattle.gs_run.proofs.Standing.{IsKeptPart, written_keeps, settled_keeps}
use Rattle.gs_run.proofs.Deeds.{up_keeps, down_keeps}

new_keeps : (file : CaptureFile) (host_id now number packet percentage minimum window : ℕ) → IsCapture file → 1 ≤ number → number ≤ most_sessions
    → numbers_are_allowed packet percentage minimum window ≡ true
    → IsKeptPart file.ticks (new_part host_id now (client_of (session_settings file number packet percentage minimum) window))
unfolding asks asks_of
new_keeps file host_id now number packet percentage minimum window capture least most test =
    let a = and_parts (nat_le 1024 packet && nat_le packet 1440 && nat_le percentage 100 && nat_le minimum 2 && nat_le 1 window) (nat_le window 4) test in
    let b = and_parts (nat_le 1024 packet && nat_le packet 1440 && nat_le percentage 100 && nat_le minimum 2) (nat_le 1 window) a.0 in
    let c = and_parts (nat_le 1024 packet && nat_le packet 1440 && nat_le percentage 100) (nat_le minimum 2) b.0 in
    let d = and_parts (nat_le 1024 packet && nat_le packet 1440) (nat_le percentage 100) c.0 in
    let e = and_parts (nat_le 1024 packet) (nat_le packet 1440) d.0 in
    let audio : file.audio ≤ most_audio = capture.audio in
    let settings = client_of (session_settings file number packet percentage minimum) window in
    record {
      window = record { least = leb-true 1 window b.1; greatest = leb-true window 4 a.1 };
      history = record {
        limits = record {
          packet_least = leb-true 1024 packet e.0;
          packet_greatest = leb-true packet 1440 e.1;
          percentage_greatest = leb-true percentage 100 d.1;
          minimum_greatest = leb-true minimum 2 c.1;
          fps_least = omega arith;
          fps_greatest = omega arith;
          duration_known = capture.duration;
          audio_greatest = omega arith;
          ssrc_least = omega (arith, least);
          ssrc_greatest = omega (arith, most);
        };
        capture = capture.ticks;
        bytes = capture.bytes;
        legal = tt;
      };
      goes_on = refl;
      sent = All-nil (IsOfStream (video_stream settings.stream file.ticks []));
      sound_sent = All-nil (Contains (audio_stream settings.stream file.ticks []));
      both = new_gives 0 number number now host_id 0 number now;
      calm_client = record { heard_few = λ c. omega arith; given_few = λ c. omega arith };
      calm_host = record { heard_few = λ c. omega arith; given_few = λ c. omega arith };
      few = omega arith;
      asked = [];
      on_channel = refl;
      others = λ c apart. tt;
      lost = refl;
      fitting = tt;
      acted = refl;
    }

pub opened_keeps : (file : CaptureFile) (session now packet percentage minimum window : ℕ) → IsCapture file → 1 ≤ session → session ≤ most_sessions
    → numbers_are_allowed packet percentage minimum window ≡ true
    → IsKeptPart file.ticks (opened_part session now (client_of (session_settings file session packet percentage minimum) window))
unfolding opened_part
opened_keeps file session now packet percentage minimum window capture least most test =
    let ticks = file.ticks in
    let settings = client_of (session_settings file session packet percentage minimum) window in
    let new = new_part (session - 1) now settings in
    let written = both_written_out now new in
    let first = written_keeps ticks now new (new_keeps file (session - 1) now session packet percentage minimum window capture least most test) in
    let verified = settled_part now (down_taken session now 1 written).value in
    let second = settled_keeps ticks now (down_taken session now 1 written).value (down_keeps ticks session now 1 written first) in
    settled_keeps ticks now (up_taken session now 2 verified).value (up_keeps ticks session now 2 verified second)
