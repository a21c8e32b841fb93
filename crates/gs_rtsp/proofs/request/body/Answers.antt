use Rattle.std.proofs.Common.{◌≡◌, ◌≤◌, length, arith, ap, refl, ◌∙◌}
use Rattle.std.proofs.lemmas.Bool.Decides.{nat_tests}
use Rattle.std.proofs.lemmas.Result.{IfOk-weaker}
use Rattle.gs_rtp.specs.declared.settings.Settings.{Settings}
use Rattle.gs_rtp.specs.Stream.{numbers_of}
use Rattle.gs_sdp.specs.Table.{body_text}
use Rattle.gs_rtsp.specs.Asking.{announcement}
use Rattle.gs_rtsp.proofs.Lengths.{length_announcement}
use Rattle.gs_rtsp.proofs.request.body.Goals as goal

announced : (s : Settings) → body_text s ≡ announcement (numbers_of s)
unfolding announcement
announced s = refl

short : (s : Settings) → length (announcement (numbers_of s)) ≤ 200
short s =
    let few : s.duration ≤ 10 = grind (arith, nat_tests, s.duration_known) in
    length_announcement (numbers_of s) (omega (arith, s.packet_greatest)) (omega (arith, s.fps_greatest)) (omega (arith, s.minimum_greatest)) (omega arith)

pub returns-in-Announce-clause-body : goal.returns-in-Announce-clause-body
returns-in-Announce-clause-body c =
    let s = c.args.settings.now in
    rw c.in-Announce.is (IfOk-weaker c.body_of.result (λ text. text ≡ body_text s) (λ text. text ≡ announcement (numbers_of s)) (λ text e. e
    ∙ announced s) c.body_of.ensures)

pub returns-in-Announce-clause-length : goal.returns-in-Announce-clause-length
returns-in-Announce-clause-length c =
    let s = c.args.settings.now in
    IfOk-weaker c.body_of.result (λ text. text
    ≡ body_text s) (λ text. length text ≤ 200) (λ text e. omega (arith, ap length e, ap length (announced s), short s)) c.body_of.ensures
