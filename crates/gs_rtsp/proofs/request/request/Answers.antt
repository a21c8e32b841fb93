use Rattle.std.proofs.Common.{◌≤◌, ◌<◌, ◌^◌, length, arith, ap}
use Rattle.gs_rtp.specs.Stream.{numbers_of}
use Rattle.gs_rtsp.specs.Asking.{request_body}
use Rattle.gs_rtsp.proofs.SendableRequests.{is_sendable}
use Rattle.gs_rtsp.proofs.request.request.Goals as goal

pub returns-clause-sendable : goal.returns-clause-sendable
returns-clause-sendable c =
    let s = c.args.settings.now in
    let ip : c.args.host.ip < 2 ^ 32 = omega arith in
    let port : c.args.host.port < 2 ^ 16 = omega arith in
    let body : length (request_body (numbers_of s) c.args.question) ≤ 200 =
    omega (arith, ap length c.in_ok-body.ensures.body, c.in_ok-body.ensures.length) in
    rw (
      c.method.ensures,
      c.in_ok-target.ensures,
      c.in_ok-headers.ensures,
      c.in_ok-body.ensures.body,
    ) (is_sendable c.args.host (numbers_of s) c.args.number c.args.question ip port (omega arith) s.ssrc_greatest body)
