use Rattle.std.proofs.Common.{append_assoc}
use Rattle.gs_rtsp.proofs.response.push_stream.Goals as goal

pub returns : goal.returns
returns c = rw (
  c.in_ok-push_field-2.ensures,
  c.in_ok-push_field.ensures,
  c.in_ok-push.ensures.items,
  c.in_ok-session_header.ensures,
  c.data_field.ensures,
  c.from.ensures,
  c.port.ensures,
) (simp append_assoc)
