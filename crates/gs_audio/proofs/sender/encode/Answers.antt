use Rattle.std.proofs.Common.{◌∙◌}
use Rattle.gs_audio.proofs.Sent.{encoded-parity}
use Rattle.gs_audio.proofs.sender.encode.Goals as goal

pub returns-clause-parity : goal.returns-clause-parity
returns-clause-parity c = λ units four sizes laid.
    encoded-parity c.args.size units c.split_at_mut-units.result.0.now c.encode.new.parity c.audio.result four sizes
    (c.split_at_mut-units.ensures.front ∙ laid) c.audio.ensures c.encode.ensures
