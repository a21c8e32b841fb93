use Rattle.std.proofs.Common.{◌≡◌}
use Rattle.gs_audio.proofs.tests.sent.Given as goal

-- as many units were pushed
abbrev pub invariant-units : goal.invariant-units
invariant-units l = record { size : l.sender.settings.audio ≡ 1; count : l.sender.pushed ≡ l.unit-index }
