-- The limit of a capture.
use Rattle.std.specs.Prelude.{ℕ}
use Rattle.gs_capture.specs.declared.limits.TheConstants.{MOST_VIEWERS}

-- viewers of a capture
abbrev pub most_viewers : ℕ
most_viewers = MOST_VIEWERS
