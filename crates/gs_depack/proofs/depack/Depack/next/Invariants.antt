use Rattle.std.proofs.Common.{◌-◌, ℕ, List, Option}
use Rattle.gs_frames.specs.Client.{ClientSettings, Arrival}
use Rattle.gs_frames.specs.Handed.{Handed}
use Rattle.gs_depack.specs.Depack.{Handing}
use Rattle.gs_depack.proofs.depack.Depack.next.Given as goal

-- what was passed so far wasn't handed
abbrev pub invariant-pass : goal.invariant-pass
invariant-pass l =
    (c : ClientSettings) (came : List Arrival) (unnoted : Option ℕ) (given : List Handed) → Handing l.initial.self c came unnoted given
    → Handing l.self c came unnoted given

abbrev pub decreases-pass : goal.decreases-pass
decreases-pass l = l.self.settled - l.self.passed
