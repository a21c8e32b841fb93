use Rattle.std.proofs.Common.{◌≡◌, List, length}
use Rattle.gs_refs.specs.declared.entry.Entry.{Entry}
use Rattle.gs_refs.specs.Candidates.{AreValidAbove}
use Rattle.gs_refs.proofs.ValidAbove.{AreValidBelow}
use Rattle.gs_refs.proofs.candidates.Candidates.drop_from.Given as goal

-- the frames left are the valid ones below the first, and perhaps some above that
abbrev pub invariant-loop-self : goal.invariant-loop-self
invariant-loop-self l = record {
  watermark : l.self.watermark ≡ l.initial.self.watermark;
  below : (h : List Entry) → AreValidAbove h l.initial.self.watermark l.initial.self.frames → AreValidBelow h l.self.watermark l.first l.self.frames;
}

abbrev pub decreases-loop-self : goal.decreases-loop-self
decreases-loop-self l = length l.self.frames
