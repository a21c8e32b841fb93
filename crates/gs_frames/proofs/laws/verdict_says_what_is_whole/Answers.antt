use Rattle.gs_frames.proofs.Verdicts.{verdict_says, no_other_counts}
use Rattle.gs_frames.proofs.WholeFrames.{frame_whole_exactly, whole_blocks, only_frame_whole, only_own_frame}
use Rattle.gs_frames.proofs.laws.verdict_says_what_is_whole.Goals as goal

pub returns-clause-counts : goal.returns-clause-counts
returns-clause-counts c = verdict_says

pub returns-clause-no_other : goal.returns-clause-no_other
returns-clause-no_other c = no_other_counts

pub returns-clause-whole : goal.returns-clause-whole
returns-clause-whole c = frame_whole_exactly

pub returns-clause-image : goal.returns-clause-image
returns-clause-image c = whole_blocks

pub returns-clause-completes : goal.returns-clause-completes
returns-clause-completes c = only_frame_whole

pub returns-clause-own : goal.returns-clause-own
returns-clause-own c = only_own_frame
