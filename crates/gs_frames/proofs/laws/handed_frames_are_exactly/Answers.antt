use Rattle.gs_frames.proofs.HandedGrows.{handed_rise, handed_exactly}
use Rattle.gs_frames.proofs.laws.handed_frames_are_exactly.Goals as goal

pub returns-clause-rise : goal.returns-clause-rise
returns-clause-rise c = handed_rise

pub returns-clause-exactly : goal.returns-clause-exactly
returns-clause-exactly c = handed_exactly
